-- What reads of one path leave.
use Rattle.std.proofs.Common.{◌≡◌, ◌≤◌, ◌<◌, ◌⊎◌, inl, inr, ℕ, zero, suc, ◌+◌, take, false, List, [], ◌∷◌, ◌++◌, length, refl, sym, ap, ◌∙◌, subst, arith, length-append, length-drop, drop, Option}
use Rattle.std.proofs.lemmas.List.{append-nil, nil_from_length}
use Rattle.lr_rules.specs.declared.path.Path.{Path}
use Rattle.lr_rules.specs.Path.{is_empty}
use Rattle.lr_host.specs.declared.entry.Entry.{Entry}
use Rattle.lr_host.specs.declared.entry.Entry.TheVariants.{Reads}
use Rattle.lr_host.specs.declared.journal.Journal.{Journal}
use Rattle.lr_host.specs.Told.{Left, Are}
use Rattle.lr_host.specs.Reading.{IsReadOf, text, AreJoined, ReadsOf, ReadsAll, to_limit, to_end}
use Rattle.lr_host.proofs.Left.{left_first, left_as, left_then}
use Rattle.lr_host.proofs.Each.{each_append}
use Rattle.lr_host.proofs.Reading.{text_both, some_more}
use Rattle.lr_include.specs.Visits.{ReadsBroken, ReadsSome, ReadsPartly, ReadsOnce}

pub reads_first : (path : Path) (bytes : List ℕ) (o : Option Journal) → bytes ≡ [] → Left (ReadsOf path bytes) o o
reads_first path bytes o e = left_first (ReadsOf path bytes) o (record { only = tt; joined = tt; some = refl; bytes_are = sym e })

joined_more : (place : ℕ) (ts : List Entry) (path : Path) (from : ℕ) (piece : List ℕ) → AreJoined place ts → from ≡ place + length (text ts) → AreJoined place (ts ++ Reads path from piece ∷ [])
joined_more place [] path from piece j e = (omega (arith, e), tt)
joined_more place (Reads x begin bytes ∷ ts) path from piece j e =
    (j.0, joined_more (place + length bytes) ts path from piece j.1 (omega (arith, e, length-append bytes (text ts))))
joined_more place (_ ∷ ts) path from piece j e = joined_more place ts path from piece j e

pub read_more : (path : Path) (bytes piece : List ℕ) (ts us : List Entry) → is_empty piece ≡ false → ReadsOf path bytes ts → us ≡ Reads path (length bytes) piece ∷ [] → ReadsOf path (bytes ++ piece) (ts ++ us)
read_more path bytes piece ts us gave r e = subst (λ vs. ReadsOf path (bytes ++ piece) (ts ++ vs)) (sym e) (record {
  only = each_append (IsReadOf path) ts (Reads path (length bytes) piece ∷ []) r.only (refl, tt);
  joined = joined_more 0 ts path (length bytes) piece r.joined (omega (arith, ap length r.bytes_are));
  some = some_more ts (Reads path (length bytes) piece) r.some gave;
  bytes_are = text_both ts (Reads path (length bytes) piece ∷ []) ∙ (ap (λ bs. text ts ++ bs) (append-nil piece) ∙ ap (λ bs. bs ++ piece) r.bytes_are);
})

-- one read more, which gave some
pub reads_more : (path : Path) (bytes piece all : List ℕ) {o m n : Option Journal} → is_empty piece ≡ false → Left (ReadsOf path bytes) o m → Left (Are (Reads path (length bytes) piece ∷ [])) m n
    → all ≡ bytes ++ piece → Left (ReadsOf path all) o n
reads_more path bytes piece all gave a b e = left_then a b (λ ts us r q. subst (λ bs. ReadsOf path bs (ts ++ us)) (sym e) (read_more path bytes piece ts us gave r q))

-- a last read, which gave nothing
pub reads_end : (path : Path) (limit : ℕ) (bytes all : List ℕ) {o m n : Option Journal} → length bytes < limit → Left (ReadsOf path bytes) o m → Left (Are (Reads path (length bytes) [] ∷ [])) m n → all ≡ bytes → Left (ReadsAll path limit all) o n
reads_end path limit bytes all lt a b e = left_then a b (λ ts us r q. subst (λ bs. ReadsAll path limit bs (ts ++ us)) (sym e) (to_end lt (record { front = ts; back = us; joined = refl; first = r; second = q })))

-- as many bytes as the limit
pub reads_full : (path : Path) (limit : ℕ) (bytes : List ℕ) {o n : Option Journal} → Left (ReadsOf path bytes) o n → length bytes ≡ limit → Left (ReadsAll path limit bytes) o n
reads_full path limit bytes l e = left_as l (λ ts r. to_limit e r)

-- ---- a first part of a reading

at_limit : (n limit : ℕ) → n ≤ limit → (n < limit) ⊎ (n ≡ limit)
at_limit zero zero le = inr refl
at_limit zero (suc limit) le = inl (omega arith)
at_limit (suc n) zero le = absurd (omega (arith, le))
at_limit (suc n) (suc limit) le = more (at_limit n limit (omega (arith, le)))
  where
    more : (n < limit) ⊎ (n ≡ limit) → (suc n < suc limit) ⊎ (suc n ≡ suc limit)
    more (inl few) = inl (omega (arith, few))
    more (inr all) = inr (ap suc all)

-- what was read so far
pub reads_so_far : (path : Path) (limit : ℕ) (bytes : List ℕ) (ts : List Entry) → length bytes ≤ limit → ReadsOf path bytes ts → ReadsSome path limit bytes ts
reads_so_far path limit bytes ts le r = go (at_limit (length bytes) limit le)
  where
    go : (length bytes < limit) ⊎ (length bytes ≡ limit) → ReadsSome path limit bytes ts
    go (inl few) = inl (few, r)
    go (inr all) = inr (to_limit all r)

pub none_so_far : (path : Path) (limit : ℕ) (o : Option Journal) → Left (ReadsPartly path limit) o o
none_so_far path limit o = left_first (ReadsPartly path limit) o ([], reads_so_far path limit [] [] (omega arith) (record { only = tt; joined = tt; some = refl; bytes_are = refl }))

pub one_read : (path : Path) (from size : ℕ) (piece : List ℕ) {o n : Option Journal} → length piece ≤ size → Left (λ ts. ts ≡ Reads path from piece ∷ []) o n → Left (ReadsOnce path from size) o n
one_read path from size piece le l = left_as l (λ ts e. (piece, le, e))

-- one read more, of so many bytes at most, for which there was no memory
pub reads_partly : (path : Path) (limit size : ℕ) (bytes : List ℕ) {o m n : Option Journal} → length bytes < limit → length bytes + size ≤ limit → Left (ReadsOf path bytes) o m → Left (ReadsOnce path (length bytes) size) m n → Left (ReadsPartly path limit) o n
reads_partly path limit size bytes lt le a b = left_then a b (λ ts us r q. some_by q.0 ts us q.1 r q.2)
  where
    some_by : (piece : List ℕ) (ts us : List Entry) → length piece ≤ size → ReadsOf path bytes ts → us ≡ Reads path (length bytes) piece ∷ [] → ReadsPartly path limit (ts ++ us)
    some_by [] ts us short r e = (bytes, inr (to_end lt (record { front = ts; back = us; joined = refl; first = r; second = e })))
    some_by (b ∷ piece) ts us short r e = (bytes ++ (b ∷ piece), reads_so_far path limit (bytes ++ (b ∷ piece)) (ts ++ us) (omega (arith, le, short, length-append bytes (b ∷ piece))) (read_more path bytes (b ∷ piece) ts us refl r e))

-- none more, since it failed
pub reads_broken : (path : Path) (limit : ℕ) (bytes : List ℕ) {o m n : Option Journal} → length bytes < limit → Left (ReadsOf path bytes) o m → Left (Are []) m n → Left (ReadsBroken path limit) o n
reads_broken path limit bytes lt a b = left_then a b (λ ts us r e. (bytes, lt, subst (ReadsOf path bytes) (sym (ap (λ (vs : List Entry). ts ++ vs) e ∙ append-nil ts)) r))

-- ---- what a read gave

-- a read by its place and its piece
pub read_as : (path : Path) (from from' : ℕ) (piece piece' : List ℕ) {o n : Option Journal} → Left (λ ts. ts ≡ Reads path from piece ∷ []) o n → from ≡ from' → piece ≡ piece' → Left (Are (Reads path from' piece' ∷ [])) o n
read_as path from from' piece piece' l e f = left_as l (λ ts is. is ∙ (ap (λ (k : ℕ). Reads path k piece ∷ []) e ∙ ap (λ (bs : List ℕ). Reads path from' bs ∷ []) f))

-- what was added was nothing
pub none_added : (old new : List ℕ) → length new ≡ length old → drop (length old) new ≡ []
none_added old new e = nil_from_length (drop (length old) new) (omega (arith, length-drop (length old) new))

pub same_bytes : (old new : List ℕ) → new ≡ old ++ drop (length old) new → length new ≡ length old → new ≡ old
same_bytes old new e l = e ∙ (ap (λ bs. old ++ bs) (none_added old new l) ∙ append-nil old)

some_long : (piece : List ℕ) (count : ℕ) → length piece ≡ count → (count ≡ 0 → ⊥) → is_empty piece ≡ false
some_long [] count e some = absurd (some (sym e))
some_long (b ∷ piece) count e some = refl

-- what was added was something
pub some_added : (old new : List ℕ) (count : ℕ) → length new ≡ length old + count → (count ≡ 0 → ⊥) → is_empty (drop (length old) new) ≡ false
some_added old new count e some = some_long (drop (length old) new) count (omega (arith, e, length-drop (length old) new)) some

pub take_short : {A : Type 0} (n : ℕ) (xs : List A) → length (take n xs) ≤ n
take_short zero xs = omega arith
take_short (suc n) [] = omega arith
take_short (suc n) (x ∷ xs) = let r : length (take n xs) ≤ n = take_short n xs in omega arith
