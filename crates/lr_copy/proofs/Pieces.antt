-- What is read and appended, piece by piece.
use Rattle.std.proofs.Common.{◌≡◌, refl, sym, ◌∙◌, ap, subst, ℕ, ◌+◌, ◌≤◌, ◌<◌, arith, List, [], ◌∷◌, ◌++◌, take, length, append_assoc, append-nil, Option}
use Rattle.std.specs.Prelude.{filter}
use Rattle.std.proofs.lemmas.List.{length-append, length-take-le}
use Rattle.std.proofs.lemmas.List.Elements.{filter-append}
use Rattle.lr_rules.specs.declared.path.Path.{Path}
use Rattle.lr_host.specs.declared.entry.Entry.{Entry}
use Rattle.lr_host.specs.declared.entry.Entry.TheVariants.{Reads, Appends}
use Rattle.lr_host.specs.declared.journal.Journal.{Journal}
use Rattle.lr_host.specs.Reading.{text, AreJoined}
use Rattle.lr_host.proofs.Reading.{text_both}
use Rattle.lr_host.specs.Steps.{is_naming}
use Rattle.lr_host.specs.Appending.{Appended, no_more, piece_more, AppendBroke}
use Rattle.lr_host.specs.Told.{Left}
use Rattle.lr_host.proofs.Left.{left_first, left_then, left_as}
use Rattle.lr_copy.specs.declared.job.BytesStop.TheVariants as broke
use Rattle.lr_copy.specs.Bytes.{Copying, none_read, read_more, took_more, appended, AllBytes, BytesBroke}

-- ---- what names nothing

named_both : (xs ys : List Entry) → filter is_naming xs ≡ [] → filter is_naming ys ≡ [] → filter is_naming (xs ++ ys) ≡ []
named_both xs ys a b = filter-append is_naming xs ys ∙ (ap (λ zs. zs ++ filter is_naming ys) a ∙ b)

-- ---- reads and appends

-- appends behind a copy so far
takes_on : (from to : Path) (bytes owed rest : List ℕ) (ts us : List Entry) → Copying from to bytes (owed ++ rest) ts → Appended to owed us → Copying from to bytes rest (ts ++ us)
takes_on from to bytes _ rest ts _ c no_more = subst (Copying from to bytes rest) (sym (append-nil ts)) c
takes_on from to bytes _ rest ts _ c (piece_more piece owed {ts = us} a) =
    subst (Copying from to bytes rest) (append_assoc ts (Appends to piece ∷ []) us)
    (takes_on from to bytes owed rest (ts ++ Appends to piece ∷ []) us (took_more piece (owed ++ rest) (subst (λ (xs : List ℕ). Copying from to bytes xs ts) (append_assoc piece owed rest) c)) a)

-- so many bytes were read, and these of them are owed
abbrev pub Owes : Path → Path → ℕ → List ℕ → List Entry → Type 0
Owes from to count owed ts = (bytes : List ℕ) × (count ≡ length bytes) × Copying from to bytes owed ts

pub owes_first : (from to : Path) (o : Option Journal) → Left (Owes from to 0 []) o o
owes_first from to o = left_first (Owes from to 0 []) o ([], refl, none_read)

-- a read gave bytes
pub owes_more : (from to : Path) (count more : ℕ) (into : List ℕ) {o m n : Option Journal} → more ≤ length into → length into ≤ 65536 → (more ≡ 0 → ⊥) → Left (Owes from to count []) o m → Left (λ ts. ts ≡ Reads from count (take more into) ∷ []) m n → Left (Owes from to (count + more) (take more into)) o n
owes_more from to count more into le small some l r = left_then l r (λ ts us h e. (h.0 ++ take more into, longer h.0 h.1, subst (λ (vs : List Entry). Copying from to (h.0 ++ take more into) (take more into) (ts ++ vs)) (sym (at_end h.0 us h.1 e)) (read_more h.2 (take more into) (λ none. some (sym long ∙ ap length none)) (omega (arith, long, le, small)))))
  where
    long : length (take more into) ≡ more
    long = length-take-le more into le

    longer : (bytes : List ℕ) → count ≡ length bytes → count + more ≡ length (bytes ++ take more into)
    longer bytes e = let a : length (bytes ++ take more into) ≡ length bytes + length (take more into) = length-append bytes (take more into) in omega (arith, a, e, long)

    at_end : (bytes : List ℕ) (us : List Entry) → count ≡ length bytes → us ≡ Reads from count (take more into) ∷ [] → us ≡ Reads from (length bytes) (take more into) ∷ []
    at_end bytes us e is = is ∙ ap (λ (k : ℕ). Reads from k (take more into) ∷ []) e

-- they were appended
pub owes_none : (from to : Path) (count : ℕ) (piece : List ℕ) {o m n : Option Journal} → Left (Owes from to count piece) o m → Left (Appended to piece) m n → Left (Owes from to count []) o n
owes_none from to count piece l t = left_then l t (λ ts us h k. (h.0, h.1, takes_on from to h.0 piece [] ts us (subst (λ (xs : List ℕ). Copying from to h.0 xs ts) (sym (append-nil piece)) h.2) k))

-- a read failed
pub read_broke : (from to : Path) (limit count : ℕ) {o m n : Option Journal} → count ≤ limit → Left (Owes from to count []) o m → Left (λ ts. ts ≡ []) m n → Left (BytesBroke from to limit broke.Read) o n
read_broke from to limit count le l r = left_then l r (λ ts us h e. (h.0, subst (λ (k : ℕ). k ≤ limit) h.1 le, subst (λ (vs : List Entry). Copying from to h.0 [] (ts ++ vs)) (sym e) (subst (Copying from to h.0 []) (sym (append-nil ts)) h.2)))

-- an append failed
pub append_broke : (from to : Path) (limit count : ℕ) (piece : List ℕ) {o m n : Option Journal} → count ≤ limit → Left (Owes from to count piece) o m → Left (AppendBroke to piece) m n → Left (BytesBroke from to limit broke.Append) o n
append_broke from to limit count piece le l t = left_then l t (λ ts us h k. (h.0, piece, subst (λ (n : ℕ). n ≤ limit) h.1 le, record { front = ts; back = us; joined = refl; first = h.2; second = k }))

-- more than the limit was read
pub too_long : (from to : Path) (limit count : ℕ) (piece : List ℕ) {o n : Option Journal} → limit < count → Left (Owes from to count piece) o n → Left (BytesBroke from to limit broke.TooLong) o n
too_long from to limit count piece lt l = left_as l (λ ts h. (h.0, piece, subst (λ (k : ℕ). limit < k) h.1 lt, h.2))

-- a read gave nothing
pub copies_all : (from to : Path) (limit count more : ℕ) (into : List ℕ) {o m n : Option Journal} → count ≤ limit → more ≡ 0 → Left (Owes from to count []) o m → Left (λ ts. ts ≡ Reads from count (take more into) ∷ []) m n → Left (AllBytes from to limit count) o n
copies_all from to limit count more into le none l r = left_then l r (λ ts us h e. record {
  bytes = h.0;
  count_is = h.1;
  within = subst (λ (k : ℕ). k ≤ limit) h.1 le;
  entries = record { front = ts; back = us; joined = refl; first = h.2; second = e ∙ (ap (λ (k : ℕ). Reads from count (take k into) ∷ []) none ∙ ap (λ (k : ℕ). Reads from k [] ∷ []) h.1) };
})

-- neither reads nor appends name anything
copying_names : (from to : Path) (bytes owed : List ℕ) (ts : List Entry) → Copying from to bytes owed ts → filter is_naming ts ≡ []
copying_names from to _ _ _ none_read = refl
copying_names from to _ _ _ (read_more {bytes = bytes} {ts = ts} c piece some short) = named_both ts (Reads from (length bytes) piece ∷ []) (copying_names from to bytes [] ts c) refl
copying_names from to bytes owed _ (took_more {ts = ts} piece _ c) = named_both ts (Appends to piece ∷ []) (copying_names from to bytes (piece ++ owed) ts c) refl

pub all_name_none : (from to : Path) (limit count : ℕ) (ts : List Entry) → AllBytes from to limit count ts → filter is_naming ts ≡ []
all_name_none from to limit count ts a =
    ap (filter is_naming) a.entries.joined
    ∙ named_both a.entries.front a.entries.back (copying_names from to a.bytes [] a.entries.front a.entries.first) (ap (filter is_naming) a.entries.second)

-- ---- what they show

appended_both : (xs ys : List Entry) → appended (xs ++ ys) ≡ appended xs ++ appended ys
appended_both [] ys = refl
appended_both (Appends x piece ∷ xs) ys = ap (λ zs. piece ++ zs) (appended_both xs ys) ∙ sym (append_assoc piece (appended xs) (appended ys))
appended_both (_ ∷ xs) ys = appended_both xs ys

joined_both : (place : ℕ) (xs ys : List Entry) → AreJoined place xs → AreJoined (place + length (text xs)) ys → AreJoined place (xs ++ ys)
joined_both place [] ys a b = subst (λ (k : ℕ). AreJoined k ys) (omega arith) b
joined_both place (Reads x from piece ∷ xs) ys a b =
    let long : length (piece ++ text xs) ≡ length piece + length (text xs) = length-append piece (text xs) in
    (a.0, joined_both (place + length piece) xs ys a.1 (subst (λ (k : ℕ). AreJoined k ys) (omega (arith, long)) b))
joined_both place (_ ∷ xs) ys a b = joined_both place xs ys a b

pub shows : (from to : Path) (bytes owed : List ℕ) (ts : List Entry) → Copying from to bytes owed ts → (text ts ≡ bytes) × AreJoined 0 ts × (appended ts ++ owed ≡ bytes)
shows from to _ _ _ none_read = (refl, tt, refl)
shows from to _ _ _ (read_more {bytes = bytes} {ts = ts} c piece some short) =
    let h = shows from to bytes [] ts c in
    let e = Reads from (length bytes) piece in (
      text_both ts (e ∷ []) ∙ (ap (λ xs. text ts ++ xs) (append-nil piece) ∙ ap (λ xs. xs ++ piece) h.0),
      joined_both 0 ts (e ∷ []) h.1 (let long : length (text ts) ≡ length bytes = ap length h.0 in omega (arith, long), tt),
      ap (λ xs. xs ++ piece) (appended_both ts (e ∷ []) ∙ h.2),
    )
shows from to bytes owed _ (took_more {ts = ts} piece _ c) =
    let h = shows from to bytes (piece ++ owed) ts c in
    let e = Appends to piece in (
      text_both ts (e ∷ []) ∙ (append-nil (text ts) ∙ h.0),
      joined_both 0 ts (e ∷ []) h.1 tt,
      ap (λ xs. xs ++ owed) (appended_both ts (e ∷ []) ∙ ap (λ xs. appended ts ++ xs) (append-nil piece)) ∙ (append_assoc (appended ts) piece owed ∙ h.2),
    )
