-- What is read of the state is fixed by the entries of its reading, and so is where they end.
use Rattle.std.proofs.Common.{◌≡◌, ◌≤◌, ◌<◌, ◌+◌, inl, inr, ℕ, Bool, true, false, List, [], ◌∷◌, ◌++◌, length, Result, Ok, Err, refl, sym, ap, ◌∙◌, subst, arith, append_assoc, length-append}
use Rattle.lr_rules.specs.declared.fault.CallKind.TheVariants as call
use Rattle.lr_rules.specs.declared.fault.Fault.{Fault}
use Rattle.lr_rules.specs.declared.fault.Fault.TheVariants as fault
use Rattle.lr_rules.specs.declared.path.Path.{Path}
use Rattle.lr_rules.specs.StatePath.{state_part}
use Rattle.lr_rules.proofs.Heads.{heads, tails}
use Rattle.lr_host.specs.declared.entry.Entry.{Entry}
use Rattle.lr_host.specs.declared.entry.Entry.TheVariants as entry
use Rattle.lr_host.specs.Counted.{call_in}
use Rattle.lr_host.proofs.Fronts.{front_same}
use Rattle.lr_state.specs.declared.look.LookStop.{LookStop}
use Rattle.lr_state.specs.Known.{Known, IsKnownBy, IsKnownBehind, IsKnownOf, IsKnown, text_read}
use Rattle.lr_state.specs.ReadPieces.{Reading, Whole, Broken, AreSome, IsLast, IsReading, bytes_of, reads_from}
use Rattle.lr_state.specs.Sights.{StateSight, Failed, Nothing, Saw, StateSights, ShowsState, found, state_look, text_entries, behind_part, part_entries, behind_state, state_entries}
use Rattle.lr_state.proofs.One.{one_answer, SameLook, same_look}

-- it isn't a failed call by which nothing is known
abbrev pub NoCall : Known → Type 0
NoCall (Ok remembered) = Unit {0}
NoCall (Err f) = call_in f ≡ 0

-- by a failed call it is
failed_call : (known : Known) (f : Fault) → known ≡ Err f → call_in f ≡ 1 → NoCall known → ⊥
failed_call known f e one none = let z : call_in f ≡ 0 = subst NoCall e none in omega (arith, one, z)

-- What two parts that begin the same entries have in common.
pub record OnePart (ts us vs ws : List Entry) : Type 0 where
  pub entries_are : ts ≡ us
  pub rest_is : vs ≡ ws

-- ---- one look

same_sight : (path : Path) (a b : StateSight) (vs ws : List Entry) → (a ≡ Failed → ⊥) → (b ≡ Failed → ⊥) → state_look path a ++ vs ≡ state_look path b ++ ws → SameLook a b vs ws
same_sight path a b vs ws f g e = same_look path a b vs ws (λ i. absurd (f i)) (λ i. absurd (g i)) e

-- ---- one text

-- These pieces and the last are those of a reading from this place on.
record EndsAt (size place : ℕ) (pieces : List (List ℕ)) (last : List ℕ) : Type 0 where
  some : AreSome size pieces
  within : place + length (bytes_of pieces) ≤ 67_108_864
  last_is : IsLast (place + length (bytes_of pieces)) last

-- so are those behind the first
ends_on : (size place : ℕ) (piece : List ℕ) (pieces : List (List ℕ)) (last : List ℕ) → EndsAt size place (piece ∷ pieces) last → EndsAt size (place + length piece) pieces last
ends_on size place piece pieces last h = record {
  some = h.some.2;
  within = let w : place + length (piece ++ bytes_of pieces) ≤ 67_108_864 = h.within in omega (arith, w, length-append piece (bytes_of pieces));
  last_is = subst (λ n. IsLast n last) more h.last_is;
}
  where
    more : place + length (piece ++ bytes_of pieces) ≡ place + length piece + length (bytes_of pieces)
    more = omega (arith, length-append piece (bytes_of pieces))

-- a last piece isn't one behind which the reading goes on
not_last : (size place : ℕ) (last piece : List ℕ) (pieces : List (List ℕ)) (other : List ℕ) → last ≡ piece → EndsAt size place [] last → EndsAt size place (piece ∷ pieces) other → ⊥
not_last size place last piece pieces other e h g = go h.last_is
  where
    go : IsLast (place + 0) last → ⊥
    go (inl none) = let some : 0 < length piece = g.some.0 in let no : length piece ≡ 0 = ap length (sym e ∙ none) in omega (arith, some, no)
    go (inr past) =
        let w : place + length (piece ++ bytes_of pieces) ≤ 67_108_864 = g.within in
        let l : length last ≡ length piece = ap length e in
        let p : 67_108_864 < place + 0 + length last = past in
        omega (arith, w, l, p, length-append piece (bytes_of pieces))

-- two reads that are one entry gave one piece
piece_same : (path : Path) (place : ℕ) (x y : List ℕ) → entry.Reads path place x ≡ entry.Reads path place y → x ≡ y
piece_same path place x y e = cc

pieces_one : (size : ℕ) (path : Path) (place : ℕ) (ps qs : List (List ℕ)) (l m : List ℕ) (vs ws : List Entry) → EndsAt size place ps l → EndsAt size place qs m
    → reads_from path place (ps ++ l ∷ []) ++ vs ≡ reads_from path place (qs ++ m ∷ []) ++ ws → OnePart (reads_from path place (ps ++ l ∷ [])) (reads_from path place (qs ++ m ∷ [])) vs ws
pieces_one size path place [] [] l m vs ws h g e =
    record { entries_are = ap (λ (x : Entry). x ∷ []) (heads (entry.Reads path place l) (entry.Reads path place m) vs ws e); rest_is = tails (entry.Reads path place l) (entry.Reads path place m) vs ws e }
pieces_one size path place [] (q ∷ qs) l m vs ws h g e =
    absurd (not_last size place l q qs m (piece_same path place l q (heads (entry.Reads path place l) (entry.Reads path place q) vs (reads_from path (place + length q) (qs ++ m ∷ []) ++ ws) e)) h g)
pieces_one size path place (p ∷ ps) [] l m vs ws h g e =
    absurd (not_last size place m p ps l (sym (piece_same path place p m (heads (entry.Reads path place p) (entry.Reads path place m) (reads_from path (place + length p) (ps ++ l ∷ []) ++ vs) ws e))) g h)
pieces_one size path place (p ∷ ps) (q ∷ qs) l m vs ws h g e = first_one
    (pieces_one size path (place + length p) ps qs l m vs ws (ends_on size place p ps l h) (ends_on size place p qs m (subst (λ (x : List ℕ). EndsAt size place (x ∷ qs) m) (sym same) g))
    (tails (entry.Reads path place p) (entry.Reads path place q) (reads_from path (place + length p) (ps ++ l ∷ []) ++ vs) (reads_from path (place + length q) (qs ++ m ∷ []) ++ ws) e ∙ ap (λ xs. xs ++ ws) (sym back)))
  where
    one : entry.Reads path place p ≡ entry.Reads path place q
    one = heads (entry.Reads path place p) (entry.Reads path place q) (reads_from path (place + length p) (ps ++ l ∷ []) ++ vs) (reads_from path (place + length q) (qs ++ m ∷ []) ++ ws) e

    same : p ≡ q
    same = piece_same path place p q one

    back : reads_from path (place + length p) (qs ++ m ∷ []) ≡ reads_from path (place + length q) (qs ++ m ∷ [])
    back = ap (λ (x : List ℕ). reads_from path (place + length x) (qs ++ m ∷ [])) same

    first_one : OnePart (reads_from path (place + length p) (ps ++ l ∷ [])) (reads_from path (place + length p) (qs ++ m ∷ [])) vs ws
        → OnePart (entry.Reads path place p ∷ reads_from path (place + length p) (ps ++ l ∷ [])) (entry.Reads path place q ∷ reads_from path (place + length q) (qs ++ m ∷ [])) vs ws
    first_one r = record { entries_are = ap (λ (x : Entry). x ∷ reads_from path (place + length p) (ps ++ l ∷ [])) one ∙ ap (λ xs. entry.Reads path place q ∷ xs) (r.entries_are ∙ back); rest_is = r.rest_is }

-- a whole reading, from its begin
from_begin : (size : ℕ) (pieces : List (List ℕ)) (last : List ℕ) → IsReading size (Whole pieces last) → EndsAt size 0 pieces last
from_begin size pieces last h = record { some = h.0.0; within = let w : length (bytes_of pieces) ≤ 67_108_864 = h.0.1 in omega (arith, w); last_is = subst (λ n. IsLast n last) start h.2 }
  where
    start : length (bytes_of pieces) ≡ 0 + length (bytes_of pieces)
    start = omega arith

text_one : (state : Path) (size : ℕ) (there stale : Bool) (r s : Reading) (k l : Known) (vs ws : List Entry) → IsReading size r → IsReading size s → IsKnownBy stale (text_read state there r) k → IsKnownBy stale (text_read state there s) l → NoCall k → NoCall l
    → text_entries state there r ++ vs ≡ text_entries state there s ++ ws → OnePart (text_entries state there r) (text_entries state there s) vs ws
text_one state size false stale r s k l vs ws h g x y c d e = record { entries_are = refl; rest_is = e }
text_one state size true stale (Broken ps) s k l vs ws h g x y c d e = absurd (failed_call k (fault.Call call.Read state) x refl c)
text_one state size true stale (Whole ps p) (Broken qs) k l vs ws h g x y c d e = absurd (failed_call l (fault.Call call.Read state) y refl d)
text_one state size true stale (Whole ps p) (Whole qs q) k l vs ws h g x y c d e = pieces_one size state 0 ps qs p q vs ws (from_begin size ps p h) (from_begin size qs q g) e

-- ---- both looks and the text

-- behind the look at the part file: the text, or nothing where that is the fault
behind_one : (state : Path) (size : ℕ) (there : Bool) (f : Result Bool LookStop) (r s : Reading) (k l : Known) (vs ws : List Entry) → IsReading size r → IsReading size s → IsKnownBehind state there f r k → IsKnownBehind state there f s l → NoCall k → NoCall l
    → behind_part state there f r ++ vs ≡ behind_part state there f s ++ ws → OnePart (behind_part state there f r) (behind_part state there f s) vs ws
behind_one state size there (Ok stale) r s k l vs ws h g x y c d e = text_one state size there stale r s k l vs ws h g x y c d e
behind_one state size there (Err why) r s k l vs ws h g x y c d e = record { entries_are = refl; rest_is = e }

-- the part file's look didn't fail
part_looked : (state : Path) (there : Bool) (p : StateSight) (r : Reading) (k : Known) → IsKnownBehind state there (found p) r k → NoCall k → p ≡ Failed → ⊥
part_looked state there Failed r k x c e = failed_call k (fault.Call call.Look (state_part state)) x refl c
part_looked state there Nothing r k x c e = cc
part_looked state there (Saw seen) r k x c e = cc

part_one : (state : Path) (size : ℕ) (there : Bool) (p q : StateSight) (r s : Reading) (k l : Known) (vs ws : List Entry) → IsReading size r → IsReading size s → IsKnownBehind state there (found p) r k → IsKnownBehind state there (found q) s l → NoCall k → NoCall l
    → part_entries state there p r ++ vs ≡ part_entries state there q s ++ ws → OnePart (part_entries state there p r) (part_entries state there q s) vs ws
part_one state size there p q r s k l vs ws h g x y c d e = record { entries_are = ap (λ (f : StateSight). part_entries state there f r) look.sight ∙ ap (λ us. state_look (state_part state) q ++ us) rest.entries_are; rest_is = rest.rest_is }
  where
    look : SameLook p q (behind_part state there (found p) r ++ vs) (behind_part state there (found q) s ++ ws)
    look = same_sight (state_part state) p q (behind_part state there (found p) r ++ vs) (behind_part state there (found q) s ++ ws) (part_looked state there p r k x c) (part_looked state there q s l y d)
        (sym (append_assoc (state_look (state_part state) p) (behind_part state there (found p) r) vs) ∙ (e ∙ append_assoc (state_look (state_part state) q) (behind_part state there (found q) s) ws))

    rest : OnePart (behind_part state there (found q) r) (behind_part state there (found q) s) vs ws
    rest = behind_one state size there (found q) r s k l vs ws h g (subst (λ (f : StateSight). IsKnownBehind state there (found f) r k) look.sight x) y c d
        (subst (λ (f : StateSight). behind_part state there (found f) r ++ vs ≡ behind_part state there (found q) s ++ ws) look.sight look.rest)

of_one : (state : Path) (size : ℕ) (f : Result Bool LookStop) (p q : StateSight) (r s : Reading) (k l : Known) (vs ws : List Entry) → IsReading size r → IsReading size s → IsKnownOf state f (found p) r k → IsKnownOf state f (found q) s l → NoCall k → NoCall l
    → behind_state state f p r ++ vs ≡ behind_state state f q s ++ ws → OnePart (behind_state state f p r) (behind_state state f q s) vs ws
of_one state size (Ok there) p q r s k l vs ws h g x y c d e = part_one state size there p q r s k l vs ws h g x y c d e
of_one state size (Err why) p q r s k l vs ws h g x y c d e = record { entries_are = refl; rest_is = e }

-- nor did the look at the state's file
state_looked : (state : Path) (f : StateSight) (p : Result Bool LookStop) (r : Reading) (k : Known) → IsKnownOf state (found f) p r k → NoCall k → f ≡ Failed → ⊥
state_looked state Failed p r k x c e = failed_call k (fault.Call call.Look state) x refl c
state_looked state Nothing p r k x c e = cc
state_looked state (Saw seen) p r k x c e = cc

entries_one : (state : Path) (size : ℕ) (a b : StateSights) (k l : Known) (vs ws : List Entry) → IsReading size a.reading → IsReading size b.reading → IsKnown state a k → IsKnown state b l → NoCall k → NoCall l
    → state_entries state a ++ vs ≡ state_entries state b ++ ws → OnePart (state_entries state a) (state_entries state b) vs ws
entries_one state size a b k l vs ws h g x y c d e =
    record { entries_are = ap (λ (f : StateSight). state_look state f ++ behind_state state (found f) a.part a.reading) look.sight ∙ ap (λ us. state_look state b.state ++ us) rest.entries_are; rest_is = rest.rest_is }
  where
    look : SameLook a.state b.state (behind_state state (found a.state) a.part a.reading ++ vs) (behind_state state (found b.state) b.part b.reading ++ ws)
    look = same_sight state a.state b.state (behind_state state (found a.state) a.part a.reading ++ vs) (behind_state state (found b.state) b.part b.reading ++ ws) (state_looked state a.state (found a.part) a.reading k x c) (state_looked state b.state (found b.part) b.reading l y d)
        (sym (append_assoc (state_look state a.state) (behind_state state (found a.state) a.part a.reading) vs) ∙ (e ∙ append_assoc (state_look state b.state) (behind_state state (found b.state) b.part b.reading) ws))

    rest : OnePart (behind_state state (found b.state) a.part a.reading) (behind_state state (found b.state) b.part b.reading) vs ws
    rest = of_one state size (found b.state) a.part b.part a.reading b.reading k l vs ws h g (subst (λ (f : StateSight). IsKnownOf state (found f) (found a.part) a.reading k) look.sight x) y c d
        (subst (λ (f : StateSight). behind_state state (found f) a.part a.reading ++ vs ≡ behind_state state (found b.state) b.part b.reading ++ ws) look.sight look.rest)

-- What two readings of the state that begin the same entries have in common.
pub record OneState (k l : Known) (vs ws : List Entry) : Type 0 where
  pub known_is : k ≡ l
  pub rest_is : vs ≡ ws

pub state_one : (state : Path) (size : ℕ) (a b : StateSights) (k l : Known) (ts us vs ws : List Entry) → ShowsState state size a ts → ShowsState state size b us → IsKnown state a k → IsKnown state b l → NoCall k → NoCall l → ts ++ vs ≡ us ++ ws → OneState k l vs ws
state_one state size a b k l ts us vs ws h g x y c d e = record { known_is = one_answer state size a b us k l (record { reading = h.reading; entries = sym same ∙ h.entries }) g x y; rest_is = both.rest_is }
  where
    both : OnePart (state_entries state a) (state_entries state b) vs ws
    both = entries_one state size a b k l vs ws h.reading g.reading x y c d (front_same ts us (state_entries state a) (state_entries state b) vs ws h.entries g.entries e)

    same : ts ≡ us
    same = h.entries ∙ (both.entries_are ∙ sym g.entries)
