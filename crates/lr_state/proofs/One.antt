-- Entries show one answer.
use Rattle.std.proofs.Common.{◌≡◌, ◌≤◌, ◌<◌, inl, inr, ℕ, ◌+◌, Bool, true, false, List, [], ◌∷◌, ◌++◌, length, refl, sym, ap, ◌∙◌, subst, arith, length-append, Some, None, Result, Ok, Err}
use Rattle.lr_rules.specs.declared.path.Path.{Path}
use Rattle.lr_rules.specs.declared.fault.Fault.{Fault}
use Rattle.lr_rules.specs.StatePath.{state_part}
use Rattle.lr_host.specs.declared.entry.Entry.{Entry}
use Rattle.lr_host.specs.declared.entry.Entry.TheVariants as entry
use Rattle.lr_state.specs.declared.look.LookStop.{LookStop}
use Rattle.lr_state.specs.Known.{Known, IsKnownBy, IsKnownBehind, IsKnownOf, IsKnown, known_of, text_read}
use Rattle.lr_state.specs.ReadPieces.{Reading, Whole, Broken, AreSome, GoOn, IsLast, IsReading, bytes_of, reads_from, reads_of}
use Rattle.lr_state.specs.Sights.{StateSight, Failed, Nothing, Saw, StateSights, ShowsState, found, state_look, text_entries, behind_part, behind_state}
use Rattle.lr_state.proofs.Joining.{bytes_more}

-- ---- one look

pub record SameLook (a b : StateSight) (xs ys : List Entry) : Type 0 where
  pub sight : a ≡ b
  pub rest : xs ≡ ys

-- Behind looks that failed nothing follows, so a look and what follows are known by the entries.
pub same_look : (path : Path) (a b : StateSight) (xs ys : List Entry) → (a ≡ Failed → xs ≡ []) → (b ≡ Failed → ys ≡ []) → state_look path a ++ xs ≡ state_look path b ++ ys → SameLook a b xs ys
same_look path Failed Failed xs ys none none' e = record { sight = refl; rest = e }
same_look path Failed Nothing xs ys none none' e = absurd (let n : xs ≡ [] = none refl in cc)
same_look path Failed (Saw t) xs ys none none' e = absurd (let n : xs ≡ [] = none refl in cc)
same_look path Nothing Failed xs ys none none' e = absurd (let n : ys ≡ [] = none' refl in cc)
same_look path Nothing Nothing xs ys none none' e = record { sight = refl; rest = cc }
same_look path Nothing (Saw t) xs ys none none' e = absurd (let same : entry.Look path None ≡ entry.Look path (Some t) = cc in cc)
same_look path (Saw s) Failed xs ys none none' e = absurd (let n : ys ≡ [] = none' refl in cc)
same_look path (Saw s) Nothing xs ys none none' e = absurd (let same : entry.Look path (Some s) ≡ entry.Look path None = cc in cc)
same_look path (Saw s) (Saw t) xs ys none none' e = let same : entry.Look path (Some s) ≡ entry.Look path (Some t) = cc in let seen : s ≡ t = cc in record { sight = ap Saw seen; rest = cc }

-- ---- one reading

same_pieces : (path : Path) (place : ℕ) (ps qs : List (List ℕ)) → reads_from path place ps ≡ reads_from path place qs → ps ≡ qs
same_pieces path place [] [] e = refl
same_pieces path place [] (q ∷ qs) e = absurd (cc)
same_pieces path place (p ∷ ps) [] e = absurd (cc)
same_pieces path place (p ∷ ps) (q ∷ qs) e =
    let first : entry.Reads path place p ≡ entry.Reads path place q = cc in
    let piece : p ≡ q = cc in
    let rest : reads_from path (place + length p) ps ≡ reads_from path (place + length q) qs = cc in
    let pieces : ps ≡ qs = same_pieces path (place + length p) ps qs (rest ∙ ap (λ (r : List ℕ). reads_from path (place + length r) qs) (sym piece)) in
    cc

some_last : (size : ℕ) (ps : List (List ℕ)) (l : List ℕ) → AreSome size (ps ++ l ∷ []) → 0 < length l
some_last size [] l are = are.0
some_last size (p ∷ ps) l are = some_last size ps l are.2

-- a reading doesn't go on behind its last piece
ends : (size : ℕ) (ps : List (List ℕ)) (l : List ℕ) → IsLast (length (bytes_of ps)) l → GoOn size (ps ++ l ∷ []) → ⊥
ends size ps l (inl none) goes = let some : 0 < length l = some_last size ps l goes.0 in let no : length l ≡ 0 = ap length none in omega arith
ends size ps l (inr past) goes = let most : length (bytes_of (ps ++ l ∷ [])) ≤ 67_108_864 = goes.1 in omega (arith, ap length (bytes_more ps l), length-append (bytes_of ps) l)

same_text : (state : Path) (size : ℕ) (r s : Reading) → IsReading size r → IsReading size s → reads_of state r ≡ reads_of state s → text_read state true r ≡ text_read state true s
same_text state size (Whole ps l) (Whole qs m) is is' e =
    let pieces : ps ++ l ∷ [] ≡ qs ++ m ∷ [] = same_pieces state 0 (ps ++ l ∷ []) (qs ++ m ∷ []) e in
    ap (λ (bs : List ℕ). Ok bs) (sym (bytes_more ps l) ∙ (ap bytes_of pieces ∙ bytes_more qs m))
same_text state size (Whole ps l) (Broken qs) is is' e = absurd (ends size ps l is.2 (subst (GoOn size) (sym (same_pieces state 0 (ps ++ l ∷ []) qs e)) is'))
same_text state size (Broken ps) (Whole qs m) is is' e = absurd (ends size qs m is'.2 (subst (GoOn size) (same_pieces state 0 ps (qs ++ m ∷ []) e) is))
same_text state size (Broken ps) (Broken qs) is is' e = refl

-- ---- one answer

one_by_text : (stale : Bool) (t : Result (List ℕ) Fault) (k l : Known) → IsKnownBy stale t k → IsKnownBy stale t l → k ≡ l
one_by_text stale (Ok text) k l a b = a.2 ∙ (ap (known_of stale) (b.1.1 a.0 a.1.0) ∙ sym b.2)
one_by_text stale (Err why) k l a b = a ∙ sym b

one_read : (state : Path) (size : ℕ) (there stale : Bool) (r s : Reading) (k l : Known) → IsReading size r → IsReading size s → text_entries state there r ≡ text_entries state there s
    → IsKnownBy stale (text_read state there r) k → IsKnownBy stale (text_read state there s) l → k ≡ l
one_read state size true stale r s k l is is' e a b = one_by_text stale (text_read state true s) k l (subst (λ (t : Result (List ℕ) Fault). IsKnownBy stale t k) (same_text state size r s is is' e) a) b
one_read state size false stale r s k l is is' e a b = one_by_text stale (Ok []) k l a b

one_behind : (state : Path) (size : ℕ) (there : Bool) (f : Result Bool LookStop) (r s : Reading) (k l : Known) → IsReading size r → IsReading size s → behind_part state there f r ≡ behind_part state there f s
    → IsKnownBehind state there f r k → IsKnownBehind state there f s l → k ≡ l
one_behind state size there (Ok stale) r s k l is is' e a b = one_read state size there stale r s k l is is' e a b
one_behind state size there (Err why) r s k l is is' e a b = a ∙ sym b

-- a look that failed has nothing behind it
part_alone : (state : Path) (there : Bool) (part : StateSight) (r : Reading) → part ≡ Failed → behind_part state there (found part) r ≡ []
part_alone state there part r e = ap (λ (s : StateSight). behind_part state there (found s) r) e

state_alone : (state : Path) (s : StateSights) → s.state ≡ Failed → behind_state state (found s.state) s.part s.reading ≡ []
state_alone state s e = ap (λ (x : StateSight). behind_state state (found x) s.part s.reading) e

one_of : (state : Path) (size : ℕ) (f : Result Bool LookStop) (p q : StateSight) (r s : Reading) (k l : Known) → IsReading size r → IsReading size s → behind_state state f p r ≡ behind_state state f q s
    → IsKnownOf state f (found p) r k → IsKnownOf state f (found q) s l → k ≡ l
one_of state size (Ok there) p q r s k l is is' e a b =
    let same = same_look (state_part state) p q (behind_part state there (found p) r) (behind_part state there (found q) s) (part_alone state there p r) (part_alone state there q s) e in
    one_behind state size there (found q) r s k l is is' (ap (λ (x : StateSight). behind_part state there (found x) r) (sym same.sight) ∙ same.rest)
    (subst (λ (x : StateSight). IsKnownBehind state there (found x) r k) same.sight a) b
one_of state size (Err why) p q r s k l is is' e a b = a ∙ sym b

pub one_answer : (state : Path) (size : ℕ) (v w : StateSights) (ts : List Entry) (k l : Known) → ShowsState state size v ts → ShowsState state size w ts → IsKnown state v k → IsKnown state w l → k ≡ l
one_answer state size v w ts k l a b x y =
    let same = same_look state v.state w.state (behind_state state (found v.state) v.part v.reading) (behind_state state (found w.state) w.part w.reading) (state_alone state v) (state_alone state w) (sym a.entries ∙ b.entries) in
    one_of state size (found w.state) v.part w.part v.reading w.reading k l a.reading b.reading
    (ap (λ (f : StateSight). behind_state state (found f) v.part v.reading) (sym same.sight) ∙ same.rest)
    (subst (λ (f : StateSight). IsKnownOf state (found f) (found v.part) v.reading k) same.sight x) y
