-- A path is that where a log waits exactly where it ends with the sign of that and has the log's path before it.
use Rattle.std.proofs.Common.{◌≡◌, ℕ, ◌+◌, ◌-◌, Bool, true, ◌&&◌, bytes_eq, nat_le, List, ◌++◌, length, length-append, take, drop, sym, ap, ◌∙◌, subst, arith}
use Rattle.std.proofs.Math.Seq.{take-append_seam, drop-append_seam}
use Rattle.std.proofs.lemmas.Bool.{and_parts, le-leb}
use Rattle.std.proofs.lemmas.Bool.Decides.{same_from_decides}
use Rattle.std.proofs.lemmas.List.{take-append-drop}
use Rattle.std.proofs.lemmas.Slice.Eq.{bytes_eq-Decides}
use Rattle.lr_rules.specs.Names.{ends_with, without}

abbrev tests : List ℕ → List ℕ → List ℕ → Bool
tests x log end = ends_with end x && bytes_eq (without end x) log

joined_tests : (log end : List ℕ) → tests (log ++ end) log end ≡ true
joined_tests log end =
    let long : length (log ++ end) ≡ length log + length end = length-append log end in
    let before : length (log ++ end) - length end ≡ length log = omega (arith, long) in
    let enough : nat_le (length end) (length (log ++ end)) ≡ true = le-leb (length end) (length (log ++ end)) (omega (arith, long)) in
    let ending : bytes_eq (drop (length (log ++ end) - length end) (log ++ end)) end ≡ true = (bytes_eq-Decides (drop (length (log ++ end) - length end) (log ++ end)) end).1 (ap (λ (k : ℕ). drop k (log ++ end)) before ∙ drop-append_seam log end) in
    let front : bytes_eq (without end (log ++ end)) log ≡ true = (bytes_eq-Decides (without end (log ++ end)) log).1 (ap (λ (k : ℕ). take k (log ++ end)) before ∙ take-append_seam log end) in
    ap (λ (b : Bool). (b && bytes_eq (drop (length (log ++ end) - length end) (log ++ end)) end) && bytes_eq (without end (log ++ end)) log) enough
    ∙ (ap (λ (b : Bool). b && bytes_eq (without end (log ++ end)) log) ending ∙ front)

tests_join : (x log end : List ℕ) → tests x log end ≡ true → x ≡ log ++ end
tests_join x log end e =
    let p = and_parts (ends_with end x) (bytes_eq (without end x) log) e in
    let q = and_parts (nat_le (length end) (length x)) (bytes_eq (drop (length x - length end) x) end) p.0 in
    sym (take-append-drop (length x - length end) x)
    ∙ (ap (λ (front : List ℕ). front ++ drop (length x - length end) x) ((bytes_eq-Decides (without end x) log).0 p.1)
    ∙ ap (λ (back : List ℕ). log ++ back) ((bytes_eq-Decides (drop (length x - length end) x) end).0 q.1))

pub aside_is : (x log end : List ℕ) → (ends_with end x && bytes_eq (without end x) log) ≡ bytes_eq x (log ++ end)
aside_is x log end = same_from_decides (tests x log end) (bytes_eq x (log ++ end))
    (tests_join x log end, λ (e : x ≡ log ++ end). subst (λ (y : List ℕ). tests y log end ≡ true) (sym e) (joined_tests log end))
    (bytes_eq-Decides x (log ++ end))
