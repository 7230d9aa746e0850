-- The paths that a set reaches: its log, that where it waits while it is set aside, and its members.
use Rattle.std.proofs.Common.{◌≡◌, inl, inr, ◌+◌, true, false, ◌&&◌, bytes_eq, sym, ◌∙◌, ap, arith, length-append, ◌++◌, length, Option, Some, None, is_some, ℤ}
use Rattle.std.specs.Prelude.{codes}
use Rattle.std.proofs.lemmas.Bool.{or_left, or_right, or_parts, or_from, and_from}
use Rattle.std.proofs.lemmas.Slice.Eq.{bytes_eq-Decides}
use Rattle.lr_rules.specs.declared.path.Path.{Path}
use Rattle.lr_rules.specs.Names.{aside_path}
use Rattle.lr_rules.proofs.Bools.{not_both}
use Rattle.lr_rules.proofs.Options.{some_none}
use Rattle.lr_host.specs.Sets.{LogSet, in_set, IsAsideOf, IsUnplaced, is_unplaced, in_reach}

is_keyed : (o : Option ℤ) (k : ℤ) → o ≡ Some k → is_some o ≡ true
is_keyed o k is = ap is_some is

-- where a log waits is another path than the log's
pub aside_apart : (s : LogSet) (x : Path) → IsAsideOf s x → x ≡ s.log → ⊥
aside_apart s x a same =
    let longer : length (s.log ++ codes ".tmp") ≡ length s.log + 4 = length-append s.log (codes ".tmp") in
    let e : length (s.log ++ codes ".tmp") ≡ length s.log = ap length (sym a.path ∙ same) in
    omega (arith, longer, e)

-- what has no place has no key
pub unplaced_keyless : (s : LogSet) (x : Path) → IsUnplaced s x → s.key x ≡ None
unplaced_keyless s x (inl at_log) = ap s.key at_log ∙ s.log_apart
unplaced_keyless s x (inr a) = a.keyless

pub unplaced_no_key : (s : LogSet) (x : Path) (k : ℤ) → IsUnplaced s x → s.key x ≡ Some k → ⊥
unplaced_no_key s x k u is = some_none (s.key x) k is (unplaced_keyless s x u)

pub unplaced_true : (s : LogSet) (x : Path) → IsUnplaced s x → is_unplaced s x ≡ true
unplaced_true s x (inl at_log) = or_left (bytes_eq s.log x) (s.naming.aside && bytes_eq (aside_path s.log) x) ((bytes_eq-Decides s.log x).1 (sym at_log))
unplaced_true s x (inr a) = or_right (bytes_eq s.log x) (s.naming.aside && bytes_eq (aside_path s.log) x) (and_from s.naming.aside (bytes_eq (aside_path s.log) x) a.asked ((bytes_eq-Decides (aside_path s.log) x).1 (sym a.path)))

pub unplaced_reach : (s : LogSet) (x : Path) → IsUnplaced s x → in_reach s x ≡ true
unplaced_reach s x u = or_left (is_unplaced s x) (is_some (s.key x)) (unplaced_true s x u)

pub keyed_reach : (s : LogSet) (x : Path) (k : ℤ) → s.key x ≡ Some k → in_reach s x ≡ true
keyed_reach s x k is = or_right (is_unplaced s x) (is_some (s.key x)) (is_keyed (s.key x) k is)

-- what a set doesn't reach is neither its log nor a member
pub reach_set : (s : LogSet) (x : Path) → in_reach s x ≡ false → in_set s x ≡ false
reach_set s x out =
    let parts = or_parts (is_unplaced s x) (is_some (s.key x)) out in
    let first = or_parts (bytes_eq s.log x) (s.naming.aside && bytes_eq (aside_path s.log) x) parts.0 in
    or_from (bytes_eq s.log x) (is_some (s.key x)) first.0 parts.1

pub reach_unplaced : (s : LogSet) (x : Path) → in_reach s x ≡ false → is_unplaced s x ≡ false
reach_unplaced s x out = (or_parts (is_unplaced s x) (is_some (s.key x)) out).0

pub reach_keyless : (s : LogSet) (x : Path) → in_reach s x ≡ false → is_some (s.key x) ≡ false
reach_keyless s x out = (or_parts (is_unplaced s x) (is_some (s.key x)) out).1

pub out_unplaced : (s : LogSet) (x : Path) → in_reach s x ≡ false → IsUnplaced s x → ⊥
out_unplaced s x out u = not_both (in_reach s x) (unplaced_reach s x u) out

pub out_log : (s : LogSet) (x : Path) → in_reach s x ≡ false → x ≡ s.log → ⊥
out_log s x out same = out_unplaced s x out (inl same)
