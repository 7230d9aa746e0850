-- The names of the members of both logs, and that both are families.
use Rattle.std.proofs.Common.{◌≡◌, ℕ, zero, suc, ◌+◌, refl, sym, ◌∙◌, ap, arith, None, List, [], ◌∷◌, ◌++◌, codes, true}
use Rattle.std.specs.Prelude.{decimal, IsAscii}
use Rattle.std.specs.Str.{is_utf8}
use Rattle.std.proofs.lemmas.Str.{is_utf8-from_IsUtf8, IsUtf8-from_ascii}
use Rattle.std.proofs.lemmas.Fmt.{decimal_digit}
use Rattle.lr_rules.specs.declared.clock.Clock.{Clock}
use Rattle.lr_rules.specs.declared.path.Path.{Path}
use Rattle.lr_rules.specs.declared.rule.Make.TheVariants.{No}
use Rattle.lr_rules.proofs.Endings.{low_ascii}
use Rattle.lr_rules.specs.Path.{path_fault, joined}
use Rattle.lr_stamps.proofs.Members.{joined_same}
use Rattle.lr_host.specs.declared.entry.Entry.{Entry}
use Rattle.lr_host.specs.declared.entry.Entry.TheVariants.{Renames, Unlinks}
use Rattle.lr_family.specs.Named.{framed, member_name}
use Rattle.lr_family.specs.Spots.{path_at}
use Rattle.lr_laws_rotations.proofs.Places.{IsFamily}
use Rattle.lr_chain.specs.declared.ready.Ready.{Ready}
use Rattle.lr_chain.specs.Rotation.{places_of, rotation}
use Rattle.lr_laws_rotations.specs.Target.{IsReadyBy}
use Rattle.lr_laws_rotations.specs.Logs.{a_log, a_first, a_second, a_third, a_count, a_naming, a_stand, a_from, a_target, b_log, b_first, b_naming, b_target}
use Rattle.lr_laws_rotations.specs.TwoLogs.{a_steps}
use Rattle.lr_laws_rotations.proofs.DatedExample.{path_w}

-- ---- names and paths of members

pub first_name : member_name a_naming 1 ≡ codes "a.log.1"
first_name = ap (λ (digits : List ℕ). framed (codes "a.log") digits []) (decimal_digit 1 (omega arith))

pub second_name : member_name a_naming 2 ≡ codes "a.log.2"
second_name = ap (λ (digits : List ℕ). framed (codes "a.log") digits []) (decimal_digit 2 (omega arith))

third_name : member_name a_naming 3 ≡ codes "a.log.3"
third_name = ap (λ (digits : List ℕ). framed (codes "a.log") digits []) (decimal_digit 3 (omega arith))

pub first_path : path_at a_naming 0 ≡ a_first
first_path = ap (joined (codes "/v")) first_name

pub second_path : path_at a_naming 1 ≡ a_second
second_path = ap (joined (codes "/v")) second_name

third_path : path_at a_naming 2 ≡ a_third
third_path = ap (joined (codes "/v")) third_name

b_first_name : member_name b_naming 1 ≡ codes "b.log.1"
b_first_name = ap (λ (digits : List ℕ). framed (codes "b.log") digits []) (decimal_digit 1 (omega arith))

b_first_path : path_at b_naming 0 ≡ b_first
b_first_path = ap (joined (codes "/w")) b_first_name

-- the log's own name is no member's
pub a_unnumbered : (digits : List ℕ) → codes "a.log" ≡ (codes "a.log" ++ 46 ∷ digits) ++ [] → ⊥
a_unnumbered digits e = cc

pub b_unnumbered : (digits : List ℕ) → codes "b.log" ≡ (codes "b.log" ++ 46 ∷ digits) ++ [] → ⊥
b_unnumbered digits e = cc

-- ---- the families

ascii_v : IsAscii (codes "/v")
ascii_v zero = omega arith
ascii_v (suc zero) = omega arith
ascii_v (suc (suc i)) = omega arith

path_v : path_fault (codes "/v") ≡ None
unfolding path_fault
path_v = let t : is_utf8 (codes "/v") ≡ true = is_utf8-from_IsUtf8 (codes "/v") (IsUtf8-from_ascii (codes "/v") ascii_v) in rw t

-- the logs have paths
pub path_a : path_fault a_log ≡ None
unfolding path_fault
path_a = let t : is_utf8 (codes "/v/a.log") ≡ true = is_utf8-from_IsUtf8 (codes "/v/a.log") (IsUtf8-from_ascii (codes "/v/a.log") (low_ascii (codes "/v/a.log") refl)) in rw t

pub path_b : path_fault b_log ≡ None
unfolding path_fault
path_b = let t : is_utf8 (codes "/w/b.log") ≡ true = is_utf8-from_IsUtf8 (codes "/w/b.log") (IsUtf8-from_ascii (codes "/w/b.log") (low_ascii (codes "/w/b.log") refl)) in rw t

pub a_family : IsFamily a_log a_naming
a_family = record {
  numbered = refl;
  kin = record { dir = omega arith; size = omega arith; base = refl; ext = refl; apart = λ none place m. a_unnumbered (decimal (1 + place)) (joined_same (codes "/v") (codes "a.log") (member_name a_naming (1 + place)) m.named) };
  dir = path_v;
}

pub b_family : IsFamily b_log b_naming
b_family = record {
  numbered = refl;
  kin = record { dir = omega arith; size = omega arith; base = refl; ext = refl; apart = λ none place m. b_unnumbered (decimal (1 + place)) (joined_same (codes "/w") (codes "b.log") (member_name b_naming (1 + place)) m.named) };
  dir = path_w;
}

-- ---- the rotations

-- by the paths of the places
by_paths : Path → Path → Path → List Entry
by_paths first second third = Renames second third ∷ Renames first second ∷ Renames a_log first ∷ Unlinks third ∷ []

pub a_rotation : rotation a_naming a_count a_log (places_of a_stand.members) a_from ≡ a_steps
unfolding by_paths
a_rotation =
    ap (λ (x : Path). by_paths x (path_at a_naming 1) (path_at a_naming 2)) first_path ∙ (ap (λ (x : Path). by_paths a_first x (path_at a_naming 2)) second_path ∙ ap (λ (x : Path). by_paths a_first a_second x) third_path)

-- what is ready is that, by any clock
abbrev by_places : Path → Path → Path → Ready
by_places first second third = record {
  leftovers = [];
  dir = None;
  moves = record { from = second; to = third } ∷ record { from = first; to = second } ∷ [];
  log = a_log;
  target = first;
  make = No;
  retire = record { path = third; preremove = None; mail = None } ∷ [];
}

pub a_is_ready : (clock : Clock) → IsReadyBy clock a_target
a_is_ready clock =
    ap (λ (x : Path). by_places x a_second a_third) (sym first_path) ∙ (ap (λ (x : Path). by_places (path_at a_naming 0) x a_third) (sym second_path) ∙ ap (λ (x : Path). by_places (path_at a_naming 0) (path_at a_naming 1) x) (sym third_path))

pub b_is_ready : (clock : Clock) → IsReadyBy clock b_target
b_is_ready clock = ap (λ (x : Path). record { leftovers = []; dir = None; moves = []; log = b_log; target = x; make = No; retire = [] }) (sym b_first_path)
