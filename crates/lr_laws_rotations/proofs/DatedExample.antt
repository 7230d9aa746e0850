-- A run that rotates one log with dates has the shape.
use Rattle.std.proofs.Common.{◌≡◌, inl, inr, zero, suc, refl, arith, subst, None, Some, [], ◌∷◌, ◌++◌, codes, true}
use Rattle.std.specs.Prelude.{IsAscii}
use Rattle.std.specs.List.{list_all}
use Rattle.std.specs.Str.{is_utf8}
use Rattle.std.proofs.lemmas.Str.{is_utf8-from_IsUtf8, IsUtf8-from_ascii}
use Rattle.lr_rules.specs.declared.clock.Clock.{Clock}
use Rattle.lr_rules.specs.declared.path.Path.{Path}
use Rattle.lr_rules.specs.declared.rules.Rules.{Rules}
use Rattle.lr_rules.specs.Limits.{meets_limits, is_format}
use Rattle.lr_rules.proofs.Endings.{low_ascii}
use Rattle.lr_rules.specs.Path.{path_fault}
use Rattle.lr_host.specs.declared.entry.Entry.TheVariants as entry
use Rattle.lr_host.specs.Lists.{IsIn}
use Rattle.lr_host.specs.Looks.{Sees, IsFile}
use Rattle.lr_host.proofs.Lists.{in_from}
use Rattle.lr_family.specs.Kin.{IsKin}
use Rattle.lr_family.proofs.Rising.{none_fall}
use Rattle.lr_laws_family.specs.Weave.{Among, none, own, FirstWoven}
use Rattle.lr_laws_rotations.specs.AllTurns.{StandsBetween}
use Rattle.lr_laws_rotations.specs.Target.{IsGiven, Target, target_entries}
use Rattle.lr_laws_rotations.proofs.Given.{literal_gives}
use Rattle.lr_laws_family.specs.Members.{IsFamily}
use Rattle.lr_laws_family.specs.Shown.{unlisted, Shown}
use Rattle.lr_laws_family.proofs.DatedNames.{no_member}
use Rattle.lr_laws_rotations.specs.Runs.{AllTurnsBy}
use Rattle.lr_laws_rotations.specs.DatedExample.{log, format, rule, naming, stand, target, looks, turn}
use Rattle.lr_laws_rotations.specs.Logs.{file, directory}
use Rattle.lr_laws_rotations.specs.Seen.{IsLogSeen}

-- ---- limits

ascii_w : IsAscii (codes "/w")
ascii_w zero = omega arith
ascii_w (suc zero) = omega arith
ascii_w (suc (suc i)) = omega arith

pub path_w : path_fault (codes "/w") ≡ None
unfolding path_fault
path_w = let t : is_utf8 (codes "/w") ≡ true = is_utf8-from_IsUtf8 (codes "/w") (IsUtf8-from_ascii (codes "/w") ascii_w) in rw t

path_log : path_fault log ≡ None
unfolding path_fault
path_log = let t : is_utf8 (codes "/w/b.log") ≡ true = is_utf8-from_IsUtf8 (codes "/w/b.log") (IsUtf8-from_ascii (codes "/w/b.log") (low_ascii (codes "/w/b.log") refl)) in rw t

ascii_format : IsAscii (codes "-%s")
ascii_format zero = omega arith
ascii_format (suc zero) = omega arith
ascii_format (suc (suc zero)) = omega arith
ascii_format (suc (suc (suc i))) = omega arith

format_utf8 : is_utf8 (codes "-%s") ≡ true
format_utf8 = is_utf8-from_IsUtf8 (codes "-%s") (IsUtf8-from_ascii (codes "-%s") ascii_format)

format_good : is_format format ≡ true
format_good = rw format_utf8

within_limits : list_all meets_limits (rule ∷ []) ≡ true
within_limits = rw format_utf8

abbrev rules : Rules
rules = record { sets = rule ∷ []; limits = within_limits }

-- ---- what was seen

kin : IsKin log naming
kin = record { dir = omega arith; size = omega arith; base = refl; ext = refl; apart = λ e. absurd (cc) }

family : IsFamily log naming
family = record { kin = kin; format = format_good; dir = path_w; apart = no_member rule log format_good kin }

shown : Shown naming stand.members looks
shown = record {
  newest_first = none_fall;
  named = λ k d lt. absurd (omega arith);
  files = λ k d lt. absurd (omega arith);
  others = λ x is free. unlisted [] (inr (inr (inl refl))) (λ name c. absurd (in_from name [] c));
}

given : (clock : Clock) → IsGiven rules.sets looks (target clock)
given clock = record { rule = rule; word = log; among = (0, omega arith, refl); has = (0, omega arith, refl); given = record { before = []; part = []; after = looks; joined = refl; is = literal_gives rules.sets rule log log [] refl refl }; naming_is = refl; count_is = refl; maxage_is = refl; way_is = (record { aside_is = refl; first_is = refl }, refl) }

log_seen : Among (Sees log IsFile) looks
log_seen = record { before = []; part = entry.Look log (Some file) ∷ []; after = entry.Look (codes "/w") (Some directory) ∷ entry.List (codes "/w") [] ∷ []; joined = refl; is = record { seen = Some file; is = refl; look = refl } }

seen : (clock : Clock) → IsLogSeen rules clock looks (target clock)
unfolding given
seen clock = record { path = path_log; given = given clock; family = family; log_seen = log_seen; way_seen = record { first = log_seen; free = λ path is. absurd (cc) }; seen = shown; free = refl; ready = refl; dir = (directory, refl, inr (inl refl)); job = λ job is. absurd (cc) }

turns : (state : Path) (clock : Clock) → AllTurnsBy state clock rules (looks ++ turn clock ∷ [])
turns state clock = record {
  looks = looks;
  acts = turn clock ∷ [];
  joined = refl;
  quiet = ((tt, refl), ((tt, refl), ((tt, refl), tt)));
  targets = target clock ∷ [];
  seen = (seen clock, tt);
  all = (inl (inl (inl (inl refl))), tt);
  each = λ t i. each t i;
}
  where
    each : (t : Target) → IsIn t (target clock ∷ []) → FirstWoven (StandsBetween state t (target clock ∷ [])) (target_entries t) (turn clock ∷ [])
    each t (inl is) = subst (λ (x : Target). FirstWoven (StandsBetween state x (target clock ∷ [])) (target_entries x) (turn clock ∷ [])) is (record { made = turn clock ∷ []; first = ([], refl); woven = own (turn clock) none })
    each t (inr other) = absurd other

pub dated_turns : (rules : Rules) × (rules.sets ≡ rule ∷ []) × ((state : Path) (clock : Clock) → AllTurnsBy state clock rules (looks ++ turn clock ∷ []))
dated_turns = (rules, refl, turns)
