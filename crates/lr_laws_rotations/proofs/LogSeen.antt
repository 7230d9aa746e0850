-- What the looks tell of one log: its members have names, and its rotation is ready.
use Rattle.std.proofs.Common.{ℕ, inl, inr, subst, List, [], ◌∷◌, Option}
use Rattle.lr_rules.specs.declared.clock.Clock.{Clock}
use Rattle.lr_rules.specs.declared.path.Path.{Path}
use Rattle.lr_rules.specs.declared.rules.Rules.{Rules}
use Rattle.lr_host.specs.declared.entry.Entry.{Entry}
use Rattle.lr_host.specs.Lists.{IsIn}
use Rattle.lr_laws_rotations.specs.Apart.{HasNames, TargetsHaveNames}
use Rattle.lr_laws_rotations.specs.Seen.{IsLogSeen, AreLogsSeen}
use Rattle.lr_laws_rotations.specs.Target.{Target, HasDir, IsMissingDir, IsDirSeenBy, IsDirSeen}
use Rattle.lr_laws_rotations.proofs.Given.{given_limits, beside_apart}
use Rattle.lr_laws_rotations.proofs.PartFile.{part_no_log}
use Rattle.lr_laws_rotations.proofs.Way.{has_way}

-- the directory that is made is no other name of the set
pub has_dir : (t : Target) (looks : List Entry) → IsDirSeen t looks → HasDir t
has_dir t looks seen dir mode is = let missing : IsMissingDir t.log t.naming t.stand.members t.job looks dir = subst (λ (d : Option (Path × Option ℕ)). IsDirSeenBy d t.log t.naming t.stand.members t.job looks) is seen in
    (missing.dir_is, missing.apart)

module _ (rules : Rules) (clock : Clock) (looks : List Entry) where
  abbrev pub any_names : (t : Target) → IsLogSeen rules clock looks t → HasNames t
  any_names t l = record {
    family = l.family;
    newest_first = l.seen.newest_first;
    named = l.seen.named;
    count = (given_limits rules looks t l.given).0;
    start = (given_limits rules looks t l.given).1;
    clock = clock;
    free = l.free;
    ready = l.ready;
    way = has_way l.given.rule.way t l.given.way_is;
    beside = λ asked. beside_apart rules looks t l.given l.path;
    parts = λ member m. part_no_log t.log t.naming l.family member m l.given.rule l.given.naming_is;
    dir = has_dir t looks l.dir;
    job = λ job is. (l.job job is).0;
  }

  pub have_names : (ts : List Target) → AreLogsSeen rules clock looks ts → TargetsHaveNames ts
  have_names [] seen = tt
  have_names (t ∷ ts) seen = (any_names t seen.0, have_names ts seen.1)

  pub log_among : (ts : List Target) → AreLogsSeen rules clock looks ts → (t : Target) → IsIn t ts → IsLogSeen rules clock looks t
  log_among [] seen t i = absurd i
  log_among (x ∷ xs) seen t (inl is) = subst (IsLogSeen rules clock looks) is seen.0
  log_among (x ∷ xs) seen t (inr i) = log_among xs seen.1 t i
