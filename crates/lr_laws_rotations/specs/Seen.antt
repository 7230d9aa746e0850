-- What a run saw of a log that it may rotate, be the members' names numbers or dates.
use Rattle.std.specs.Prelude.{◌≡◌, List, [], ◌∷◌, None}
use Rattle.lr_rules.specs.declared.clock.Clock.{Clock}
use Rattle.lr_rules.specs.declared.rules.Rules.{Rules}
use Rattle.lr_rules.specs.Path.{path_fault}
use Rattle.lr_host.specs.declared.entry.Entry.{Entry}
use Rattle.lr_host.specs.Looks.{Sees, IsFile}
use Rattle.lr_chain.specs.Hindrances.{what_hinders}
use Rattle.lr_laws_family.specs.Members.{IsFamily}
use Rattle.lr_laws_family.specs.Shown.{Shown}
use Rattle.lr_laws_family.specs.Weave.{Among}
use Rattle.lr_laws_rotations.specs.Target.{IsGiven, IsWaySeen, Target, IsReadyBy, IsDirSeen, IsTargetJob}

-- The log has a path, and a word of a rule gives it; it was seen as a file, and the members of its family were, wherever these
-- looks stand. Nothing hinders its rotation, which is that of the members that were seen, by the rule's count and age and by the
-- clock; and so is its copy. The family's directory was seen, or its rotation makes it; and so was what the log's own way needs.
pub record IsLogSeen (rules : Rules) (clock : Clock) (looks : List Entry) (t : Target) : Type 0 where
  pub path : path_fault t.log ≡ None
  pub given : IsGiven rules.sets looks t
  pub family : IsFamily t.log t.naming
  pub log_seen : Among (Sees t.log IsFile) looks
  pub way_seen : IsWaySeen t looks
  pub seen : Shown t.naming t.stand.members looks
  pub free : what_hinders t.naming t.count clock t.stand ≡ []
  pub ready : IsReadyBy clock t
  pub dir : IsDirSeen t looks
  pub job : IsTargetJob t looks

abbrev pub AreLogsSeen : Rules → Clock → List Entry → List Target → Type 0
AreLogsSeen rules clock looks [] = Unit {0}
AreLogsSeen rules clock looks (t ∷ ts) = IsLogSeen rules clock looks t × AreLogsSeen rules clock looks ts
