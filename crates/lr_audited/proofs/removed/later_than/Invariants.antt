use Rattle.std.proofs.Common.{◌≡◌, ◌++◌, ℕ, ℤ, List, Option, take, drop}
use Rattle.lr_rules.specs.declared.path.Path.{Path}
use Rattle.lr_rules.specs.declared.rule.Count.{Count}
use Rattle.lr_family.specs.Stands.{key_in}
use Rattle.lr_audited.specs.declared.line.WhyGone.{WhyGone}
use Rattle.lr_audited.specs.Removed.{dated_going, going_with}
use Rattle.lr_audited.proofs.removed.later_than.Given as goal

abbrev pub invariant-loop-member : goal.invariant-loop-member
invariant-loop-member l = record {
  later : l.later ≡ l.member-index;
  parts : (c : Count) (maxage : Option ℕ) (now : ℤ) (log : ℕ → List (Path × WhyGone)) → going_with c maxage now (key_in l.place) log 0 l.members ≡ dated_going c maxage now 0 (take l.member-index l.members) ++ going_with c maxage now (key_in l.place) log l.member-index (drop l.member-index l.members);
}
