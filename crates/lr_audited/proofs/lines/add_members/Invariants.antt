use Rattle.std.proofs.Common.{◌≡◌, ◌++◌, take}
use Rattle.lr_audited.specs.Lines.{member_lines}
use Rattle.lr_audited.proofs.lines.add_members.Given as goal

abbrev pub invariant-loop-member : goal.invariant-loop-member
invariant-loop-member l = record {
  later : l.later ≡ l.member-index;
  lines : l.lines.items ≡ l.initial.lines.items ++ member_lines l.naming.dated l.count l.log 0 (take l.member-index l.members);
}
