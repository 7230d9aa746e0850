use Rattle.std.proofs.Common.{◌≡◌, ℕ, ◌++◌, ◌∷◌, [], subst, arith}
use Rattle.lr_audited.specs.declared.line.What.{What}
use Rattle.lr_audited.specs.Lines.{log_file_line, what_of}
use Rattle.lr_audited.proofs.Telling.{members_more}
use Rattle.lr_audited.proofs.lines.add_members.Goals as goal

pub loop-member-preserved : goal.loop-member-preserved
loop-member-preserved c = record {
  later = let e = c.loop-member.invariant.later in omega (arith, e);
  lines = members_more c.args.naming.now.dated c.args.count c.args.log.now c.args.members.now c.loop-member.member-index c.member-item.result c.args.lines.now.items c.loop-member.lines.items c.add_line.new.lines.items c.member-item.is c.loop-member-test.true c.loop-member.invariant.lines
      (subst (λ (j : ℕ). c.add_line.new.lines.items ≡ c.loop-member.lines.items ++ log_file_line c.member-item.result.path (what_of c.args.naming.now.dated c.args.count j c.member-item.result) c.args.log.now ∷ []) c.loop-member.invariant.later
      (subst (λ (w : What). c.add_line.new.lines.items ≡ c.loop-member.lines.items ++ log_file_line c.member-item.result.path w c.args.log.now ∷ []) c.what_of-what.ensures c.in_ok-add_line.ensures));
}
