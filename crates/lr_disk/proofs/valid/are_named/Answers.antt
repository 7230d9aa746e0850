use Rattle.std.proofs.Common.{◌≡◌, ◌==◌, count_by, arith, sym, ◌∙◌, below_more}
use Rattle.lr_disk.proofs.valid.are_named.Goals as goal

pub returns-then-names_of_file-ne1 : goal.returns-then-names_of_file-ne1
returns-then-names_of_file-ne1 c = ((λ t. absurd (cc)), (λ all. absurd (c.if-names_of_file-ne1.true (c.names_of_file.ensures ∙ all c.loop-identity.identity c.loop-identity-test.true))))

pub loop-identity-preserved : goal.loop-identity-preserved
loop-identity-preserved c = below_more (λ g. count_by (λ n. n.1 == g) c.args.names.now ≡ 1) c.loop-identity.identity c.loop-identity.invariant (sym c.names_of_file.ensures ∙ c.if-names_of_file-ne1.false)

pub returns : goal.returns
returns c = ((λ t g lt. c.loop-identity.invariant g (omega arith)), (λ all. cc))
