use Rattle.std.proofs.Common.{◌≡◌, false, length, take, sym, ◌∙◌, arith, rules}
use Rattle.std.proofs.lemmas.List.{length-take-le}
use Rattle.lr_shapes.specs.Shapes.{tokens_of}
use Rattle.lr_shapes.specs.Deciding.{meet}
use Rattle.lr_shapes.proofs.Deciding.{meet_is_common}
use Rattle.lr_shapes.proofs.Walking.{past, plain_split, walked, walked_not}
use Rattle.lr_shapes.proofs.common.have_common.Goals as goal

pub loop-n-preserved : goal.loop-n-preserved
loop-n-preserved c =
    walked (take c.in-Some.n c.loop-n.left.dir.now) (take c.in-Some.n c.loop-n.right.dir.now) _ _ _ _ (search rules) c.behind-left.ensures c.behind-right.ensures ∙ c.loop-n.invariant

pub returns-then-not-begin_same : goal.returns-then-not-begin_same
returns-then-not-begin_same c =
    let n = c.in-Some.n in
    let a = c.loop-n.left.dir.now in
    let b = c.loop-n.right.dir.now in
    let long : length (take n a) ≡ length (take n b) = omega (arith, length-take-le n a, length-take-le n b, c.in-Some.ensures) in
    let apart : meet (tokens_of c.loop-n.left) (tokens_of c.loop-n.right) ≡ false =
    walked_not (take n a) (take n b) (tokens_of c.loop-n.left) (tokens_of c.loop-n.right) _ _ long (search rules) (plain_split n a (past c.loop-n.left)) (plain_split n b (past c.loop-n.right)) in
    let law = meet_is_common (tokens_of c.args.a.now) (tokens_of c.args.b.now) in
    let not : meet (tokens_of c.args.a.now) (tokens_of c.args.b.now) ≡ false = sym c.loop-n.invariant ∙ apart in
    (λ e. absurd (cc), λ h. let t = law.1 h in absurd (cc))

pub returns : goal.returns
returns c =
    let same : c.do_meet.result ≡ meet (tokens_of c.args.a.now) (tokens_of c.args.b.now) = c.do_meet.ensures ∙ c.loop-n.invariant in
    let law = meet_is_common (tokens_of c.args.a.now) (tokens_of c.args.b.now) in
    (λ e. law.0 (sym same ∙ e), λ h. same ∙ law.1 h)
