use Rattle.std.proofs.Common.{sym, subst, ◌∙◌}
use Rattle.lr_host.specs.World.{world, past}
use Rattle.lr_disk.specs.Lengths.{MayKeep}
use Rattle.lr_disk.specs.State.{ShowsWorld}
use Rattle.lr_disk.proofs.LengthLemmas.{left_in, cut_allowed, cut_keeps, cut_within}
use Rattle.lr_disk.proofs.disk.Disk.allows.Goals as goal

pub may_cut-requires-clause-below : goal.may_cut-requires-clause-below
may_cut-requires-clause-below c = left_in c.self.inside.state (world (past c.self.inside.journal)) c.args.kept.now c.self.invariant.shows

pub returns-then-not-may_keep : goal.returns-then-not-may_keep
returns-then-not-may_keep c =
    let s = c.self.inside.state in
    let shows = subst (λ k. ShowsWorld s (world (past k))) c.self.view_is c.self.invariant.shows in (
      (λ t. absurd (cc)),
      (λ cut. sym c.if-not-may_keep.true ∙ c.may_keep.ensures.1 (subst (MayKeep c.args.kept.now) (sym c.deref.ensures.value) (cut_keeps s (world (past c.args.self.now)) c.args.kept.now c.args.lengths.now shows cut))),
    )

pub returns : goal.returns
returns c =
    let s = c.self.inside.state in
    let shows = subst (λ k. ShowsWorld s (world (past k))) c.self.view_is c.self.invariant.shows in (
      (λ t. cut_allowed s (world (past c.args.self.now)) c.args.kept.now c.args.lengths.now shows (subst (MayKeep c.args.kept.now) c.deref.ensures.value (c.may_keep.ensures.0 c.if-not-may_keep.false)) (c.are_apart.ensures.0 c.if-not-are_apart.false) (c.in_ok-may_cut.ensures.0 t)),
      (λ cut. c.in_ok-may_cut.ensures.1 (cut_within s (world (past c.args.self.now)) c.args.kept.now c.args.lengths.now shows cut)),
    )
