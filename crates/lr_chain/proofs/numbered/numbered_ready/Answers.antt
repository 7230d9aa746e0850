use Rattle.std.proofs.Common.{subst, sym, ◌∙◌}
use Rattle.lr_chain.specs.Ready.{HaveNames, HaveNext, HaveNewNames}
use Rattle.lr_chain.proofs.Bounds.{have_names, have_next, have_new_names}
use Rattle.lr_chain.proofs.numbered.numbered_ready.Goals as goal

pub put_members-requires-clause-named : goal.put_members-requires-clause-named
put_members-requires-clause-named c =
    subst (HaveNames c.args.family.now.naming) (sym (c.deref.ensures.value ∙ c.in_ok-places.ensures)) (have_names c.args.family.now.naming c.args.members.now c.requires.numbered c.requires.named)

pub put_members-requires-clause-next : goal.put_members-requires-clause-next
put_members-requires-clause-next c =
    subst (HaveNext c.args.family.now.naming c.args.kept.count) (sym (c.deref.ensures.value ∙ c.in_ok-places.ensures))
    (have_next c.args.family.now.naming c.args.kept.count c.args.members.now c.requires.numbered c.requires.start c.requires.count c.requires.named c.requires.low)

pub put_members-requires-clause-behind : goal.put_members-requires-clause-behind
put_members-requires-clause-behind c =
    subst (HaveNewNames c.args.family.now.naming) (sym (c.deref-2.ensures.value ∙ c.in_ok-from.ensures))
    (have_new_names c.args.family.now.naming c.args.kept.count c.args.kept.maxage _ c.args.members.now c.requires.numbered c.requires.start c.requires.count c.requires.named c.requires.low)
