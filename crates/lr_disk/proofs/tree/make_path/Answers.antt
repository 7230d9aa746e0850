use Rattle.std.proofs.Common.{refl, subst, ⊎_elim, true, ◌≡◌}
use Rattle.lr_disk.specs.Names.{has_path}
use Rattle.lr_disk.proofs.TreeLemmas.{same_wider}
use Rattle.lr_disk.proofs.tree.make_path.Goals as goal

pub returns-clause-same : goal.returns-clause-same
returns-clause-same c =
    same_wider c.args.tree.now _ c.requires c.make_name.ensures.same (c.make_name.ensures.once c.requires.once) c.make_name-2.ensures.same (c.make_name-2.ensures.once c.requires.durable_once) c.make_name-2.ensures.others
    (λ x h. ⊎_elim (λ old. c.make_name.ensures.others x (c.requires.within x old)) (λ new. subst (λ y. has_path c.make_name.new.names.items y ≡ true) new c.in_ok-make_name.ensures.here) (c.make_name-2.ensures.only x h)) refl refl refl
