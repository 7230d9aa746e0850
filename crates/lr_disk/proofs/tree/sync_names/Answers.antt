use Rattle.std.proofs.Common.{◌≡◌, refl, sym, ap, subst, ◌∙◌, [], map, arith}
use Rattle.std.specs.Vec.{with_items}
use Rattle.std.proofs.lemmas.List.{with_items_is}
use Rattle.lr_host.specs.Lists.{AreDistinct}
use Rattle.lr_host.specs.World.{names_after, settled}
use Rattle.lr_disk.specs.Pairs.{keys}
use Rattle.lr_disk.specs.Names.{named_in}
use Rattle.lr_disk.specs.Pending.{as_change, pending_of, AreKnown}
use Rattle.lr_disk.proofs.StepLemmas.{known_kept, known_undone, known_all, has_same}
use Rattle.lr_disk.proofs.tree.sync_names.Goals as goal

pub replay_all-requires : goal.replay_all-requires
replay_all-requires c =
    let s = c.args.tree.now in
    subst (λ ns. AreKnown ns (map as_change c.part.new.bound.items)) (sym c.deref_mut.ensures.value)
    (subst (AreKnown s.durable.items) (sym c.part.ensures.bound) (known_kept s.durable.items (settled c.args.dir.now [] (pending_of s.changes.items)) (pending_of s.changes.items) c.requires.known))

pub returns : goal.returns
returns c =
    let s = c.args.tree.now in
    let durable_is : (with_items s.durable c.replay_all.new.names).items ≡ c.replay_all.new.names = with_items_is s.durable c.replay_all.new.names (c.replay_all.auto.names ∙ c.deref_mut.ensures.len) in
    let keys_are : keys (with_items s.durable c.replay_all.new.names).items ≡ keys s.durable.items = ap keys durable_is ∙ (c.replay_all.ensures.keys ∙ ap keys c.deref_mut.ensures.value) in
    let changes = c.put_back.ensures.back ∙ c.part.ensures.rest in
    record {
      tree = record {
        once = c.requires.once;
        durable_once = subst AreDistinct (sym keys_are) c.requires.durable_once;
        within = λ x h. c.requires.within x (has_same (with_items s.durable c.replay_all.new.names).items s.durable.items x (sym keys_are) h);
        known = subst (AreKnown (with_items s.durable c.replay_all.new.names).items) (sym changes)
            (known_all s.durable.items (with_items s.durable c.replay_all.new.names).items _ keys_are (known_undone s.durable.items (settled c.args.dir.now [] (pending_of s.changes.items)) (pending_of s.changes.items) c.requires.known));
        no_bound = c.replay_all.ensures.none;
        no_rest = c.put_back.ensures.taken;
        bound_room = omega arith;
        rest_room = omega arith;
      };
      named = refl;
      durable = λ x. ap (λ ns. named_in ns x) durable_is ∙ (c.replay_all.ensures.named x
          ∙ (ap (λ ns. names_after (named_in ns) (map as_change c.part.new.bound.items) x) c.deref_mut.ensures.value ∙ ap (λ cs. names_after (named_in s.durable.items) cs x) c.part.ensures.bound));
      changes = changes;
    }
