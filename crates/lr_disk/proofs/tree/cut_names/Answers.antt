use Rattle.std.proofs.Common.{◌≡◌, true, sym, ap, subst, ◌∙◌, arith, length}
use Rattle.std.specs.Vec.{with_items}
use Rattle.std.proofs.lemmas.List.{with_items_is}
use Rattle.lr_host.specs.Lists.{AreDistinct}
use Rattle.lr_host.specs.World.{names_after, kept_at}
use Rattle.lr_disk.specs.Pairs.{keys}
use Rattle.lr_disk.specs.Names.{named_in, has_path}
use Rattle.lr_disk.specs.Pending.{pending_of, AreKnown}
use Rattle.lr_disk.proofs.StepLemmas.{has_same}
use Rattle.lr_disk.proofs.tree.cut_names.Goals as goal

pub keep-requires : goal.keep-requires
keep-requires c = subst (λ ns. AreKnown ns (pending_of c.deref.result.now)) (sym c.deref_mut.ensures.value) (subst (λ cs. AreKnown c.args.tree.now.durable.items (pending_of cs)) (sym c.deref.ensures.value) c.requires.known)

pub take_over-requires : goal.take_over-requires
take_over-requires c = λ x h.
    let s = c.args.tree.now in
    let durable_is : (with_items s.durable c.keep.new.names).items ≡ c.keep.new.names = with_items_is s.durable c.keep.new.names (c.keep.auto.names ∙ c.deref_mut.ensures.len) in
    let keys_are : keys (with_items s.durable c.keep.new.names).items ≡ keys s.durable.items = ap keys durable_is ∙ (c.keep.ensures.keys ∙ ap keys c.deref_mut.ensures.value) in
    subst (λ ns. has_path ns x ≡ true) (sym c.deref_mut-2.ensures.value)
    (c.requires.within x (has_same (with_items s.durable c.keep.new.names).items s.durable.items x (sym keys_are) (subst (λ ns. has_path ns x ≡ true) c.deref-2.ensures.value h)))

pub returns : goal.returns
returns c =
    let s = c.args.tree.now in
    let durable_is : (with_items s.durable c.keep.new.names).items ≡ c.keep.new.names = with_items_is s.durable c.keep.new.names (c.keep.auto.names ∙ c.deref_mut.ensures.len) in
    let keys_are : keys (with_items s.durable c.keep.new.names).items ≡ keys s.durable.items = ap keys durable_is ∙ (c.keep.ensures.keys ∙ ap keys c.deref_mut.ensures.value) in
    let names_is : (with_items s.names c.take_over.new.names).items ≡ c.take_over.new.names = with_items_is s.names c.take_over.new.names (c.take_over.auto.names ∙ c.deref_mut-2.ensures.len) in
    let name_keys : keys (with_items s.names c.take_over.new.names).items ≡ keys s.names.items = ap keys names_is ∙ (c.take_over.ensures.keys ∙ ap keys c.deref_mut-2.ensures.value) in
    let size : length c.clear.new.self.items ≡ 0 = ap length c.clear.ensures.items in
    record {
      tree = record {
        once = subst AreDistinct (sym name_keys) c.requires.once;
        durable_once = subst AreDistinct (sym keys_are) c.requires.durable_once;
        within = λ x h. has_same s.names.items (with_items s.names c.take_over.new.names).items x name_keys (c.requires.within x (has_same (with_items s.durable c.keep.new.names).items s.durable.items x (sym keys_are) h));
        known = subst (λ cs. AreKnown (with_items s.durable c.keep.new.names).items (pending_of cs)) (sym c.clear.ensures.items) tt;
        no_bound = c.requires.no_bound;
        no_rest = c.requires.no_rest;
        bound_room = omega arith;
        rest_room = omega arith;
      };
      named = λ x. ap (λ ns. named_in ns x) names_is ∙ (c.take_over.ensures.named x ∙ ap (λ ns. named_in ns x) c.deref-2.ensures.value);
      durable = λ x. ap (λ ns. named_in ns x) durable_is ∙ (c.keep.ensures.named x
          ∙ (ap (λ ns. names_after (named_in ns) (kept_at c.args.kept.now (pending_of c.deref.result.now)) x) c.deref_mut.ensures.value
          ∙ ap (λ cs. names_after (named_in s.durable.items) (kept_at c.args.kept.now (pending_of cs)) x) c.deref.ensures.value));
      changes = c.clear.ensures.items;
    }
