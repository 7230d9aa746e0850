use Rattle.std.proofs.Common.{◌≡◌, ◌<◌, ap, sym, subst, ◌∙◌, length}
use Rattle.std.specs.Vec.{with_items}
use Rattle.std.proofs.lemmas.List.{with_items_is}
use Rattle.lr_host.specs.World.{names_after, kept_at}
use Rattle.lr_host.specs.Lists.{AreDistinct}
use Rattle.lr_disk.specs.Pairs.{keys}
use Rattle.lr_disk.specs.Names.{named_in}
use Rattle.lr_disk.specs.Pending.{pending_of, AreKnown}
use Rattle.lr_disk.specs.Lengths.{names_left, AreWithin}
use Rattle.lr_disk.proofs.LengthLemmas.{Agree, within_alike}
use Rattle.lr_disk.proofs.cuts.may_cut.Goals as goal

pub keep-requires : goal.keep-requires
keep-requires c =
    let copied = c.deref_mut.ensures.value ∙ (c.in_ok-names.ensures ∙ c.deref.ensures.value) in
    subst (λ ns. AreKnown ns (pending_of c.deref-2.result.now)) (sym copied) (subst (λ cs. AreKnown c.args.state.now.tree.durable.items (pending_of cs)) (sym c.deref-2.ensures.value) c.requires.tree.known)

pub are_within-requires-clause-once : goal.are_within-requires-clause-once
are_within-requires-clause-once c =
    let s = c.args.state.now in
    let is : (with_items c.in_ok-names.names c.keep.new.names).items ≡ c.keep.new.names = with_items_is c.in_ok-names.names c.keep.new.names (c.keep.auto.names ∙ c.deref_mut.ensures.len) in
    let copied = c.deref_mut.ensures.value ∙ (c.in_ok-names.ensures ∙ c.deref.ensures.value) in
    subst AreDistinct (sym (ap keys (c.deref-4.ensures.value ∙ is) ∙ (c.keep.ensures.keys ∙ ap keys copied))) c.requires.tree.durable_once

pub are_within-requires-clause-below : goal.are_within-requires-clause-below
are_within-requires-clause-below c =
    let s = c.args.state.now in
    let is : (with_items c.in_ok-names.names c.keep.new.names).items ≡ c.keep.new.names = with_items_is c.in_ok-names.names c.keep.new.names (c.keep.auto.names ∙ c.deref_mut.ensures.len) in
    let copied = c.deref_mut.ensures.value ∙ (c.in_ok-names.ensures ∙ c.deref.ensures.value) in
    let named : Agree (named_in c.deref-4.result.now) (names_left s c.args.kept.now) =
    λ x. ap (λ ns. named_in ns x) (c.deref-4.ensures.value ∙ is) ∙ (c.keep.ensures.named x
    ∙ (ap (λ cs. names_after (named_in c.deref_mut.result.now) (kept_at c.args.kept.now (pending_of cs)) x) c.deref-2.ensures.value
    ∙ ap (λ ns. names_after (named_in ns) (kept_at c.args.kept.now (pending_of s.tree.changes.items)) x) copied)) in
    λ x g e. subst (λ fs. g < length fs) (sym c.deref-3.ensures.value) (c.requires.below x g (sym (named x) ∙ e))

pub returns : goal.returns
returns c =
    let s = c.args.state.now in
    let is : (with_items c.in_ok-names.names c.keep.new.names).items ≡ c.keep.new.names = with_items_is c.in_ok-names.names c.keep.new.names (c.keep.auto.names ∙ c.deref_mut.ensures.len) in
    let copied = c.deref_mut.ensures.value ∙ (c.in_ok-names.ensures ∙ c.deref.ensures.value) in
    let named : Agree (named_in c.deref-4.result.now) (names_left s c.args.kept.now) =
    λ x. ap (λ ns. named_in ns x) (c.deref-4.ensures.value ∙ is) ∙ (c.keep.ensures.named x
    ∙ (ap (λ cs. names_after (named_in c.deref_mut.result.now) (kept_at c.args.kept.now (pending_of cs)) x) c.deref-2.ensures.value
    ∙ ap (λ ns. names_after (named_in ns) (kept_at c.args.kept.now (pending_of s.tree.changes.items)) x) copied)) in (
      (λ t. within_alike s.files.items (named_in c.deref-4.result.now) (names_left s c.args.kept.now) c.args.lengths.now named (subst (λ fs. AreWithin fs (named_in c.deref-4.result.now) c.args.lengths.now) c.deref-3.ensures.value (c.are_within.ensures.0 t))),
      (λ a. c.are_within.ensures.1 (subst (λ fs. AreWithin fs (named_in c.deref-4.result.now) c.args.lengths.now) (sym c.deref-3.ensures.value) (within_alike s.files.items (names_left s c.args.kept.now) (named_in c.deref-4.result.now) c.args.lengths.now (λ x. sym (named x)) a))),
    )
