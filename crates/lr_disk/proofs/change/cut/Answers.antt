use Rattle.std.proofs.Common.{◌≡◌, ◌<◌, refl, ap, sym, subst, ◌∙◌, length}
use Rattle.std.specs.Vec.{with_items}
use Rattle.std.proofs.lemmas.List.{with_items_is}
use Rattle.lr_host.specs.World.{length_of}
use Rattle.lr_disk.specs.State.{file_with, cut_file}
use Rattle.lr_disk.proofs.StateLemmas.{shows_cut}
use Rattle.lr_disk.proofs.change.cut.Goals as goal

pub returns : goal.returns
returns c = λ w shows.
    let s = c.args.state.now in
    let files_is : (with_items s.files c.cut_all.new.files).items ≡ c.cut_all.new.files = with_items_is s.files c.cut_all.new.files (c.cut_all.auto.files ∙ c.deref_mut.ensures.len) in
    shows_cut s _ w c.args.kept.now c.args.lengths.now shows c.cut_names.ensures c.clear.ensures.items
    (ap length files_is ∙ (c.cut_all.ensures.size ∙ ap length c.deref_mut.ensures.value))
    (λ id lt. ap (λ fs. file_with fs id) files_is ∙ (c.cut_all.ensures.files id (subst (λ fs. id < length fs) (sym c.deref_mut.ensures.value) lt) ∙ ap (λ fs. cut_file (length_of c.args.lengths.now id) (file_with fs id)) c.deref_mut.ensures.value)) refl
