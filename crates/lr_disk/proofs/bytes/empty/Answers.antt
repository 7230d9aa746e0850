use Rattle.std.proofs.Common.{refl, ap, ◌∙◌, arith, w64}
use Rattle.std.proofs.lemmas.Int.{to_z-of_z}
use Rattle.lr_disk.specs.State.{as_file, emptied_file}
use Rattle.lr_disk.proofs.StateLemmas.{filed_as}
use Rattle.lr_disk.proofs.bytes.empty.Goals as goal

pub returns-then-place-len : goal.returns-then-place-len
returns-then-place-len c =
    filed_as c.args.state.now _ _ c.in-Some.identity (emptied_file c.args.at) c.index_mut.result.now c.empty_file.new.file c.in-Some.is refl refl refl refl (omega (arith, c.if-place-len.true, c.len.ensures)) c.index_mut.ensures.value
    (c.empty_file.ensures ∙ ap (λ z. emptied_file z (as_file c.index_mut.result.now)) (to_z-of_z w64 c.args.at c.ranges.at))
