use Rattle.std.proofs.Common.{refl, arith}
use Rattle.lr_disk.specs.State.{synced_file}
use Rattle.lr_disk.proofs.StateLemmas.{filed_as}
use Rattle.lr_disk.proofs.bytes.sync.Goals as goal

pub returns-then-place-len : goal.returns-then-place-len
returns-then-place-len c =
    filed_as c.args.state.now _ _ c.in-Some.identity synced_file c.index_mut.result.now c.flush_file.new.file c.in-Some.is refl refl refl refl (omega (arith, c.if-place-len.true, c.len.ensures)) c.index_mut.ensures.value c.flush_file.ensures
