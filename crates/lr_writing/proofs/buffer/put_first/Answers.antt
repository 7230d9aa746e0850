use Rattle.std.proofs.Common.{◌∙◌, ap, sym, length}
use Rattle.std.proofs.lemmas.List.{length-take-le}
use Rattle.lr_writing.proofs.buffer.put_first.Goals as goal

pub copy_from_slice-requires : goal.copy_from_slice-requires
copy_from_slice-requires c = length-take-le 29 c.args.buffer.now c.requires ∙ sym (ap length c.first_line.ensures)
