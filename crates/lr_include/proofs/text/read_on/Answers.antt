use Rattle.std.proofs.Common.{drop, take, length, refl, sym, ap, ◌∙◌, arith}
use Rattle.std.proofs.lemmas.List.{length-take}
use Rattle.std.proofs.Math.Seq.{drop-append_seam}
use Rattle.lr_include.proofs.Texts.{one_read, read_as, take_short}
use Rattle.lr_include.proofs.text.read_on.Goals as goal

pub returns-in_default-extend_from_slice-clause-lacking : goal.returns-in_default-extend_from_slice-clause-lacking
returns-in_default-extend_from_slice-clause-lacking g c = λ e. one_read c.args.path.now (length c.args.bytes.now.items) (length c.args.piece.now) (take c.in-Ok.count c.read.new.into)
    (omega (arith, length-take c.in-Ok.count c.read.new.into, c.read.auto.into, take_short c.in-Ok.count c.read.new.into, c.in-Ok.ensures.bound))
    (read_as c.args.path.now _ (length c.args.bytes.now.items) _ (take c.in-Ok.count c.read.new.into) c.in-Ok.ensures.told (omega (arith, c.len.ensures)) refl)

pub returns-clause-told : goal.returns-clause-told
returns-clause-told g c =
    read_as c.args.path.now _ (length c.args.bytes.now.items) _ (drop (length c.args.bytes.now.items) c.extend_from_slice.new.self.items) c.in-Ok.ensures.told (omega (arith, c.len.ensures))
    (sym (ap (drop (length c.args.bytes.now.items)) c.in-Ok-extend_from_slice.ensures.items ∙ drop-append_seam c.args.bytes.now.items _))
