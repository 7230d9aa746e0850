use Rattle.std.proofs.Common.{sym, codes}
use Rattle.std.proofs.lemmas.List.{map-append}
use Rattle.lr_shapes.specs.declared.token.Token.TheVariants.{Byte}
use Rattle.lr_shapes.proofs.whole.aside_shape.Goals as goal

pub returns : goal.returns
returns c = sym (map-append (λ b. Byte b) c.args.log.now (codes ".tmp"))
