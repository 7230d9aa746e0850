use Rattle.std.proofs.Common.{◌∙◌, ap}
use Rattle.std.specs.Prelude.{decimal}
use Rattle.lr_family.specs.Named.{framed}
use Rattle.lr_family.proofs.Unique.{by_start}
use Rattle.lr_family.proofs.number.place_of_name.Goals as goal

pub returns-in-Some : goal.returns-in-Some
returns-in-Some c = by_start c.args.naming.now c.in-Some.number c.args.name.now c.checked_sub.result c.checked_sub.ensures c.in-Some.ensures.some.0
    (c.in-Some.ensures.some.1 ∙ (ap (λ b. framed b (decimal c.in-Some.number) c.bytes-2.result.now) c.bytes.ensures.bytes ∙ ap (λ e. framed c.args.naming.now.base (decimal c.in-Some.number) e) c.bytes-2.ensures.bytes))
