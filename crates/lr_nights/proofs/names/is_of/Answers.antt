use Rattle.std.proofs.Common.{◌≡◌, ◌||◌, Bool, true, false, sym, ◌∙◌, ap, bytes_eq}
use Rattle.std.specs.Prelude.{is_some}
use Rattle.lr_rules.specs.declared.path.Path.{Path}
use Rattle.lr_nights.proofs.Sets.{keyed}
use Rattle.lr_nights.proofs.names.is_of.Goals as goal

pub returns-then-is : goal.returns-then-is
returns-then-is c = λ s of.
    let x = c.args.path.now in
    let same : bytes_eq s.log x ≡ true = ap (λ (l : Path). bytes_eq l x) (of.0 ∙ sym c.log.ensures) ∙ sym c.is.ensures.test ∙ c.if-is.true in
    sym (ap (λ (b : Bool). b || is_some (s.key x)) same)

pub returns : goal.returns
returns c = λ s of.
    let x = c.args.path.now in
    let apart : bytes_eq s.log x ≡ false = ap (λ (l : Path). bytes_eq l x) (of.0 ∙ sym c.log.ensures) ∙ sym c.is.ensures.test ∙ c.if-is.false in
    c.is_some.ensures ∙ keyed s c.args.log.now.naming x c.place_of.result of.1 c.requires c.place_of.ensures.numbers c.place_of.ensures.stamps ∙ ap (λ (b : Bool). b || is_some (s.key x)) (sym apart)
