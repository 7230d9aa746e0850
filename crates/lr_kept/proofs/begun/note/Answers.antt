use Rattle.std.proofs.Common.{◌∙◌, ap, sym, refl, ℕ, List, Some, cond}
use Rattle.std.specs.Str.{bytes_eq}
use Rattle.lr_kept.specs.Begun.{Found, place_in}
use Rattle.lr_kept.proofs.Places.{place_inserted}
use Rattle.lr_kept.proofs.begun.note.Goals as goal

pub returns-in-Some : goal.returns-in-Some
returns-in-Some c = (sym c.in-Some.ensures.value, λ q. refl)

pub returns : goal.returns
returns c = (
  sym c.in_default.ensures.value,
  λ q.
      let key = c.in_ok-key.ensures.items_if_clones_equal (λ x y e. e) in
      ap (λ (es : List Found). place_in es q) c.in_ok-insert.ensures.entries
      ∙ place_inserted c.args.found.now.entries c.in_ok-key.key c.args.place q
      ∙ ap (λ (k : List ℕ). cond (bytes_eq q k) (Some c.args.place) (place_in c.args.found.now.entries q)) key,
)
