use Rattle.std.proofs.Common.{◌≡◌, ◌∙◌, ℕ, List, subst, ap, sym}
use Rattle.std.specs.Prelude.{IfOk}
use Rattle.lr_nights.specs.declared.month.Night.{Night}
use Rattle.lr_nights.specs.Month.{nights_from}
use Rattle.lr_nights.proofs.MonthLemmas.{drawn_nights_are}
use Rattle.lr_nights.proofs.month.draw_nights.Goals as goal

pub returns : goal.returns
returns c = subst (λ (all : List Night). IfOk c.draw_each.result (λ nights. nights.items ≡ all)) (ap (λ (x : ℕ). nights_from c.args.logs 1 30 x) c.behind_definitions-x.ensures ∙ sym (drawn_nights_are c.args.logs)) c.draw_each.ensures
