use Rattle.std.proofs.Common.{◌∙◌, ◌≤◌, ap, sym, subst, List, ℕ, length, option_map}
use Rattle.std.proofs.lemmas.Option.{slice_get-map}
use Rattle.lr_state.proofs.Views.{shown, table-name, name-short}
use Rattle.lr_state.proofs.state.State.entry.Goals as goal

pub returns-clause-short : goal.returns-clause-short
returns-clause-short c =
    let held = slice_get-map shown c.self.inside.entries.entries c.args.k ∙ ap (option_map shown) (sym c.in-Some.ensures.entry) in
    let good = table-name _ c.args.k (shown (c.in-Some.name.now, c.in-Some.at.now)) c.self.invariant held in
    subst (λ (xs : List ℕ). length xs ≤ 4096) (sym c.as_slice.ensures.value) (name-short c.in-Some.name.now.items good)
