use Rattle.std.proofs.Common.{rules, ◌∙◌, ap, map, filter, not, List, ◌||◌}
use Rattle.indexmap.proofs.CallerLemmas.{filter-RetainsPairs}
use Rattle.lr_state.specs.Table.{StateEntry, is_old}
use Rattle.lr_state.proofs.Views.{Held, shown, filter-shown_by, table-kept}
use Rattle.lr_state.proofs.state.State.purge.Goals as goal

pub invariant_of-self : goal.invariant_of-self
invariant_of-self g c = table-kept _ _ _ _ c.retain.ensures.filtered c.self.invariant

pub returns : goal.returns
returns g c t is =
    ap (λ (es : List Held). map shown es)
    (filter-RetainsPairs _ (λ (e : Held). t e.0.items || not (is_old e.1 c.args.now.now)) _ (λ k v b w h call. search (rules, is)) _ _ c.retain.ensures.filtered)
    ∙ filter-shown_by (λ (e : StateEntry). t e.0 || not (is_old e.1 c.args.now.now)) c.self.inside.entries.entries
    ∙ ap (λ (es : List StateEntry). filter (λ e. t e.0 || not (is_old e.1 c.args.now.now)) es) c.self.view_is
