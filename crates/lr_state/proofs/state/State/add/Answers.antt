use Rattle.std.proofs.Common.{◌≡◌, ◌∙◌, ap, refl, List, [], ◌∷◌, ◌++◌, false, is_some, map}
use Rattle.lr_state.specs.Table.{StateEntry, moment_of, is_table}
use Rattle.lr_state.proofs.Views.{Held, shown, insert_entry-shown, put-new, table-put}
use Rattle.lr_state.proofs.state.State.add.Goals as goal

pub invariant_of-self-2 : goal.invariant_of-self-2
invariant_of-self-2 c =
    ap (λ (es : List Held). is_table (map shown es)) c.in_ok-insert.ensures.entries
    ∙ ap is_table (insert_entry-shown c.args.name.items c.args.name c.args.at c.self.inside.entries.entries refl)
    ∙ table-put (map shown c.self.inside.entries.entries) c.args.name.items c.args.at c.requires.name c.self.invariant

pub returns-clause-ok : goal.returns-clause-ok
returns-clause-ok c =
    let none : is_some (moment_of (map shown c.self.inside.entries.entries) c.args.name.items) ≡ false =
    ap (λ (es : List StateEntry). is_some (moment_of es c.args.name.items)) c.self.view_is ∙ ap is_some c.requires.new in
    ap (λ (es : List Held). map shown es) c.in_ok-insert.ensures.entries
    ∙ insert_entry-shown c.args.name.items c.args.name c.args.at c.self.inside.entries.entries refl
    ∙ put-new (map shown c.self.inside.entries.entries) c.args.name.items c.args.at none
    ∙ ap (λ (es : List StateEntry). es ++ (c.args.name.items, c.args.at) ∷ []) c.self.view_is
