use Rattle.std.proofs.Common.{rules, ◌≡◌, ◌∙◌, ap, sym, subst, IsSome, Option, None, List, map, true≢false}
use Rattle.std.specs.Map.{lookup}
use Rattle.lr_rules.specs.declared.civil.Civil.{Civil}
use Rattle.lr_state.specs.Table.{StateEntry, moment_of, put, is_table}
use Rattle.lr_state.proofs.Views.{Held, shown, names, lookup-shown, set_value-shown, insert_entry-shown, table-put}
use Rattle.lr_state.proofs.state.State.set.Goals as goal

pub returns-in-Some-clause-ok : goal.returns-in-Some-clause-ok
returns-in-Some-clause-ok c =
    let written = (c.get_mut.follows.holds c.args.at).0 in
    let some : IsSome (lookup (names c.args.name.now) c.self.inside.entries.entries) = subst (λ (o : Option Civil). IsSome o) c.in-Some.ensures.value (search rules) in
    ap (λ (es : List Held). map shown es) written ∙ set_value-shown c.args.name.now c.args.at c.self.inside.entries.entries some
    ∙ ap (λ (es : List StateEntry). put es c.args.name.now c.args.at) c.self.view_is

pub returns-in_err-key-clause-there : goal.returns-in_err-key-clause-there
returns-in_err-key-clause-there c some =
    let moment : lookup (names c.args.name.now) c.self.inside.entries.entries ≡ moment_of c.args.self.now c.args.name.now =
    lookup-shown c.args.name.now c.self.inside.entries.entries ∙ ap (λ (es : List StateEntry). moment_of es c.args.name.now) c.self.view_is in
    let none : None ≡ lookup (names c.args.name.now) c.self.inside.entries.entries = c.in_default.ensures.value in
    absurd (true≢false (sym (subst (λ (o : Option Civil). IsSome o) (sym (none ∙ moment)) some)))

pub returns-in_err-insert-clause-there : goal.returns-in_err-insert-clause-there
returns-in_err-insert-clause-there c some =
    let moment : lookup (names c.args.name.now) c.self.inside.entries.entries ≡ moment_of c.args.self.now c.args.name.now =
    lookup-shown c.args.name.now c.self.inside.entries.entries ∙ ap (λ (es : List StateEntry). moment_of es c.args.name.now) c.self.view_is in
    let none : None ≡ lookup (names c.args.name.now) c.self.inside.entries.entries = c.in_default.ensures.value in
    absurd (true≢false (sym (subst (λ (o : Option Civil). IsSome o) (sym (none ∙ moment)) some)))

pub returns-clause-ok : goal.returns-clause-ok
returns-clause-ok c =
    let entries = rw c.get_mut.follows.holds-at-none at c.in_ok-insert.ensures.entries in
    let key = c.in_ok-key.ensures.items_if_clones_equal (λ x y e. e) in
    ap (λ (es : List Held). map shown es) entries ∙ insert_entry-shown c.args.name.now c.in_ok-key.key c.args.at c.self.inside.entries.entries key
    ∙ ap (λ (es : List StateEntry). put es c.args.name.now c.args.at) c.self.view_is

pub invariant_of-self : goal.invariant_of-self
invariant_of-self c =
    let written = (c.get_mut.follows.holds c.args.at).0 in
    let some : IsSome (lookup (names c.args.name.now) c.self.inside.entries.entries) = subst (λ (o : Option Civil). IsSome o) c.in-Some.ensures.value (search rules) in
    ap (λ (es : List Held). is_table (map shown es)) written
    ∙ ap is_table (set_value-shown c.args.name.now c.args.at c.self.inside.entries.entries some)
    ∙ table-put (map shown c.self.inside.entries.entries) c.args.name.now c.args.at c.requires c.self.invariant

pub invariant_of-self-2 : goal.invariant_of-self-2
invariant_of-self-2 c =
    let entries = rw c.get_mut.follows.holds-at-none at c.in_ok-insert.ensures.entries in
    let key = c.in_ok-key.ensures.items_if_clones_equal (λ x y e. e) in
    ap (λ (es : List Held). is_table (map shown es)) entries
    ∙ ap is_table (insert_entry-shown c.args.name.now c.in_ok-key.key c.args.at c.self.inside.entries.entries key)
    ∙ table-put (map shown c.self.inside.entries.entries) c.args.name.now c.args.at c.requires c.self.invariant
