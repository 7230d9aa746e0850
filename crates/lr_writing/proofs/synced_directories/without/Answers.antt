use Rattle.std.proofs.Common.{◌∙◌, ap, rules, List, ℕ, Bool, filter, not}
use Rattle.std.specs.BTreeSet.{contains_text}
use Rattle.std.proofs.lemmas.Fn.{filter_same}
use Rattle.lr_writing.proofs.synced_directories.without.Goals as goal

pub returns : goal.returns
returns c =
    let test : List ℕ → Bool = λ dir. not (contains_text c.args.unmade.now dir) in
    c.from_vec.ensures ∙ filter_same _ test _ (λ x b f k. search rules) _ _ c.retain.ensures.filtered ∙ ap (filter test) c.into_vec-dirs.ensures
