use Rattle.std.proofs.Common.{◌≡◌, ◌∙◌, subst, List, ℕ, true, ◌||◌}
use Rattle.std.specs.Str.{bytes_eq}
use Rattle.std.specs.String.{string_bytes}
use Rattle.std.specs.BTreeSet.{contains_text}
use Rattle.std.proofs.lemmas.Map.Text.{btree_set_updates_text}
use Rattle.lr_writing.proofs.Striking.{added}
use Rattle.lr_writing.proofs.unmade.add_dir.Goals as goal

pub returns : goal.returns
returns c = λ path.
    let text = string_bytes c.in_ok-text.text in
    let is : text ≡ c.args.dir.now = c.in_ok-text.ensures.ok ∙ c.as_str.ensures in
    subst (λ (dir : List ℕ). contains_text c.insert.new.self path ≡ (contains_text c.args.unmade.now path || bytes_eq path dir)) is
    (btree_set_updates_text text c.args.unmade.now c.insert.new.self true c.in_ok-insert.ensures.updates path ∙ added text path (contains_text c.args.unmade.now path))
