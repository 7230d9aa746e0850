use Rattle.std.proofs.Common.{◌≡◌, ◌∙◌, sym, subst, List, ℕ, [], ◌∷◌, false, not, ◌&&◌}
use Rattle.std.specs.BTreeSet.{contains_text}
use Rattle.std.proofs.lemmas.Map.Text.{btree_set_updates_text}
use Rattle.std.specs.List.{list_any}
use Rattle.std.specs.Str.{bytes_eq}
use Rattle.lr_plan.specs.declared.mark.Mark.{Mark}
use Rattle.lr_writing.specs.Synced.{made_by}
use Rattle.lr_writing.proofs.Striking.{struck}
use Rattle.lr_writing.proofs.unmade.strike.Goals as goal

pub returns-in-Directory : goal.returns-in-Directory
returns-in-Directory c = λ path.
    let told = c.in-Directory.dir in
    let has = contains_text c.args.unmade.now path in
    let is : c.as_str.result.now ≡ told = c.as_str.ensures in
    subst (λ (mark : Mark). contains_text c.remove.new.self path ≡ (has && not (list_any (bytes_eq path) (made_by mark)))) (sym c.in-Directory.is)
    (subst (λ (dir : List ℕ). contains_text c.remove.new.self path ≡ (has && not (list_any (bytes_eq path) (dir ∷ [])))) is
    (btree_set_updates_text c.as_str.result.now c.args.unmade.now c.remove.new.self false c.remove.ensures.updates path ∙ struck c.as_str.result.now path has))
