use Rattle.std.proofs.Common.{◌∙◌, ap, ℕ, List, Vec, Global, map, ◌++◌, ◌∷◌, []}
use Rattle.std.specs.Str.{bytes_eq}
use Rattle.std.specs.List.{list_any}
use Rattle.lr_include.proofs.Views.{shown, inserted-new}
use Rattle.lr_include.proofs.exposed.Exposed.add.Goals as goal

pub returns : goal.returns
returns c =
    let key = c.in_ok-path.ensures.items_if_clones_equal (λ x y e. e) in
    ap (λ (ps : List (Vec ℕ Global)). map shown ps) c.in_ok-insert.ensures.keys
    ∙ inserted-new c.args.file.now c.self.inside.paths.keys c.in_ok-path.path (key ∙ c.bytes.ensures.bytes)
    (ap (λ (ps : List (List ℕ)). list_any (bytes_eq c.args.file.now) ps) c.self.view_is ∙ c.requires)
    ∙ ap (λ (ps : List (List ℕ)). ps ++ c.args.file.now ∷ []) c.self.view_is
