use Rattle.std.proofs.Common.{◌∙◌, ap, ℕ, List, Vec, Global}
use Rattle.std.specs.Str.{bytes_eq}
use Rattle.std.specs.List.{list_any}
use Rattle.lr_include.proofs.Views.{any-shown}
use Rattle.lr_include.proofs.exposed.Exposed.has.Goals as goal

pub returns : goal.returns
returns c =
    c.contains.ensures
    ∙ ap (λ (p : List ℕ). list_any (λ (k : Vec ℕ Global). bytes_eq p k.items) c.self.inside.paths.keys) c.bytes.ensures.bytes
    ∙ any-shown c.args.file.now c.self.inside.paths.keys
    ∙ ap (λ (ps : List (List ℕ)). list_any (bytes_eq c.args.file.now) ps) c.self.view_is
