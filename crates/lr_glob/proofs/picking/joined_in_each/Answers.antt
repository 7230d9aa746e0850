use Rattle.std.proofs.Common.{ap, ◌∙◌, subst}
use Rattle.lr_rules.specs.Match.{literal_path}
use Rattle.lr_glob.specs.Gathers.{Gathers}
use Rattle.lr_glob.specs.Parts.{JoinOf}
use Rattle.lr_glob.proofs.Gathering.{adds_all}
use Rattle.lr_glob.proofs.picking.joined_in_each.Goals as goal

pub returns : goal.returns
returns c =
    let g = adds_all (Gathers (λ dir its. JoinOf dir c.as_slice.result.now its) c.args.dirs.now) c.new-paths.result.items c.join_each.new.into.items c.new-paths.ensures.items c.in_ok-join_each.ensures in
    subst (λ n. Gathers (λ dir its. JoinOf dir n its) c.args.dirs.now c.join_each.new.into.items) (c.as_slice.ensures.value ∙ c.in_ok-name.ensures ∙ ap literal_path c.bytes.ensures.bytes) g
