use Rattle.std.proofs.Common.{List, ℕ, Option, sym, ap, ◌∙◌}
use Rattle.lr_rules.specs.Names.{path_from, family_dir}
use Rattle.lr_rules.specs.Path.{cleaned, parent_of}
use Rattle.lr_rules.proofs.FromWord.{from_is}
use Rattle.lr_rules.proofs.naming.dir_of.Goals as goal

pub returns-in-Ok : goal.returns-in-Ok
returns-in-Ok c =
    c.in-Ok.ensures.path.0
    ∙ (ap (cleaned c.in_ok-here.here) c.bytes.ensures.bytes
    ∙ (sym (from_is c.in_ok-here.here c.in-Some.olddir)
    ∙ (ap (λ (here : List ℕ). path_from here c.in-Some.olddir) c.in_ok-here.ensures.0
    ∙ ap (λ (o : Option (List ℕ)). family_dir (parent_of c.args.log.now) o) (sym c.in-Some.is))))
