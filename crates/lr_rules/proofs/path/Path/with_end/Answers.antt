use Rattle.std.proofs.Common.{◌++◌, ap, ◌∙◌, subst, List, ℕ}
use Rattle.lr_rules.specs.Path.{path_fault, IsRefusal}
use Rattle.lr_rules.proofs.Endings.{path_unrefused}
use Rattle.lr_rules.proofs.path.Path.with_end.Goals as goal

pub lacks_memory-requires : goal.lacks_memory-requires
lacks_memory-requires c =
    let same = c.in_ok-bytes.ensures ∙ ap (λ (x : List ℕ). x ++ c.args.end.now) c.bytes.ensures.bytes in
    path_unrefused (c.args.self.now ++ c.args.end.now) c.in-Err.why (c.requires c.bytes.ensures.path) (subst (λ (bs : List ℕ). IsRefusal (path_fault bs) c.in-Err.why) same c.in-Err.ensures)
