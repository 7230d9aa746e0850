use Rattle.std.proofs.Common.{ℕ, Bool, List, ◌||◌, sym, ap, ◌∙◌}
use Rattle.lr_host.specs.World.{opened}
use Rattle.lr_nights.specs.Marks.{is_marked, is_of_logs}
use Rattle.lr_nights.proofs.Generations.{first_generations}
use Rattle.lr_nights.proofs.walking.begin.Goals as goal

pub returns : goal.returns
returns c = λ sets are.
    let o = c.args.opening.now in
    let ns = c.named.result.now in
    let found = first_generations sets o ns (record { once = c.named.ensures.once; named = c.named.ensures.named (opened o) c.in_ok-new.ensures }) in
    let is = λ (g : ℕ). c.in_ok-mark_names.ensures sets are g ∙ ap (λ (ms : List Bool). is_marked ms g || is_of_logs sets ns g) c.new-2.ensures.items in
    record {
      shows = c.in_ok-new.ensures;
      marked = λ g. ((λ h. (found g).0 (sym (is g) ∙ h)), (λ i. is g ∙ (found g).1 i));
    }
