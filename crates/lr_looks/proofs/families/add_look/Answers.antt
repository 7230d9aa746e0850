use Rattle.std.proofs.Common.{◌≤◌, ◌++◌, ◌∷◌, [], length, ap, ◌∙◌, sym, subst}
use Rattle.lr_rules.specs.declared.path.Path.{Path}
use Rattle.lr_plan.specs.declared.looks.SetLooks.{SetLooks}
use Rattle.lr_plan.specs.Planned.{CanPlan}
use Rattle.lr_looks.specs.Families.{looked_at}
use Rattle.lr_looks.specs.Found.{found_in}
use Rattle.lr_looks.proofs.Adding.{grow, each_grow, same_look}
use Rattle.lr_looks.proofs.families.add_look.Goals as goal

pub returns-clause-looked : goal.returns-clause-looked
returns-clause-looked c = λ logs h. grow 0 c.args.found.set logs (looked_at (found_in c.args.found) c.args.standing.stand c.args.standing.tmp)
    (record { path = c.in_ok-path.path; seen = c.args.found.seen; family = c.args.found.family; stand = c.args.standing.stand; tmp = c.args.standing.tmp }) c.args.sets.now.items (record { logs = c.push.new.self }) c.index_mut.result.now
    (same_look (found_in c.args.found) c.args.standing.stand c.args.standing.tmp c.in_ok-path.path (c.in_ok-path.ensures ∙ c.log.ensures)) c.requires.set
    (c.in_ok-push.ensures.pushed
    ∙ ap (λ (s : SetLooks). s.logs ++ record { path = c.in_ok-path.path; seen = c.args.found.seen; family = c.args.found.family; stand = c.args.standing.stand; tmp = c.args.standing.tmp } ∷ []) c.index_mut.ensures.value) h

pub returns-clause-ready : goal.returns-clause-ready
returns-clause-ready c = each_grow CanPlan c.args.found.set
    (record { path = c.in_ok-path.path; seen = c.args.found.seen; family = c.args.found.family; stand = c.args.standing.stand; tmp = c.args.standing.tmp }) c.args.sets.now.items (record { logs = c.push.new.self }) c.index_mut.result.now c.requires.set
    (c.in_ok-push.ensures.pushed
    ∙ ap (λ (s : SetLooks). s.logs ++ record { path = c.in_ok-path.path; seen = c.args.found.seen; family = c.args.found.family; stand = c.args.standing.stand; tmp = c.args.standing.tmp } ∷ []) c.index_mut.ensures.value)
    (record {
      log = sym (c.in_ok-path.ensures ∙ c.log.ensures);
      size = subst (λ (x : Path). length x ≤ 2048) (sym (c.in_ok-path.ensures ∙ c.log.ensures)) c.requires.path.size;
      start = c.requires.bounds.start;
      members = c.requires.named;
    })
