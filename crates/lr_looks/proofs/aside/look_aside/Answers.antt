use Rattle.std.proofs.Common.{◌≤◌, length, ap, sym, ◌∙◌, subst}
use Rattle.lr_rules.specs.declared.path.Path.{Path}
use Rattle.lr_rules.specs.declared.rule.Naming.{Naming}
use Rattle.lr_rules.specs.Names.{aside_path}
use Rattle.lr_looks.proofs.AsideLook.{none_aside, unmade_aside, seen_aside, failed_aside}
use Rattle.lr_looks.proofs.aside.look_aside.Goals as goal

pub returns-then-not-aside-clause-told : goal.returns-then-not-aside-clause-told
returns-then-not-aside-clause-told g c = none_aside c.args.family.now.naming.aside c.args.family.now.log (sym (ap (λ (n : Naming). n.aside) c.naming.ensures) ∙ c.if-not-aside.true)

pub aside_path-requires : goal.aside_path-requires
aside_path-requires g c = subst (λ (x : Path). length x ≤ 2048) (sym c.log.ensures) c.requires

pub returns-in-Ok-clause-told : goal.returns-in-Ok-clause-told
returns-in-Ok-clause-told g c = seen_aside c.args.family.now.naming.aside c.args.family.now.log c.in-Ok.path c.look_at.result _ _
    (sym (ap (λ (n : Naming). n.aside) c.naming.ensures) ∙ c.if-not-aside.false) (c.in-Ok.ensures ∙ ap aside_path c.log.ensures) c.look_at.ensures.told

pub returns-in-Ok-clause-stopped : goal.returns-in-Ok-clause-stopped
returns-in-Ok-clause-stopped g c = failed_aside c.args.family.now.naming.aside c.args.family.now.log c.in-Ok.path c.look_at.result _ _
    (sym (ap (λ (n : Naming). n.aside) c.naming.ensures) ∙ c.if-not-aside.false) (c.in-Ok.ensures ∙ ap aside_path c.log.ensures) c.look_at.ensures.stopped c.look_at.ensures.why

pub returns-in-Err-clause-stopped : goal.returns-in-Err-clause-stopped
returns-in-Err-clause-stopped g c = unmade_aside c.args.family.now.naming.aside c.args.family.now.log (sym (ap (λ (n : Naming). n.aside) c.naming.ensures) ∙ c.if-not-aside.false)
