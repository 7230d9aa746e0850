use Rattle.std.proofs.Common.{sym, ap, ◌∙◌, subst}
use Rattle.lr_rules.specs.Match.{is_wildcard, literal_path}
use Rattle.lr_glob.specs.Gathers.{Gathers}
use Rattle.lr_glob.specs.Parts.{JoinOf}
use Rattle.lr_glob.proofs.Rounds.{asked_told, asked_stopped, went_told, went_stopped}
use Rattle.lr_glob.proofs.round.follow.Goals as goal

pub returns-then-is_wildcard-clause-told : goal.returns-then-is_wildcard-clause-told
returns-then-is_wildcard-clause-told g c = asked_told (λ l. l.items) c.args.part.now c.args.dirs.items c.visit_each.result _ _ (ap is_wildcard (sym c.bytes.ensures.bytes) ∙ (sym c.is_wildcard.ensures ∙ c.if-is_wildcard.true)) c.visit_each.ensures.told

pub returns-then-is_wildcard-clause-stopped : goal.returns-then-is_wildcard-clause-stopped
returns-then-is_wildcard-clause-stopped g c = asked_stopped c.args.part.now c.args.dirs.items c.visit_each.result _ _ (ap is_wildcard (sym c.bytes.ensures.bytes) ∙ (sym c.is_wildcard.ensures ∙ c.if-is_wildcard.true)) c.visit_each.ensures.stopped

pub returns-in-Ok-clause-told : goal.returns-in-Ok-clause-told
returns-in-Ok-clause-told g c = went_told c.args.part.now c.args.dirs.items c.in-Ok.paths.items _ (ap is_wildcard (sym c.bytes.ensures.bytes) ∙ (sym c.is_wildcard.ensures ∙ c.if-is_wildcard.false))
    (subst (λ ds. Gathers (λ dir its. JoinOf dir (literal_path c.args.part.now) its) ds c.in-Ok.paths.items) c.as_slice.ensures.value c.in-Ok.ensures)

pub returns-clause-stopped : goal.returns-clause-stopped
returns-clause-stopped g c = went_stopped c.args.part.now c.args.dirs.items _
