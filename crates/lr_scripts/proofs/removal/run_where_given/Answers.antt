use Rattle.std.proofs.Common.{sym, ap, subst, IfErr, option_copied}
use Rattle.lr_host.specs.Told.{Left, Are}
use Rattle.lr_host.proofs.Left.{left_first}
use Rattle.lr_scripts.specs.Programs.{runs_of, MaybeRefused}
use Rattle.lr_scripts.proofs.removal.run_where_given.Goals as goal

pub returns-in-Some-clause-refused : goal.returns-in-Some-clause-refused
returns-in-Some-clause-refused g c =
    subst (λ o. IfErr c.run_phase.result (λ why. Left (MaybeRefused (option_copied o) why) (g.H.Host.told c.args.host.now) (g.H.Host.told c.run_phase.new.host))) (sym c.in-Some.is) c.run_phase.ensures.refused

pub returns-in-None-clause-told : goal.returns-in-None-clause-told
returns-in-None-clause-told g c = left_first (Are (runs_of (option_copied c.args.command))) _ (sym (ap (λ o. runs_of (option_copied o)) c.in-None.is))
