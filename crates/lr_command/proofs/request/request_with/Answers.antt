use Rattle.std.proofs.Common.{◌≡◌, true, sym, subst}
use Rattle.clap.specs.Words.{found_of, rows_of}
use Rattle.lr_rules.specs.declared.settings.Settings.{Settings}
use Rattle.lr_rules.specs.StatePath.{can_be_state}
use Rattle.lr_command.specs.Words.{request_in, state_in}
use Rattle.lr_command.proofs.Asked.{request_is}
use Rattle.lr_command.proofs.request.request_with.Goals as goal

pub returns-clause-request : goal.returns-clause-request
returns-clause-request c =
    subst (λ (s : Settings). (h : can_be_state (state_in c.args.here.now (rows_of (found_of c.args.found.now))) ≡ true) × (record { settings = s; confs = c.in_ok-confs.confs } ≡ request_in c.args.here.now (rows_of (found_of c.args.found.now)) h)) (sym c.settings_of.ensures.1)
    (request_is c.args.here.now (rows_of (found_of c.args.found.now)) c.args.state c.in_ok-mailer.mailer c.in_ok-confs.confs c.settings_of.ensures.0 c.requires.state c.in_ok-mailer.ensures.mailer c.in_ok-confs.ensures.confs)
