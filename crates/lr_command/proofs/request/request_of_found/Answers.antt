use Rattle.clap.specs.Words.{found_of, rows_of}
use Rattle.lr_command.proofs.Asked.{asks_so}
use Rattle.lr_command.proofs.request.request_of_found.Goals as goal

pub returns-clause-request : goal.returns-clause-request
returns-clause-request c = asks_so c.request_with.result c.args.here.now (rows_of (found_of c.args.found.now)) c.in_ok-state.ensures.has_state c.request_with.ensures.request c.request_with.ensures.has_mailer c.request_with.ensures.has_confs
