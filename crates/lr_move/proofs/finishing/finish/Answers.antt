use Rattle.lr_move.proofs.Ending.{can_let_go, finished, stops_copy, stops_last, ends_finished, ends_stopped, waits_by}
use Rattle.lr_move.proofs.LettingGo.{lets_go_by}
use Rattle.lr_move.proofs.finishing.finish.Goals as goal

pub let_go-requires : goal.let_go-requires
let_go-requires g c = can_let_go c.args.job.now c.in-Ok.copied c.requires.paths c.requires.uncut c.requires.fits c.in-Ok.ensures.told

pub returns-in-Ok-let_go-clause-told : goal.returns-in-Ok-let_go-clause-told
returns-in-Ok-let_go-clause-told g c = finished c.args.job.now c.in-Ok.copied c.requires.uncut c.in-Ok.ensures.told c.in-Ok-let_go.ensures.told

pub returns-in-Ok-let_go-clause-lets_go : goal.returns-in-Ok-let_go-clause-lets_go
returns-in-Ok-let_go-clause-lets_go g c =
    lets_go_by c.args.job.now c.requires.paths (ends_finished c.args.job.now c.in-Ok.copied (finished c.args.job.now c.in-Ok.copied c.requires.uncut c.in-Ok.ensures.told c.in-Ok-let_go.ensures.told))

pub returns-in-Err-let_go-clause-refused : goal.returns-in-Err-let_go-clause-refused
returns-in-Err-let_go-clause-refused g c = stops_last c.args.job.now c.in-Ok.copied c.in-Err-let_go.why c.requires.uncut c.in-Err-let_go.ensures.refused c.in-Ok.ensures.told c.in-Err-let_go.ensures.told

pub returns-in-Err-let_go-clause-lets_go : goal.returns-in-Err-let_go-clause-lets_go
returns-in-Err-let_go-clause-lets_go g c =
    lets_go_by c.args.job.now c.requires.paths
    (ends_stopped c.args.job.now c.in-Err-let_go.why c.requires.paths c.requires.uncut (stops_last c.args.job.now c.in-Ok.copied c.in-Err-let_go.why c.requires.uncut c.in-Err-let_go.ensures.refused c.in-Ok.ensures.told c.in-Err-let_go.ensures.told))

pub returns-in-Err-let_go-clause-waits : goal.returns-in-Err-let_go-clause-waits
returns-in-Err-let_go-clause-waits g c =
    waits_by c.args.job.now c.in-Err-let_go.why c.requires.paths c.requires.uncut (stops_last c.args.job.now c.in-Ok.copied c.in-Err-let_go.why c.requires.uncut c.in-Err-let_go.ensures.refused c.in-Ok.ensures.told c.in-Err-let_go.ensures.told)

pub returns-in-Err-clause-refused : goal.returns-in-Err-clause-refused
returns-in-Err-clause-refused g c = stops_copy c.args.job.now c.in-Err.why c.in-Err.ensures.refused

pub returns-in-Err-clause-lets_go : goal.returns-in-Err-clause-lets_go
returns-in-Err-clause-lets_go g c =
    lets_go_by c.args.job.now c.requires.paths (ends_stopped c.args.job.now c.in-Err.why c.requires.paths c.requires.uncut (stops_copy c.args.job.now c.in-Err.why c.in-Err.ensures.refused))

pub returns-in-Err-clause-waits : goal.returns-in-Err-clause-waits
returns-in-Err-clause-waits g c = waits_by c.args.job.now c.in-Err.why c.requires.paths c.requires.uncut (stops_copy c.args.job.now c.in-Err.why c.in-Err.ensures.refused)
