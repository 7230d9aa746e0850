use Rattle.std.proofs.lemmas.List.Elements.{All-from_recursion}
use Rattle.lr_include.specs.Allowed.{IsAllowed}
use Rattle.lr_include.specs.Stages.{visits_mean}
use Rattle.lr_include.proofs.Allowed.{means_allowed}
use Rattle.lr_include.proofs.laws.visits_tell_their_calls.Goals as goal

pub returns : goal.returns
returns c calls paths visits ok = All-from_recursion (IsAllowed calls) (visits_mean paths visits).faults (means_allowed calls paths visits ok)
