use Rattle.lr_host.proofs.Places.{synced_names}
use Rattle.lr_laws.proofs.ClosedLaws.{closed_exactly, prefix_cut, sync_closed, sync_rising, sync_all, sync_smallest}
use Rattle.lr_laws.proofs.SparedLaw.{spared}
use Rattle.lr_laws.proofs.pending.disk_holds_closed_sets.Goals as goal

pub returns-clause-earlier : goal.returns-clause-earlier
returns-clause-earlier c = closed_exactly

pub returns-clause-prefixes : goal.returns-clause-prefixes
returns-clause-prefixes c = prefix_cut

pub returns-clause-one_name : goal.returns-clause-one_name
returns-clause-one_name c = spared

pub returns-clause-sync_closed : goal.returns-clause-sync_closed
returns-clause-sync_closed c = sync_closed

pub returns-clause-sync_rising : goal.returns-clause-sync_rising
returns-clause-sync_rising c = sync_rising

pub returns-clause-sync_all : goal.returns-clause-sync_all
returns-clause-sync_all c = sync_all

pub returns-clause-sync_smallest : goal.returns-clause-sync_smallest
returns-clause-sync_smallest c = sync_smallest

pub returns-clause-sync_keeps_names : goal.returns-clause-sync_keeps_names
returns-clause-sync_keeps_names c = synced_names
