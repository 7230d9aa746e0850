use Rattle.lr_laws.proofs.Stated.{elsewhere_follows, unlinks_dated, turns_dated, room_first}
use Rattle.lr_laws.proofs.needs.entries_may_follow.Goals as goal

pub returns-clause-elsewhere : goal.returns-clause-elsewhere
returns-clause-elsewhere c = elsewhere_follows

pub returns-clause-dated_member_goes : goal.returns-clause-dated_member_goes
returns-clause-dated_member_goes c = unlinks_dated

pub returns-clause-dated_log_turns : goal.returns-clause-dated_log_turns
returns-clause-dated_log_turns c = turns_dated

pub returns-clause-room_for_one : goal.returns-clause-room_for_one
returns-clause-room_for_one c = room_first
