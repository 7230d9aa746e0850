use Rattle.lr_conf.proofs.Spoken.{bad, quiet, script}
use Rattle.lr_conf.proofs.draft.Draft.outside.Goals as goal

pub returns-in-Bad : goal.returns-in-Bad
returns-in-Bad c = rw c.in-Bad.is (bad _ _ _ _ _ _ _ c.leave.ensures.answer c.leave.ensures.settled)

pub returns-in-Quiet : goal.returns-in-Quiet
returns-in-Quiet c = rw c.in-Quiet.is (quiet _ _ _ _ _ _ c.leave-in-Quiet.ensures.answer c.leave-in-Quiet.ensures.settled)

pub returns-in-Script : goal.returns-in-Script
returns-in-Script c = rw c.in-Script.is (script _ _ _ _ _ _ _ _ _ c.leave-in-Script.ensures.answer c.leave-in-Script.ensures.settled)
