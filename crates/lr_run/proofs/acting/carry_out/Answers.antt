use Rattle.std.proofs.Common.{length, ap, arith}
use Rattle.lr_run.proofs.Carrying.{behind_of, acts_and_writes, can_write, some_acts}
use Rattle.lr_run.proofs.acting.carry_out.Goals as goal

pub returns-clause-told : goal.returns-clause-told
returns-clause-told g c =
    acts_and_writes c.args.ready c.args.progress.now c.act.new.progress _ c.synced-dirs.result _ _ _ _ (ap length c.as_slice-before.ensures.value) c.in_ok-act.ensures.told
    (behind_of c.args.ready _ c.as_slice.result.now c.act.new.progress.marks.items c.synced-dirs.result c.as_slice.ensures.value c.synced-dirs.ensures) c.args.now.now c.save.new.progress _ _ c.save.ensures.told

pub save-requires-clause-fits : goal.save-requires-clause-fits
save-requires-clause-fits g c =
    can_write c.args.ready c.args.progress.now c.act.new.progress _ c.synced-dirs.result _ _ _ _ (ap length c.as_slice-before.ensures.value) c.in_ok-act.ensures.told
    (behind_of c.args.ready _ c.as_slice.result.now c.act.new.progress.marks.items c.synced-dirs.result c.as_slice.ensures.value c.synced-dirs.ensures) c.requires.fits_state

pub returns-clause-room : goal.returns-clause-room
returns-clause-room g c = let f = c.in_ok-act.ensures.fills in let a = f.faults in let b = f.faults_room in let d = c.save.ensures.few in let e = c.save.ensures.room in let r = c.requires.two_more in omega (arith, a, b, d, e, r)

pub returns-in_err-act-clause-some : goal.returns-in_err-act-clause-some
returns-in_err-act-clause-some g c = some_acts c.from_residual.result c.args.ready.steps c.in_err-act.ensures.told
