use Rattle.lr_host.specs.declared.entry.Entry.TheVariants.{Renames}
use Rattle.std.proofs.Common.{[], ◌∷◌, arith}
use Rattle.lr_host.specs.Told.{Rose}
use Rattle.lr_chain.specs.Ready.{shift_of}
use Rattle.lr_chain.proofs.Chaining.{last_refused, left_more, last_can, last_left, last_from, cause_more}
use Rattle.lr_chain.proofs.chain.turn.Goals as goal

pub returns-in-Err-clause-refused : goal.returns-in-Err-clause-refused
returns-in-Err-clause-refused g c = left_more c.args.ready.now.dir (shift_of c.args.ready.now) (Renames c.args.ready.now.log c.args.ready.now.target ∷ []) c.in-Err.stop c.in-Err.ensures.refused

pub rename-requires : goal.rename-requires
rename-requires g c = last_can c.args.ready.now.dir (shift_of c.args.ready.now) (Renames c.args.ready.now.log c.args.ready.now.target) c.requires.fits c.in_default.ensures.told

pub returns-in-Ok-clause-told : goal.returns-in-Ok-clause-told
returns-in-Ok-clause-told g c = last_left c.args.ready.now.dir (shift_of c.args.ready.now) (Renames c.args.ready.now.log c.args.ready.now.target) c.in_default.ensures.told c.in-Ok.ensures.told

pub returns-in-Err-rename-clause-refused : goal.returns-in-Err-rename-clause-refused
returns-in-Err-rename-clause-refused g c = last_refused c.args.ready.now.dir c.args.ready.now.moves c.args.ready.now.log c.args.ready.now.target c.in_default.ensures.told c.in-Err-rename.ensures.told

pub returns-in-Err-clause-cause : goal.returns-in-Err-clause-cause
returns-in-Err-clause-cause g c =
    cause_more c.args.ready.now.dir (shift_of c.args.ready.now) (Renames c.args.ready.now.log c.args.ready.now.target ∷ []) c.in-Err.stop (g.H.Host.counts c.args.host.now) (g.H.Host.counts c.shift.new.host) c.in-Err.ensures.cause

pub returns-in-Err-rename-clause-cause : goal.returns-in-Err-rename-clause-cause
returns-in-Err-rename-clause-cause g c =
    let rose : Rose (g.H.Host.counts c.args.host.now).faults (g.H.Host.counts c.rename.new.self).faults = omega (arith, c.in_default.ensures.counts, c.in-Err-rename.ensures.cause) in
    (last_from c.args.ready.now.moves c.args.ready.now.log c.args.ready.now.target, rose)
