use Rattle.std.proofs.Common.{Option, sym, subst}
use Rattle.std.specs.Prelude.{ℕ, OnOk, IfErr}
use Rattle.std.proofs.lemmas.Result.{on_ok_weaker, IfErr-weaker}
use Rattle.lr_rules.specs.declared.path.Path.{Path}
use Rattle.lr_host.specs.Told.{Left, Are}
use Rattle.lr_chain.specs.Ready.{shift_of, BehindDir}
use Rattle.lr_chain.specs.Stops.{ChainStopped}
use Rattle.lr_chain.proofs.Dirs.{dir_can, moves_can, and_behind, dir_refused, moves_stopped}
use Rattle.lr_chain.proofs.chain.shift.Goals as goal

pub make_own_directory-requires : goal.make_own_directory-requires
make_own_directory-requires g c = dir_can c.args.ready.now.dir c.in-Some.dir c.in-Some.mode (shift_of c.args.ready.now) c.in-Some.is c.requires.fits

pub move_members-requires : goal.move_members-requires
move_members-requires g c = moves_can c.args.ready.now.dir c.in-Some.dir c.in-Some.mode (shift_of c.args.ready.now) c.in-Some.is c.requires.fits c.in-Ok.ensures.told

pub returns-in-Ok-clause-told : goal.returns-in-Ok-clause-told
returns-in-Ok-clause-told g c = on_ok_weaker c.move_members.result (λ l. and_behind c.args.ready.now.dir c.in-Some.dir c.in-Some.mode {P = Are (shift_of c.args.ready.now)} c.in-Some.is c.in-Ok.ensures.told l) c.move_members.ensures.told

pub returns-in-Ok-clause-refused : goal.returns-in-Ok-clause-refused
returns-in-Ok-clause-refused g c = IfErr-weaker c.move_members.result _ _ (λ why l. moves_stopped c.args.ready.now.dir c.in-Some.dir c.in-Some.mode (shift_of c.args.ready.now) why c.in-Some.is c.in-Ok.ensures.told l) c.move_members.ensures.refused

pub returns-in-Err-clause-refused : goal.returns-in-Err-clause-refused
returns-in-Err-clause-refused g c = dir_refused c.args.ready.now.dir c.in-Some.dir c.in-Some.mode (shift_of c.args.ready.now) c.in-Err.stop c.in-Some.is c.in-Err.ensures.refused

pub returns-in-None-clause-told : goal.returns-in-None-clause-told
returns-in-None-clause-told g c =
    subst (λ (d : Option (Path × Option ℕ)). OnOk c.move_members-in-None.result (Left (BehindDir d (Are (shift_of c.args.ready.now))) (g.H.Host.told c.args.host.now) (g.H.Host.told c.move_members-in-None.new.host))) (sym c.in-None.is) c.move_members-in-None.ensures.told

pub returns-in-None-clause-refused : goal.returns-in-None-clause-refused
returns-in-None-clause-refused g c =
    subst (λ (d : Option (Path × Option ℕ)). IfErr c.move_members-in-None.result (λ stop. Left (ChainStopped d (shift_of c.args.ready.now) stop) (g.H.Host.told c.args.host.now) (g.H.Host.told c.move_members-in-None.new.host))) (sym c.in-None.is) c.move_members-in-None.ensures.refused
