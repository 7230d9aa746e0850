use Rattle.std.proofs.Common.{sym, subst, refl, Ok, Some}
use Rattle.lr_host.specs.Told.{Left}
use Rattle.lr_host.proofs.Left.{left_first}
use Rattle.lr_plan.specs.declared.mark.Mark.TheVariants as mark
use Rattle.lr_plan.specs.declared.step.Step.{Step}
use Rattle.lr_acts.specs.Making.{StepLeft, StepNames}
use Rattle.lr_acts.proofs.step.make.Goals as goal

pub returns-in-Runs-clause-told : goal.returns-in-Runs-clause-told
returns-in-Runs-clause-told g c = subst (λ (s : Step). Left (StepLeft s c.run_program.result) (g.H.Host.told c.args.host.now) (g.H.Host.told c.run_program.new.host)) (sym c.in-Runs.is) c.run_program.ensures.told

pub returns-in-Removes-clause-told : goal.returns-in-Removes-clause-told
returns-in-Removes-clause-told g c = subst (λ (s : Step). Left (StepLeft s c.remove_file.result) (g.H.Host.told c.args.host.now) (g.H.Host.told c.remove_file.new.host)) (sym c.in-Removes.is) c.remove_file.ensures.told

pub returns-in-MakesDir-clause-told : goal.returns-in-MakesDir-clause-told
returns-in-MakesDir-clause-told g c = subst (λ (s : Step). Left (StepLeft s c.make_directory.result) (g.H.Host.told c.args.host.now) (g.H.Host.told c.make_directory.new.host)) (sym c.in-MakesDir.is) c.make_directory.ensures.told

pub returns-in-Renames-clause-told : goal.returns-in-Renames-clause-told
returns-in-Renames-clause-told g c = subst (λ (s : Step). Left (StepLeft s c.rename_file.result) (g.H.Host.told c.args.host.now) (g.H.Host.told c.rename_file.new.host)) (sym c.in-Renames.is) c.rename_file.ensures.told

pub returns-in-Creates-clause-told : goal.returns-in-Creates-clause-told
returns-in-Creates-clause-told g c = subst (λ (s : Step). Left (StepLeft s c.create_file.result) (g.H.Host.told c.args.host.now) (g.H.Host.told c.create_file.new.host)) (sym c.in-Creates.is) c.create_file.ensures.told

pub returns-in-Takes-clause-told : goal.returns-in-Takes-clause-told
returns-in-Takes-clause-told g c = subst (λ (s : Step). Left (StepLeft s c.take_file.result) (g.H.Host.told c.args.host.now) (g.H.Host.told c.take_file.new.host)) (sym c.in-Takes.is) c.take_file.ensures.told

pub returns-in-SyncsFile-clause-told : goal.returns-in-SyncsFile-clause-told
returns-in-SyncsFile-clause-told g c = subst (λ (s : Step). Left (StepLeft s c.sync_file.result) (g.H.Host.told c.args.host.now) (g.H.Host.told c.sync_file.new.host)) (sym c.in-SyncsFile.is) c.sync_file.ensures.told

pub returns-in-SyncsDir-clause-told : goal.returns-in-SyncsDir-clause-told
returns-in-SyncsDir-clause-told g c = subst (λ (s : Step). Left (StepLeft s c.sync_directory.result) (g.H.Host.told c.args.host.now) (g.H.Host.told c.sync_directory.new.host)) (sym c.in-SyncsDir.is) c.sync_directory.ensures.told

pub returns-in-Truncates-clause-told : goal.returns-in-Truncates-clause-told
returns-in-Truncates-clause-told g c = subst (λ (s : Step). Left (StepLeft s c.empty_file.result) (g.H.Host.told c.args.host.now) (g.H.Host.told c.empty_file.new.host)) (sym c.in-Truncates.is) c.empty_file.ensures.told

pub returns-in-Rotated-clause-told : goal.returns-in-Rotated-clause-told
returns-in-Rotated-clause-told g c = subst (λ (s : Step). Left (StepLeft s (Ok (Some (mark.Rotated c.in-Rotated.log)))) (g.H.Host.told c.args.host.now) (g.H.Host.told c.args.host.now)) (sym c.in-Rotated.is) (left_first _ _ refl)

pub returns-in-Appends-clause-told : goal.returns-in-Appends-clause-told
returns-in-Appends-clause-told g c = subst (λ (s : Step). Left (StepLeft s c.append_text.result) (g.H.Host.told c.args.host.now) (g.H.Host.told c.append_text.new.host)) (sym c.in-Appends.is) c.append_text.ensures.told

pub returns-in-Copies-clause-told : goal.returns-in-Copies-clause-told
returns-in-Copies-clause-told g c = subst (λ (s : Step). Left (StepLeft s c.copy_file.result) (g.H.Host.told c.args.host.now) (g.H.Host.told c.copy_file.new.host)) (sym c.in-Copies.is) c.copy_file.ensures.told

pub returns-in-Runs-clause-named : goal.returns-in-Runs-clause-named
returns-in-Runs-clause-named g c = subst (λ (s : Step). StepNames s c.run_program.result (g.H.Host.told c.run_program.new.host)) (sym c.in-Runs.is) tt

pub returns-in-Removes-clause-named : goal.returns-in-Removes-clause-named
returns-in-Removes-clause-named g c = subst (λ (s : Step). StepNames s c.remove_file.result (g.H.Host.told c.remove_file.new.host)) (sym c.in-Removes.is) tt

pub returns-in-MakesDir-clause-named : goal.returns-in-MakesDir-clause-named
returns-in-MakesDir-clause-named g c = subst (λ (s : Step). StepNames s c.make_directory.result (g.H.Host.told c.make_directory.new.host)) (sym c.in-MakesDir.is) tt

pub returns-in-Renames-clause-named : goal.returns-in-Renames-clause-named
returns-in-Renames-clause-named g c = subst (λ (s : Step). StepNames s c.rename_file.result (g.H.Host.told c.rename_file.new.host)) (sym c.in-Renames.is) tt

pub returns-in-Takes-clause-named : goal.returns-in-Takes-clause-named
returns-in-Takes-clause-named g c = subst (λ (s : Step). StepNames s c.take_file.result (g.H.Host.told c.take_file.new.host)) (sym c.in-Takes.is) tt

pub returns-in-SyncsFile-clause-named : goal.returns-in-SyncsFile-clause-named
returns-in-SyncsFile-clause-named g c = subst (λ (s : Step). StepNames s c.sync_file.result (g.H.Host.told c.sync_file.new.host)) (sym c.in-SyncsFile.is) tt

pub returns-in-SyncsDir-clause-named : goal.returns-in-SyncsDir-clause-named
returns-in-SyncsDir-clause-named g c = subst (λ (s : Step). StepNames s c.sync_directory.result (g.H.Host.told c.sync_directory.new.host)) (sym c.in-SyncsDir.is) tt

pub returns-in-Truncates-clause-named : goal.returns-in-Truncates-clause-named
returns-in-Truncates-clause-named g c = subst (λ (s : Step). StepNames s c.empty_file.result (g.H.Host.told c.empty_file.new.host)) (sym c.in-Truncates.is) tt

pub returns-in-Appends-clause-named : goal.returns-in-Appends-clause-named
returns-in-Appends-clause-named g c = subst (λ (s : Step). StepNames s c.append_text.result (g.H.Host.told c.append_text.new.host)) (sym c.in-Appends.is) tt

pub returns-in-Creates-clause-named : goal.returns-in-Creates-clause-named
returns-in-Creates-clause-named g c = subst (λ (s : Step). StepNames s c.create_file.result (g.H.Host.told c.create_file.new.host)) (sym c.in-Creates.is) c.create_file.ensures.named

pub returns-in-Rotated-clause-named : goal.returns-in-Rotated-clause-named
returns-in-Rotated-clause-named g c = subst (λ (s : Step). StepNames s (Ok (Some (mark.Rotated c.in-Rotated.log))) (g.H.Host.told c.args.host.now)) (sym c.in-Rotated.is) tt

pub returns-in-Copies-clause-named : goal.returns-in-Copies-clause-named
returns-in-Copies-clause-named g c = subst (λ (s : Step). StepNames s c.copy_file.result (g.H.Host.told c.copy_file.new.host)) (sym c.in-Copies.is) tt
