use Rattle.lr_include.proofs.Visited.{in_dir, in_file, dir_lacking, file_lacking, sees_nothing, sees_exposed, unseen}
use Rattle.lr_include.proofs.visit.visit_path.Goals as goal

pub returns-in-Ok-File-clause-told : goal.returns-in-Ok-File-clause-told
returns-in-Ok-File-clause-told g c = in_file c.args.path.now c.args.lists c.args.room c.in_file.result _ (rw c.in-Ok-File.field-0-is at c.in-Ok-File.ensures.told) c.in_file.ensures.told

pub returns-in-Ok-File-clause-lacking : goal.returns-in-Ok-File-clause-lacking
returns-in-Ok-File-clause-lacking g c = file_lacking c.args.path.now c.args.room c.in_file.result _ (rw c.in-Ok-File.field-0-is at c.in-Ok-File.ensures.told) c.in_file.ensures.lacking

pub returns-in-Ok-Dir-clause-told : goal.returns-in-Ok-Dir-clause-told
returns-in-Ok-Dir-clause-told g c = in_dir c.args.path.now c.args.lists c.args.room c.in_dir.result _ (rw c.in-Ok-Dir.field-0-is at c.in-Ok-Dir.ensures.told) c.in_dir.ensures.told

pub returns-in-Ok-Dir-clause-lacking : goal.returns-in-Ok-Dir-clause-lacking
returns-in-Ok-Dir-clause-lacking g c = dir_lacking c.args.path.now c.args.room c.in_dir.result _ (rw c.in-Ok-Dir.field-0-is at c.in-Ok-Dir.ensures.told) c.in_dir.ensures.lacking

pub returns-in-Ok-Nothing-clause-told : goal.returns-in-Ok-Nothing-clause-told
returns-in-Ok-Nothing-clause-told g c = sees_nothing c.args.path.now c.args.lists c.args.room (rw c.in-Ok-Nothing.field-0-is at c.in-Ok-Nothing.ensures.told)

pub returns-in-Ok-Exposed-clause-told : goal.returns-in-Ok-Exposed-clause-told
returns-in-Ok-Exposed-clause-told g c = sees_exposed c.args.path.now c.args.lists c.args.room (rw c.in-Ok-Exposed.field-0-is at c.in-Ok-Exposed.ensures.told)

pub returns-in-Err-clause-told : goal.returns-in-Err-clause-told
returns-in-Err-clause-told g c = unseen c.args.path.now c.args.lists c.args.room c.in-Err.ensures.stopped
