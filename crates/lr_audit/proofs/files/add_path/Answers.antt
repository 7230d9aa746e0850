use Rattle.std.proofs.Common.{◌∙◌, ap, subst}
use Rattle.lr_rules.specs.Path.{joined, path_fault, IsRefusal}
use Rattle.lr_audit.proofs.Filing.{path_added, path_refused}
use Rattle.lr_audit.proofs.files.add_path.Goals as goal

pub returns-in_ok-push-in-Ok : goal.returns-in_ok-push-in-Ok
returns-in_ok-push-in-Ok c = path_added c.args.dir.now c.args.name.now c.in-Ok.path c.args.paths.now.items c.push.new.self.items (c.in-Ok.ensures.0 ∙ ap (joined c.args.dir.now) c.bytes.ensures.bytes) c.in-Ok.ensures.1 c.in_ok-push-in-Ok.ensures.items

pub returns-in-Err : goal.returns-in-Err
returns-in-Err c = path_refused c.passed_over.result c.args.dir.now c.args.name.now c.in-Err.fault c.args.paths.now.items c.passed_over.ensures (subst (λ b. IsRefusal (path_fault (joined c.args.dir.now b)) c.in-Err.fault) c.bytes.ensures.bytes c.in-Err.ensures)
