use Rattle.std.proofs.Common.{◌≡◌, rules}
use Rattle.lr_audit.proofs.Summing.{audits_told, saw_lost}
use Rattle.lr_audit.proofs.Filing.{lost, went_by}
use Rattle.lr_audit.proofs.auditing.audit_of.Goals as goal

pub returns-clause-told : goal.returns-clause-told
returns-clause-told g c =
    let same : c.deref.result.now ≡ c.in_ok-files.files.items = search rules in
    audits_told c.audit_by.result c.args.rules.now.sets c.args.looks.now c.args.clock.now c.args.settings.now.mailer c.in_ok-files.files.items c.deref.result.now c.args.faults.now.items c.files_of.new.faults.items _ _ same c.in_ok-files.ensures.told c.audit_by.ensures

pub returns-clause-some : goal.returns-clause-some
returns-clause-some g c = saw_lost c.audit_by.result c.args.looks.now c.in_ok-files.files.items c.args.faults.now.items c.files_of.new.faults.items _ _ c.in_ok-files.ensures.told

pub returns-clause-went : goal.returns-clause-went
returns-clause-went g c = went_by c.audit_by.result c.args.faults.now.items c.files_of.new.faults.items _ _ c.in_ok-files.ensures.went

pub returns-in_err-files-clause-some : goal.returns-in_err-files-clause-some
returns-in_err-files-clause-some g c = lost c.from_residual.result c.in_err-files.ensures.some
