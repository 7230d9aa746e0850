use Rattle.std.proofs.Common.{◌≡◌, rules}
use Rattle.lr_audit.proofs.Calling.{rules_told, looks_lost, looks_behind, audits_behind}
use Rattle.lr_host.proofs.Counts.{went_on}
use Rattle.lr_audit.proofs.Filing.{lost, went_to}
use Rattle.lr_audit.proofs.run.audit_rules.Goals as goal

pub returns-in_err-looks-clause-some : goal.returns-in_err-looks-clause-some
returns-in_err-looks-clause-some g c = lost c.from_residual.result (looks_lost c.args.settings.now.state c.args.rules.now.sets _ _ c.in_err-looks.ensures.some)

pub returns-in_err-audit-clause-some : goal.returns-in_err-audit-clause-some
returns-in_err-audit-clause-some g c = lost c.from_residual-in_err-audit.result (looks_behind c.args.settings.now.state c.args.rules.now.sets c.in_ok-looks.looks c.args.faults.now.items c.look_all.new.faults.items _ _ _ c.in_ok-looks.ensures.told c.in_err-audit.ensures.some)

pub returns-clause-told : goal.returns-clause-told
returns-clause-told g c = rules_told c.args.settings.now.state c.args.rules.now c.in_ok-looks.looks c.args.clock.now c.args.settings.now.mailer c.in_ok-audit.audit c.args.faults.now.items c.look_all.new.faults.items c.audit_of.new.faults.items _ _ _ _ c.requires.mailer (search rules) c.in_ok-looks.ensures.told c.in_ok-audit.ensures.told

pub returns-in_err-reserve-clause-some : goal.returns-in_err-reserve-clause-some
returns-in_err-reserve-clause-some g c = lost c.from_residual-in_err-reserve.result (audits_behind c.args.settings.now.state c.args.rules.now.sets c.in_ok-looks.looks c.args.clock.now c.args.settings.now.mailer c.in_ok-audit.audit c.args.faults.now.items c.look_all.new.faults.items c.audit_of.new.faults.items _ _ _ c.in_ok-looks.ensures.told c.in_ok-audit.ensures.told)

pub returns-clause-went : goal.returns-clause-went
returns-clause-went g c =
    let same : c.reserve.new.self.items ≡ c.audit_of.new.faults.items = search rules in
    went_to c.args.faults.now.items c.audit_of.new.faults.items c.reserve.new.self.items _ _ same (went_on c.args.faults.now.items c.look_all.new.faults.items c.audit_of.new.faults.items _ _ _ c.in_ok-looks.ensures.went c.in_ok-audit.ensures.went)
