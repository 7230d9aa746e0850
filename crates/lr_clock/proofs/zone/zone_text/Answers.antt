use Rattle.lr_clock.proofs.Zoned.{utc_shown, rule_shown, rule_stopped, file_stopped}
use Rattle.lr_clock.proofs.zone.zone_text.Goals as goal

pub returns-in-Utc-clause-told : goal.returns-in-Utc-clause-told
returns-in-Utc-clause-told g c = utc_shown c.args.zone.now _ c.in-Utc.is

pub returns-in-Rule-clause-told : goal.returns-in-Rule-clause-told
returns-in-Rule-clause-told g c = rule_shown c.args.zone.now c.in-Rule.rule c.text_of_rule.result _ c.in-Rule.is c.text_of_rule.ensures.text

pub returns-in-Rule-clause-stopped : goal.returns-in-Rule-clause-stopped
returns-in-Rule-clause-stopped g c = rule_stopped c.args.zone.now c.text_of_rule.result _ c.text_of_rule.ensures.memory

pub returns-in-File-clause-stopped : goal.returns-in-File-clause-stopped
returns-in-File-clause-stopped g c = file_stopped c.args.zone.now c.in-File.path c.told_text.result _ _ c.in-File.is c.told_text.ensures.stopped
