use Rattle.lr_conf.proofs.Settings.{fields-push}
use Rattle.lr_conf.proofs.field_laws.one_more_setting.Goals as goal

pub returns : goal.returns
returns c earlier s = fields-push earlier s
