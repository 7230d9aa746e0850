-- What stands behind the word of each directive.
use Rattle.std.specs.Prelude.{true, false, None}
use Rattle.lr_tables.specs.declared.directive.Directive.{Directive}
use Rattle.lr_tables.specs.declared.directive.Directive.TheVariants as is
use Rattle.lr_rules.specs.declared.rule.Back.TheVariants as back
use Rattle.lr_rules.specs.declared.rule.Criterion.TheVariants as criterion
use Rattle.lr_rules.specs.declared.rule.Make.TheVariants as make
use Rattle.lr_rules.specs.declared.rule.Way.TheVariants as way
use Rattle.lr_forms.specs.declared.form.Form.{Form}
use Rattle.lr_forms.specs.declared.form.Form.TheVariants.{Passed, Script, Ending, Plain, One, Day, Make, Include, Taboo}
use Rattle.lr_forms.specs.declared.form.Value.TheVariants as value
use Rattle.lr_forms.specs.declared.set.Set.TheVariants as set

abbrev pub form_of : Directive → Form
-- passed over
form_of is.Allowhardlink = Passed
form_of is.Compress = Passed
form_of is.Compresscmd = Passed
form_of is.Compressext = Passed
form_of is.Compressoptions = Passed
form_of is.Delaycompress = Passed
form_of is.Noallowhardlink = Passed
form_of is.Nocompress = Passed
form_of is.Nodelaycompress = Passed
form_of is.Noshred = Passed
form_of is.Shred = Passed
form_of is.Shredcycles = Passed
form_of is.Su = Passed
form_of is.Uncompresscmd = Passed
-- scripts
form_of is.Firstaction = Script
form_of is.Lastaction = Script
form_of is.Postrotate = Script
form_of is.Preremove = Script
form_of is.Prerotate = Script
form_of is.Endscript = Ending
-- outside definitions alone
form_of is.Include = Include
form_of is.Tabooext = Taboo false
form_of is.Taboopat = Taboo true
-- one value
form_of is.Addextension = One value.AddExtension
form_of is.Dateformat = One value.DateFormat
form_of is.Extension = One value.Extension
form_of is.Mail = One value.Mail
form_of is.Maxage = One value.MaxAge
form_of is.Maxsize = One value.MaxSize
form_of is.Minage = One value.MinAge
form_of is.Minsize = One value.MinSize
form_of is.Olddir = One value.Olddir
form_of is.Rotate = One value.Count
form_of is.Size = One value.Size
form_of is.Start = One value.Start
-- a day, or none
form_of is.Weekly = Day
-- a mode, an owner, a group
form_of is.Create = Make false
form_of is.Createolddir = Make true
-- no value
form_of is.Hourly = Plain (set.Criterion criterion.Hourly)
form_of is.Daily = Plain (set.Criterion criterion.Daily)
form_of is.Monthly = Plain (set.Criterion criterion.Monthly)
form_of is.Yearly = Plain (set.Criterion criterion.Yearly)
form_of is.Ifempty = Plain (set.IfEmpty true)
form_of is.Notifempty = Plain (set.IfEmpty false)
form_of is.Missingok = Plain (set.MissingOk true)
form_of is.Nomissingok = Plain (set.MissingOk false)
form_of is.Ignoreduplicates = Plain set.IgnoreDuplicates
form_of is.Noolddir = Plain (set.Olddir None)
form_of is.Nocreateolddir = Plain (set.CreateOlddir make.No)
form_of is.Copy = Plain (set.Way way.Copy)
form_of is.Copytruncate = Plain (set.Way way.CopyTruncate)
form_of is.Nocopy = Plain (set.NotWay way.Copy)
form_of is.Nocopytruncate = Plain (set.NotWay way.CopyTruncate)
form_of is.Renamecopy = Plain (set.Way way.RenameCopy)
form_of is.Norenamecopy = Plain (set.NotWay way.RenameCopy)
form_of is.Nocreate = Plain (set.Create make.No)
form_of is.Nomail = Plain (set.Mail None)
form_of is.Mailfirst = Plain (set.MailFirst true)
form_of is.Maillast = Plain (set.MailFirst false)
form_of is.Sharedscripts = Plain (set.Shared true)
form_of is.Nosharedscripts = Plain (set.Shared false)
form_of is.Dateext = Plain (set.Dated true)
form_of is.Nodateext = Plain (set.Dated false)
form_of is.Dateyesterday = Plain (set.Back back.Yesterday)
form_of is.Datehourago = Plain (set.Back back.HourAgo)
form_of is.Dateserial = Plain (set.Serial true)
form_of is.Nodateserial = Plain (set.Serial false)
