-- What one more setting makes of the fields.
use Rattle.std.specs.Prelude.{ℕ, true, List, [], Some}
use Rattle.lr_rules.specs.declared.fault.Phase.{Phase}
use Rattle.lr_rules.specs.declared.fault.Phase.TheVariants as phase
use Rattle.lr_rules.specs.declared.rule.Scripts.{Scripts}
use Rattle.lr_rules.specs.declared.rule.Way.{Way}
use Rattle.lr_rules.specs.declared.rule.Way.TheVariants as way
use Rattle.lr_forms.specs.declared.set.Set.{Set}
use Rattle.lr_forms.specs.declared.set.Set.TheVariants as set
use Rattle.lr_conf.specs.declared.fields.Fields.{Fields}
use Rattle.lr_conf.specs.Fields.{fields_of}

-- those that no line set
abbrev pub default_fields : Fields
default_fields = fields_of []

-- the way, set back to renames where it is this one
abbrev pub without : Way → Way → Way
without way.Copy way.Copy = way.Rename
without way.CopyTruncate way.CopyTruncate = way.Rename
without way.RenameCopy way.RenameCopy = way.Rename
without n w = w

abbrev pub with_script : Phase → List ℕ → Scripts → Scripts
with_script phase.First text s = record s { first = Some text }
with_script phase.Pre text s = record s { pre = Some text }
with_script phase.Post text s = record s { post = Some text }
with_script phase.Last text s = record s { last = Some text }
with_script phase.Preremove text s = record s { preremove = Some text }
with_script phase.Mail text s = s

abbrev pub with_set : Fields → Set → Fields
with_set f (set.Criterion c) = record f { rule = record (f.rule) { criterion = c } }
with_set f (set.Count n) = record f { rule = record (f.rule) { count = n } }
with_set f (set.MaxAge n) = record f { rule = record (f.rule) { maxage = Some n } }
with_set f (set.MinAge n) = record f { rule = record (f.rule) { minage = Some n } }
with_set f (set.MinSize n) = record f { rule = record (f.rule) { minsize = Some n } }
with_set f (set.MaxSize n) = record f { rule = record (f.rule) { maxsize = Some n } }
with_set f (set.IfEmpty b) = record f { rule = record (f.rule) { ifempty = b } }
with_set f (set.MissingOk b) = record f { rule = record (f.rule) { missingok = b } }
with_set f set.IgnoreDuplicates = record f { rule = record (f.rule) { ignore_duplicates = true } }
with_set f (set.Start n) = record f { rule = record (f.rule) { start = n } }
with_set f (set.Extension ending) = record f { rule = record (f.rule) { extension = Some ending } }
with_set f (set.AddExtension ending) = record f { rule = record (f.rule) { addextension = Some ending } }
with_set f (set.Olddir dir) = record f { rule = record (f.rule) { olddir = dir } }
with_set f (set.CreateOlddir m) = record f { rule = record (f.rule) { createolddir = m } }
with_set f (set.Way w) = record f { rule = record (f.rule) { way = w } }
with_set f (set.NotWay n) = record f { rule = record (f.rule) { way = without n f.rule.way } }
with_set f (set.Create m) = record f { rule = record (f.rule) { create = m } }
with_set f (set.Mail address) = record f { rule = record (f.rule) { mail = address } }
with_set f (set.MailFirst b) = record f { rule = record (f.rule) { mailfirst = b } }
with_set f (set.Shared b) = record f { rule = record (f.rule) { shared = b } }
with_set f (set.Script phase text) = record f { rule = record (f.rule) { scripts = with_script phase text f.rule.scripts } }
with_set f (set.Dated b) = record f { dated = b }
with_set f (set.DateFormat pieces) = record f { pieces = Some pieces }
with_set f (set.Back b) = record f { back = b }
with_set f (set.Serial b) = record f { serial = b }
