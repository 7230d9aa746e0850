-- The words for kinds of faults.
use Rattle.std.specs.Prelude.{ℕ, List, codes}
use Rattle.lr_rules.specs.declared.fault.ConfKind.{ConfKind}
use Rattle.lr_rules.specs.declared.fault.ConfKind.TheVariants as conf_kind
use Rattle.lr_rules.specs.declared.fault.StateKind.{StateKind}
use Rattle.lr_rules.specs.declared.fault.StateKind.TheVariants as state_kind
use Rattle.lr_rules.specs.declared.fault.ZoneWhy.{ZoneWhy}
use Rattle.lr_rules.specs.declared.fault.ZoneWhy.TheVariants as why
use Rattle.lr_rules.specs.declared.fault.CallKind.{CallKind}
use Rattle.lr_rules.specs.declared.fault.CallKind.TheVariants as call
use Rattle.lr_rules.specs.declared.fault.Phase.{Phase}
use Rattle.lr_rules.specs.declared.fault.Phase.TheVariants as phase

-- the name of the kind
abbrev pub conf_kind_text : ConfKind → List ℕ
conf_kind_text conf_kind.LineTooLong = codes "LineTooLong"
conf_kind_text conf_kind.NotUtf8 = codes "NotUtf8"
conf_kind_text conf_kind.OpenQuote = codes "OpenQuote"
conf_kind_text conf_kind.NoEndscript = codes "NoEndscript"
conf_kind_text conf_kind.NestedBrace = codes "NestedBrace"
conf_kind_text conf_kind.Unknown = codes "Unknown"
conf_kind_text conf_kind.OutsideSet = codes "OutsideSet"
conf_kind_text conf_kind.InsideSet = codes "InsideSet"
conf_kind_text conf_kind.ScriptTwice = codes "ScriptTwice"
conf_kind_text conf_kind.MissingValue = codes "MissingValue"
conf_kind_text conf_kind.Stray = codes "Stray"
conf_kind_text conf_kind.BadNumber = codes "BadNumber"
conf_kind_text conf_kind.BadSize = codes "BadSize"
conf_kind_text conf_kind.TooLarge = codes "TooLarge"
conf_kind_text conf_kind.BadFormat = codes "BadFormat"
conf_kind_text conf_kind.BadMode = codes "BadMode"
conf_kind_text conf_kind.BadPath = codes "BadPath"
conf_kind_text conf_kind.NoBrace = codes "NoBrace"
conf_kind_text conf_kind.NoFile = codes "NoFile"
conf_kind_text conf_kind.TooDeep = codes "TooDeep"
conf_kind_text conf_kind.TooManyFiles = codes "TooManyFiles"
conf_kind_text conf_kind.TooBig = codes "TooBig"
conf_kind_text conf_kind.Writable = codes "Writable"

-- the name of the kind
abbrev pub state_kind_text : StateKind → List ℕ
state_kind_text state_kind.TooBig = codes "TooBig"
state_kind_text state_kind.BadTop = codes "BadTop"
state_kind_text state_kind.BadName = codes "BadName"
state_kind_text state_kind.BadDate = codes "BadDate"
state_kind_text state_kind.Twice = codes "Twice"

-- the name of the reason
abbrev pub zone_text : ZoneWhy → List ℕ
zone_text why.NotFile = codes "NotFile"
zone_text why.TooBig = codes "TooBig"
zone_text why.Refused = codes "Refused"

-- what the call does, in words
abbrev pub call_text : CallKind → List ℕ
call_text call.Begin = codes "begin"
call_text call.Look = codes "look"
call_text call.List = codes "list"
call_text call.Read = codes "read"
call_text call.Rename = codes "rename"
call_text call.Make = codes "make"
call_text call.Append = codes "append"
call_text call.Truncate = codes "truncate"
call_text call.Unlink = codes "unlink"
call_text call.Sync = codes "sync"
call_text call.MakeDir = codes "make directory"
call_text call.Run = codes "run"

-- the word of a configuration that gives the program
abbrev pub phase_text : Phase → List ℕ
phase_text phase.First = codes "firstaction"
phase_text phase.Pre = codes "prerotate"
phase_text phase.Post = codes "postrotate"
phase_text phase.Last = codes "lastaction"
phase_text phase.Preremove = codes "preremove"
phase_text phase.Mail = codes "mail"
