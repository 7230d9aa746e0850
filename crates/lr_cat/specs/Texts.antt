-- The files of a call, and what was read and taken of them.
use Rattle.std.specs.Prelude.{◌≡◌, ◌<◌, ℕ, List, [], ◌∷◌, ◌++◌, map, flat_map, length, Option, Some}
use Rattle.lr_rules.specs.declared.path.Path.{Path}
use Rattle.lr_rules.specs.declared.fault.CallKind.TheVariants as call
use Rattle.lr_rules.specs.declared.fault.Fault.{Fault}
use Rattle.lr_rules.specs.declared.fault.Fault.TheVariants as fault
use Rattle.lr_host.specs.declared.entry.Entry.{Entry}
use Rattle.lr_host.specs.declared.entry.Entry.TheVariants.{Reads}
use Rattle.lr_host.specs.declared.journal.Journal.{Journal}
use Rattle.lr_host.specs.Reading.{ReadsOf}
use Rattle.lr_host.specs.Told.{Left, Then, Are, Can, Counts, Rose}
use Rattle.lr_report.specs.Puts.{Took, TookPart}
use Rattle.lr_cat.specs.declared.texts.TextStop.{TextStop}
use Rattle.lr_cat.specs.declared.texts.TextStop.TheVariants as stop

-- A file, and the text that was read of it.
pub record FileText : Type 0 where
  pub path : Path
  pub bytes : List ℕ

abbrev pub text_paths : List FileText → List Path
text_paths texts = map (λ t. t.path) texts

-- the texts, one behind another
abbrev pub joined_texts : List FileText → List ℕ
joined_texts texts = flat_map (λ t. t.bytes) texts

-- ---- the reads

-- all of the file was read, from its first byte on, up to a read that gave nothing
abbrev pub ReadsWhole : FileText → List Entry → Type 0
ReadsWhole t ts = Then (ReadsOf t.path t.bytes) (Are (Reads t.path (length t.bytes) [] ∷ [])) ts

-- so were these, one behind another
abbrev pub ReadsTexts : List FileText → List Entry → Type 0
ReadsTexts [] ts = ts ≡ []
ReadsTexts (t ∷ texts) ts = Then (ReadsWhole t) (ReadsTexts texts) ts

-- a file was read so far: a read failed, or the output did, or it has more than 2^40 bytes
abbrev pub ReadsTextPart : TextStop → FileText → List Entry → Type 0
ReadsTextPart stop.TooLong t ts = (1_099_511_627_776 < length t.bytes) × ReadsOf t.path t.bytes ts
ReadsTextPart _ t ts = ReadsOf t.path t.bytes ts

abbrev pub text_fault : TextStop → Path → Fault
text_fault stop.Read path = fault.Call call.Read path
text_fault stop.TooLong path = fault.TooLong path
text_fault stop.Out path = fault.Out

-- The first of these files were read whole, and the next so far.
pub record TextBreaksOff (files : List Path) (f : Fault) (texts : List FileText) (ts : List Entry) : Type 0 where
  pub before : List FileText
  pub last : FileText
  pub behind : List Path
  pub why : TextStop
  pub texts_are : texts ≡ before ++ last ∷ []
  pub files_are : files ≡ text_paths before ++ last.path ∷ behind
  pub fault_is : f ≡ text_fault why last.path
  pub reads : Then (ReadsTexts before) (ReadsTextPart why last) ts

-- all of these files were read
pub record ReadsAllOf (files : List Path) (texts : List FileText) (ts : List Entry) : Type 0 where
  pub files_are : files ≡ text_paths texts
  pub reads : ReadsTexts texts ts

-- ---- what the output took

-- all of the bytes, unless it failed
abbrev pub TookBy : Option Fault → List ℕ → Option (List ℕ) → Option (List ℕ) → Type 0
TookBy (Some fault.Out) bytes before after = TookPart bytes before after
TookBy _ bytes before after = Took bytes before after

-- What was left, and what the output took, are of the same texts.
pub record PassesTexts (P : List FileText → List Entry → Type 0) (own : Option Fault) (told later : Option Journal)
    (before after : Option (List ℕ)) : Type 0 where
  pub texts : List FileText
  pub left : Left (P texts) told later
  pub took : TookBy own (joined_texts texts) before after

-- each of these can be read, where the host tells its journal
abbrev pub CanReadAll : Option Journal → List Path → Type 0
CanReadAll told [] = Unit {0}
CanReadAll told (x ∷ xs) = Can told (Reads x 0 []) × CanReadAll told xs

-- ---- the causes

-- A failed call raised the count of the host, and the output's own fault that of the output; and a call has no other fault of its
-- own but these.
abbrev pub HasCause : Fault → Counts → Counts → ℕ → ℕ → Type 0
HasCause (fault.Call kind path) counted counts puts later = Rose counted.faults counts.faults
HasCause fault.Out counted counts puts later = Rose puts later
HasCause (fault.NoDir path) counted counts puts later = Unit {0}
HasCause (fault.NotFile path) counted counts puts later = Unit {0}
HasCause (fault.TooLong path) counted counts puts later = Unit {0}
HasCause _ counted counts puts later = ⊥
