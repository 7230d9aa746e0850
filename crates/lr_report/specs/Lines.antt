-- The printed lines of a run.
use Rattle.std.specs.Prelude.{ℕ, List, [], ◌∷◌, ◌++◌, map, codes, decimal, Option, Some, None}
use Rattle.std.specs.List.{concat}
use Rattle.std.specs.Fmt.{signed_decimal}
use Rattle.lr_rules.specs.declared.fault.Fault.{Fault}
use Rattle.lr_rules.specs.declared.fault.Fault.TheVariants as fault
use Rattle.lr_rules.specs.declared.fault.Ended.TheVariants as ended
use Rattle.lr_rules.specs.declared.fault.Notice.{Notice}
use Rattle.lr_report.specs.Kinds.{conf_kind_text, state_kind_text, zone_text, call_text, phase_text}

-- one line: the program's name, what it says, and a newline
abbrev pub line : List ℕ → List ℕ
line said = concat (codes "logrotate: " ∷ said ∷ codes "\n" ∷ [])

-- a line of a file, counted from 1
abbrev pub place : List ℕ → ℕ → List ℕ
place file number = concat (file ∷ codes ":" ∷ decimal number ∷ codes ": " ∷ [])

-- what was passed over: a word, or an owner
abbrev pub passed : Option (List ℕ) → List ℕ
passed (Some word) = word
passed None = codes "owner"

-- what a notice says
abbrev pub notice_text : Notice → List ℕ
notice_text n = concat (codes "notice: " ∷ place n.file n.line ∷ passed n.word ∷ codes " passed over" ∷ [])

-- what a fault says
abbrev pub fault_text : Fault → List ℕ
fault_text (fault.Conf file number kind) = concat (place file number ∷ conf_kind_text kind ∷ [])
fault_text fault.Clock = codes "clock is out of range"
fault_text (fault.Zone why) = concat (codes "time zone: " ∷ zone_text why ∷ [])
fault_text (fault.State number kind) = concat (codes "state line " ∷ decimal number ∷ codes ": " ∷ state_kind_text kind ∷ [])
fault_text (fault.Missing word) = concat (word ∷ codes ": no such log" ∷ [])
fault_text (fault.NotFile path) = concat (path ∷ codes ": wrong kind of file" ∷ [])
fault_text (fault.NoDir path) = concat (path ∷ codes ": no directory" ∷ [])
fault_text (fault.Duplicate path) = concat (path ∷ codes ": defined twice" ∷ [])
fault_text (fault.Overlap path other) = concat (path ∷ codes ": names meet those of " ∷ other ∷ [])
fault_text (fault.Taken path) = concat (path ∷ codes ": name is taken" ∷ [])
fault_text (fault.Unfinished path) = concat (path ∷ codes ": taken up again" ∷ [])
fault_text (fault.TooHigh path) = concat (path ∷ codes ": number is too high" ∷ [])
fault_text (fault.LongName word) = concat (word ∷ codes ": name is too long" ∷ [])
fault_text (fault.TooMany word) = concat (word ∷ codes ": too many logs" ∷ [])
fault_text (fault.TooLong path) = concat (path ∷ codes ": file is too long" ∷ [])
fault_text (fault.Call kind path) = concat (path ∷ codes ": " ∷ call_text kind ∷ codes " failed" ∷ [])
fault_text (fault.Script phase on (ended.Exit code)) = concat
    (phase_text phase ∷ codes " of " ∷ on ∷ codes " ended with " ∷ signed_decimal code ∷ [])
fault_text (fault.Script phase on ended.Killed) = concat (phase_text phase ∷ codes " of " ∷ on ∷ codes " was killed" ∷ [])
fault_text fault.Out = codes "output failed"

-- the lines of these notices, and then of these faults
abbrev pub report_lines : List Notice → List Fault → List ℕ
report_lines notices faults = concat (map (λ n. line (notice_text n)) notices) ++ concat (map (λ f. line (fault_text f)) faults)
