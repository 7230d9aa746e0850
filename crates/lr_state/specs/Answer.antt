-- Answers that agree with what a text says.
use Rattle.std.specs.Prelude.{◌≡◌, ℕ, List, Result, Ok, Err}
use Rattle.lr_rules.specs.declared.fault.StateKind.{StateKind}
use Rattle.lr_state.specs.declared.line.LineStop.{LineStop}
use Rattle.lr_state.specs.declared.line.LineStop.TheVariants as stop
use Rattle.lr_state.specs.declared.text.StateStop.{StateStop}
use Rattle.lr_state.specs.declared.text.StateStop.TheVariants as whole
use Rattle.lr_state.specs.Grammar.{AddsLine, IsFirstFault, StateSaid}
use Rattle.lr_state.specs.Table.{StateEntry}

-- what a line says behind the entries of the lines before it: the entries with its own, or its fault
abbrev pub LineSays : List StateEntry → List ℕ → Result (List StateEntry) StateKind → Type 0
LineSays before line (Ok after) = AddsLine before line after
LineSays before line (Err kind) = IsFirstFault before line kind

-- a line says this and nothing else
abbrev pub LineSaysOnly : List StateEntry → List ℕ → Result (List StateEntry) StateKind → Type 0
LineSaysOnly before line one =
    LineSays before line one × ((other : Result (List StateEntry) StateKind) → LineSays before line other → other ≡ one)

-- the answer for a line, and the table after it
abbrev pub IsLineAnswer : List StateEntry → List ℕ → Result (Unit {0}) LineStop → List StateEntry → Type 0
IsLineAnswer before line (Ok done) after = LineSaysOnly before line (Ok after)
IsLineAnswer before line (Err (stop.Fault kind)) after = LineSaysOnly before line (Err kind)
IsLineAnswer before line (Err stop.Memory) after = Unit {0}

-- the answer of a reader is what is said, unless there is no memory
abbrev pub ReaderGives : Result (List StateEntry) StateStop → StateSaid → Type 0
ReaderGives (Ok table) said = said ≡ Ok table
ReaderGives (Err (whole.Bad line kind)) said = said ≡ Err (line, kind)
ReaderGives (Err whole.Memory) said = Unit {0}

-- what a reader answers is said, want of memory aside
abbrev pub IsSaidBy : (StateSaid → Type 0) → Result (List StateEntry) StateStop → Type 0
IsSaidBy Says (Ok table) = Says (Ok table)
IsSaidBy Says (Err (whole.Bad line kind)) = Says (Err (line, kind))
IsSaidBy Says (Err whole.Memory) = Unit {0}
