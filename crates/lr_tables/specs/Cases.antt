-- Tables of cases.
use Rattle.std.specs.Prelude.{◌≡◌, ◌≤◌, ℕ, List}
use Rattle.std.specs.List.{Any}
use Rattle.lr_tables.specs.declared.due_case.DueCase.{DueCase}
use Rattle.lr_tables.specs.declared.cut_case.CutCase.{CutCase}

-- each line of the table of when a log is due decides a case
abbrev pub Covers : List DueCase → Type 0
Covers rows = (line : ℕ) → 1 ≤ line → line ≤ 11 → Any (λ row. row.answer ≡ line) rows

-- no more changes stay than there are, and the file keeps what is synced of it and gets nothing
abbrev pub IsCutAllowed : CutCase → Type 0
IsCutAllowed c = (c.kept ≤ c.changes) × (c.synced ≤ c.to) × (c.to ≤ c.length)
