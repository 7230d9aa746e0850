-- The printed text of an audit.
use Rattle.std.specs.Prelude.{ℕ, List, [], ◌∷◌, ◌++◌, codes, decimal, Option, Some, None}
use Rattle.std.specs.List.{concat, flat_map}
use Rattle.lr_rules.specs.declared.path.Path.{Path}
use Rattle.lr_audited.specs.declared.line.Audit.{Audit}
use Rattle.lr_audited.specs.declared.line.Line.{Line}
use Rattle.lr_audited.specs.declared.line.What.{What}
use Rattle.lr_audited.specs.declared.line.What.TheVariants as what
use Rattle.lr_audited.specs.declared.line.WhyGone.{WhyGone}
use Rattle.lr_audited.specs.declared.line.WhyGone.TheVariants as why

-- the bytes of a path, where there is one
abbrev pub name_of : Option Path → List ℕ
name_of None = []
name_of (Some path) = path

-- a file at a place of a log
abbrev pub placed_line : Path → List ℕ → ℕ → Option Path → List ℕ
placed_line path kind place log = concat (path ∷ kind ∷ decimal place ∷ []) ++ concat (codes " of " ∷ name_of log ∷ codes "\n" ∷ [])

-- what a file is
abbrev pub what_line : Path → What → Option Path → List ℕ
what_line path what.Log log = concat (path ∷ codes ": log\n" ∷ [])
what_line path (what.Member place) log = placed_line path (codes ": member ") place log
what_line path (what.Leftover place) log = placed_line path (codes ": leftover ") place log
what_line path what.Part log = concat (path ∷ codes ": part of " ∷ name_of log ∷ codes "\n" ∷ [])
what_line path what.Stranger log = concat (path ∷ codes ": stranger\n" ∷ [])

abbrev pub line_text : Line → List ℕ
line_text line = what_line line.path line.what line.log

-- a place at which no member stands
abbrev pub gap_text : Path × ℕ → List ℕ
gap_text gap = concat (gap.0 ∷ codes ": gap at " ∷ decimal gap.1 ∷ codes "\n" ∷ [])

-- what goes, and why
abbrev pub why_line : Path → WhyGone → List ℕ
why_line path why.Count = concat (path ∷ codes ": next run removes, count\n" ∷ [])
why_line path why.Age = concat (path ∷ codes ": next run removes, age\n" ∷ [])

abbrev pub going_text : Path × WhyGone → List ℕ
going_text going = why_line going.0 going.1

-- all of it
abbrev pub audit_text : Audit → List ℕ
audit_text a = flat_map line_text a.lines ++ (flat_map gap_text a.gaps ++ flat_map going_text a.removed)
