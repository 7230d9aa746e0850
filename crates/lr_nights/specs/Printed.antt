-- What a trial prints.
use Rattle.std.specs.Prelude.{ℕ, List, ◌++◌, codes, decimal}
use Rattle.lr_nights.specs.declared.summary.Summary.{Summary}

-- a name, a space and a number
abbrev pub number_line : List ℕ → ℕ → List ℕ
number_line name number = name ++ (codes " " ++ (decimal number ++ codes "\n"))

-- the six lines
abbrev pub summary_text : Summary → List ℕ
summary_text s = number_line (codes "nights") s.nights ++ (number_line (codes "runs") s.runs
    ++ (number_line (codes "begun") s.begun ++ (number_line (codes "files") s.files
    ++ (number_line (codes "bytes") s.bytes ++ number_line (codes "released") s.released))))
