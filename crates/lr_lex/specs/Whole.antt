-- Whole lines at the beginning of a text, and what they tell, whatever comes behind them.
use Rattle.std.specs.Prelude.{◌≡◌, ◌+◌, ℕ, Bool, false, List, ◌∷◌, ◌++◌, length}
use Rattle.std.specs.List.{list_any}
use Rattle.lr_lex.specs.declared.word.Word.{Word}
use Rattle.lr_lex.specs.declared.said.Said.{Said}
use Rattle.lr_lex.specs.declared.said.Said.TheVariants as says
use Rattle.lr_lex.specs.Lines.{NumberedLine, lines}
use Rattle.lr_lex.specs.Items.{Told, said, is_end, items_from}

-- The bytes are these lines, each with its newline: whatever comes behind them begins a line.
abbrev pub AreLinesOf : ℕ → ℕ → List ℕ → List NumberedLine → Type 0
AreLinesOf number at bytes ls = (more : List ℕ) → lines number at (bytes ++ more) ≡ ls
    ++ lines (number + length ls) (at + length bytes) more

-- The bytes tell this alone, whatever comes behind them.
abbrev pub Tell : ℕ → ℕ → List ℕ → ℕ → List Told → Type 0
Tell number at bytes count ts = (more : List ℕ) → items_from number at (bytes ++ more) ≡ ts
    ++ items_from (number + count) (at + length bytes) more

-- no script begins behind a line that says this
abbrev pub IsPlainSaid : Said → Type 0
IsPlainSaid (says.Script w brace stray) = ⊥
IsPlainSaid _ = Unit {0}

-- These are whole lines, so many, of a script that has begun and hasn't ended.
pub record IsScriptBegun (number at : ℕ) (bytes : List ℕ) (count : ℕ) : Type 0 where
  pub first : NumberedLine
  pub others : List NumberedLine
  pub lines_are : AreLinesOf number at bytes (first ∷ others)
  pub many : count ≡ length (first ∷ others)
  pub word : Word
  pub brace : Bool
  pub stray : Bool
  pub begins : said first ≡ says.Script word brace stray
  pub unended : list_any is_end others ≡ false
