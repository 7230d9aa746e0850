-- In the middle of a line, and in the middle of a text.
use Rattle.std.specs.Prelude.{◌≡◌, ◌+◌, ◌≤◌, ℕ, length, map, drop, List, [], ◌∷◌, ◌++◌, Bool, true, false, if◌then◌else◌}
use Rattle.std.specs.List.{list_all, slice_index_or as get_or}
use Rattle.lr_lex.specs.declared.place.Place.{Place}
use Rattle.lr_lex.specs.declared.word.Word.{Word}
use Rattle.lr_lex.specs.declared.sign.Sign.{Sign}
use Rattle.lr_lex.specs.declared.sign.Sign.TheVariants.{Blank, Mark, Plain, Quoted}
use Rattle.lr_lex.specs.declared.scan.Scan.{Scan}
use Rattle.lr_lex.specs.Words.{words, goes_on, onto, joined_words, one, sign_text, is_gap}
use Rattle.lr_lex.specs.Lines.{NumberedLine, lines, line_of, after_line}
use Rattle.lr_lex.specs.Items.{is_text, body, ended, behind_script, script_text}

-- ---- a line

-- a byte in the sign's place, by which bytes of signs that come from a text are a text
abbrev pub sign_byte : Sign → ℕ
sign_byte Blank = 32
sign_byte Mark = 34
sign_byte (Plain b) = b
sign_byte (Quoted b) = b

abbrev pub sign_bytes : List Sign → List ℕ
sign_bytes ss = map sign_byte ss

-- the word that is being read
abbrev pub draft : Scan → Word
draft s = record { text = s.bytes.items; at = s.at; len = s.len }

-- the bytes of the word that is being read, if one is
abbrev pub draft_bytes : Scan → List ℕ
draft_bytes s = if s.inside then s.bytes.items else []

-- the words, where w is the word so far
abbrev pub ahead : Bool → Word → ℕ → List Sign → List Word
ahead false w at ss = words at ss
ahead true w at ss = if goes_on ss then onto w (words at ss) else (w ∷ words at ss)

-- the words of a line, of which these signs are still to be read
abbrev pub to_come : Scan → ℕ → List Sign → List Word
to_come s at ss = s.words ++ ahead s.inside (draft s) at ss

-- the word so far is one of the words now
abbrev pub with_draft : Bool → List Word → Word → List Word
with_draft true ws w = ws ++ w ∷ []
with_draft false ws w = ws

pub record WordEnds (old : Scan) (new : Scan) : Type 0 where
  pub words : new.words ≡ with_draft old.inside old.words (draft old)
  pub inside : new.inside ≡ false

-- the sign is part of the word now
abbrev pub extended : Bool → Word → Word → Word
extended true w v = joined_words w v
extended false w v = v

pub record Extends (old : Scan) (new : Scan) (at : ℕ) (s : Sign) : Type 0 where
  pub words : new.words ≡ old.words
  pub inside : new.inside ≡ true
  pub word : draft new ≡ extended old.inside (draft old) (one at s)

-- the bytes of the word that is being read, behind a sign
abbrev pub behind_sign : List ℕ → Sign → List ℕ
behind_sign bytes Blank = []
behind_sign bytes s = bytes ++ sign_text s

-- all signs from this place on are blanks, and the one before it is none
pub record InkEnds (ss : List Sign) (end : ℕ) : Type 0 where
  pub within : end ≤ length ss
  pub blanks : list_all is_gap (drop end ss) ≡ true
  pub ink : (before : ℕ) → before + 1 ≡ end → is_gap (get_or ss before Blank) ≡ false

-- ---- a text

abbrev pub lines_from : Place → List NumberedLine
lines_from p = lines p.line p.at p.rest.now

-- new stands behind the first line of old
pub record LinePasses (old : Place) (new : Place) : Type 0 where
  pub rest : new.rest.now ≡ after_line old.rest.now
  pub at : new.at ≡ old.at + length (line_of old.rest.now) + 1
  pub line : new.line ≡ old.line + 1

-- The bytes of the script that begins here, whether it ends, and the place behind it. Where it doesn't end, a newline
-- may lack at the end of its bytes.
pub record IsScript (from : Place) (bytes : List ℕ) (ends : Bool) (new : Place) : Type 0 where
  pub reads : ends ≡ true → bytes ≡ script_text (body (lines_from from))
  pub same_test : is_text bytes ≡ is_text (script_text (body (lines_from from)))
  pub closes : ends ≡ ended (lines_from from)
  pub behind : lines_from new ≡ behind_script (lines_from from)
