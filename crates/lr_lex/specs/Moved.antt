-- Items of a text that stands further on: in a later line, behind more bytes.
use Rattle.std.specs.Prelude.{ℕ, ◌+◌, ◌<◌, ◌^◌, All, map, Ok, Err}
use Rattle.lr_lex.specs.declared.word.Word.{Word}
use Rattle.lr_lex.specs.declared.item.Item.{Item}
use Rattle.lr_lex.specs.declared.item.Item.TheVariants as item
use Rattle.lr_lex.specs.declared.item.LexFault.{LexFault}
use Rattle.lr_lex.specs.Items.{Told}

-- behind so many bytes more
abbrev pub moved_word : ℕ → Word → Word
moved_word by w = record { text = w.text; at = w.at + by; len = w.len }

-- and so many lines further on
abbrev pub moved_item : ℕ → ℕ → Item → Item
moved_item down by (item.Line ws names brace stray line) = item.Line (map (moved_word by) ws) names brace stray (line + down)
moved_item down by (item.Close line) = item.Close (line + down)
moved_item down by (item.Script w text brace stray line) = item.Script (moved_word by w) text brace stray (line + down)

abbrev pub moved_fault : ℕ → LexFault → LexFault
moved_fault down f = record { line = f.line + down; kind = f.kind }

abbrev pub moved : ℕ → ℕ → Told → Told
moved down by (Ok i) = Ok (moved_item down by i)
moved down by (Err f) = Err (moved_fault down f)

-- ---- it can be moved

abbrev pub IsNear : ℕ → Word → Type 0
IsNear by w = w.at + by < 2 ^ 64

abbrev pub IsNearItem : ℕ → ℕ → Item → Type 0
IsNearItem down by (item.Line ws names brace stray line) = All (IsNear by) ws × (line + down < 2 ^ 32)
IsNearItem down by (item.Close line) = line + down < 2 ^ 32
IsNearItem down by (item.Script w text brace stray line) = IsNear by w × (line + down < 2 ^ 32)
