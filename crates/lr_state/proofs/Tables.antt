-- What a text says is a table.
use Rattle.std.proofs.Common.{◌≡◌, ◌∙◌, ap, sym, refl, ⊎_elim, ℕ, ◌+◌, nat_lt, length, Bool, true, false, List, [], ◌∷◌, is_some}
use Rattle.std.specs.Prelude.{Ok}
use Rattle.std.specs.List.{slice_split}
use Rattle.lr_rules.specs.Bytes.{is_newline}
use Rattle.lr_state.specs.Grammar.{AddsLine, LinesSay, BehindTop, TextLinesSay, SizedTextSays, TextSays, is_top}
use Rattle.lr_state.specs.Table.{StateEntry, is_table}
use Rattle.lr_state.proofs.Views.{put-new, table-put}

line_adds : (before : List StateEntry) (line : List ℕ) (later : List StateEntry) → is_table before ≡ true → AddsLine before line later → is_table later ≡ true
line_adds before line later table h = ⊎_elim
    (λ e. ap is_table e.1 ∙ table)
    (λ e. ap is_table (e.6 ∙ sym (put-new before e.0 e.2 (ap is_some e.5))) ∙ table-put before e.0 e.2 e.3.1 table)
    h

lines_say : (number : ℕ) (before : List StateEntry) (lines : List (List ℕ)) (table : List StateEntry) → is_table before ≡ true → LinesSay number before lines (Ok table) → is_table table ≡ true
lines_say number before [] table good said = let same : table ≡ before = cc said in ap is_table same ∙ good
lines_say number before (line ∷ lines) table good said = ⊎_elim
    (λ e. absurd (cc e.2))
    (λ e. lines_say (number + 1) e.0 lines table (line_adds before line e.0 good e.1) e.2)
    said

none : is_table [] ≡ true
unfolding is_table
none = refl

behind_top : (b : Bool) (lines : List (List ℕ)) (table : List StateEntry) → BehindTop b lines (Ok table) → is_table table ≡ true
behind_top true lines table said = lines_say 2 [] lines table none said
behind_top false lines table said = absurd (cc said)

text_lines : (lines : List (List ℕ)) (table : List StateEntry) → TextLinesSay lines (Ok table) → is_table table ≡ true
text_lines [] table said = let same : table ≡ [] = cc said in ap is_table same ∙ none
text_lines (top ∷ lines) table said = behind_top (is_top top) lines table said

sized : (b : Bool) (text : List ℕ) (table : List StateEntry) → SizedTextSays b text (Ok table) → is_table table ≡ true
sized true text table said = absurd (cc said)
sized false text table said = text_lines (slice_split is_newline text) table said

pub said_is_table : (text : List ℕ) (table : List StateEntry) → TextSays text (Ok table) → is_table table ≡ true
said_is_table [] table said = let same : table ≡ [] = cc said in ap is_table same ∙ none
said_is_table (b ∷ bs) table said = sized (nat_lt 67_108_864 (length (b ∷ bs))) (b ∷ bs) table said
