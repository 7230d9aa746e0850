-- What a stream holds: the bytes that were given and aren't taken yet, and where they stand among all that were given.
use Rattle.std.specs.Prelude.{◌≡◌, ◌⊎◌, ◌+◌, ◌-◌, ◌≤◌, ◌<◌, ◌^◌, ℕ, Bool, true, false, List, [], ◌∷◌, ◌++◌, length, drop, Option}
use Rattle.std.specs.Prelude.{Some, None, Result, Ok, Err}
use Rattle.lr_lex.specs.declared.item.Item.{Item}
use Rattle.lr_lex.specs.declared.item.LexFault.{LexFault}
use Rattle.lr_lex.specs.declared.item.LexKind.TheVariants as kind
use Rattle.lr_lex.specs.Items.{Told, items_from, is_end}
use Rattle.lr_lex.specs.Lines.{line_at}
use Rattle.lr_lex.specs.Lexing.{ByKind}
use Rattle.lr_lex.specs.Pieces.{has_line}
use Rattle.lr_lex.specs.declared.held.Held.{Held}
use Rattle.lr_lex.specs.Whole.{IsScriptBegun, Tell}

-- the bytes that aren't taken yet
abbrev pub rest_of : Held → List ℕ
rest_of h = drop h.from h.rest.items

abbrev pub held_text : Held → List ℕ
held_text h = h.bytes.items ++ rest_of h

-- so many bytes were taken or are held
abbrev pub size_of : Held → ℕ
size_of h = h.at + length h.bytes.items + (length h.rest.items - h.from)

-- what is still to come, where these bytes follow
abbrev pub coming : Held → List ℕ → List Told
coming h more = items_from (1 + h.down) h.at (held_text h ++ more)

-- It holds the whole lines of a script that has begun, if one has, then a first part of a line, then what wasn't looked at.
pub record IsHeld (h : Held) : Type 0 where
  pub script : List ℕ
  pub line : List ℕ
  pub bytes_are : h.bytes.items ≡ script ++ line
  pub begun_is : h.begun ≡ length script
  pub no_newline : has_line line ≡ false
  pub stage : ((script ≡ []) × (h.lines ≡ 0)) ⊎ IsScriptBegun (1 + h.down) h.at script h.lines
  pub from_in : h.from ≤ length h.rest.items
  pub lines_few : h.lines ≤ length script
  pub down_few : h.down ≤ h.at
  pub few : size_of h < 2 ^ 32

-- the same is still to come, whatever follows
abbrev pub IsSameToCome : Held → Held → Type 0
IsSameToCome old new = (more : List ℕ) → coming old more ≡ coming new more

-- this came, and the others are still to come
abbrev pub ItemCame : Held → Held → Told → Type 0
ItemCame old new t = (more : List ℕ) → coming old more ≡ t ∷ coming new more

-- what came, if anything
abbrev pub StreamBrings : Held → Held → Result (Option Item) LexFault → Type 0
StreamBrings old new (Ok None) = IsSameToCome old new
StreamBrings old new (Ok (Some i)) = ItemCame old new (Ok i)
StreamBrings old new (Err f) = ByKind f.kind (IsSameToCome old new) (ItemCame old new (Err f))

-- the first that bytes tell by themselves
abbrev pub FirstOf : List Told → Result (Option Item) LexFault → Type 0
FirstOf ts (Ok None) = ts ≡ []
FirstOf ts (Ok (Some i)) = (us : List Told) × (ts ≡ Ok i ∷ us)
FirstOf ts (Err f) = ByKind f.kind (Unit {0}) ((us : List Told) × (ts ≡ Err f ∷ us))

-- no byte is lost, and none more is ahead
pub record Filled (old new : Held) : Type 0 where
  pub text : held_text new ≡ held_text old
  pub down : new.down ≡ old.down
  pub at : new.at ≡ old.at
  pub ahead : length (rest_of new) ≤ length (rest_of old)

-- a newline stands first, or nothing is left
abbrev pub BeginsLine : Bool → List ℕ → Type 0
BeginsLine true bytes = (rest : List ℕ) × (bytes ≡ 10 ∷ rest)
BeginsLine false bytes = bytes ≡ []

-- the line and its newline are of the script
pub record HasPushed (old new : Held) : Type 0 where
  pub bytes : new.bytes.items ≡ old.bytes.items ++ 10 ∷ []
  pub begun : new.begun ≡ length new.bytes.items
  pub lines : new.lines ≡ old.lines + 1
  pub rest : new.rest.items ≡ old.rest.items
  pub from : new.from ≡ old.from + 1
  pub down : new.down ≡ old.down
  pub at : new.at ≡ old.at

abbrev pub PushesLine : {E : Type 0} → Held → Held → Result (Unit {0}) E → Type 0
PushesLine old new (Ok x) = HasPushed old new
PushesLine old new (Err e) = (new.bytes.items ≡ old.bytes.items) × (new.begun ≡ old.begun) × (new.lines ≡ old.lines)
    × (new.rest.items ≡ old.rest.items) × (new.from ≡ old.from) × (new.down ≡ old.down) × (new.at ≡ old.at)

-- the bytes and the newline behind them are taken
pub record StreamPasses (old new : Held) (lines : ℕ) : Type 0 where
  pub bytes : new.bytes.items ≡ []
  pub begun : new.begun ≡ 0
  pub none : new.lines ≡ 0
  pub rest : new.rest.items ≡ old.rest.items
  pub from : new.from ≡ old.from + 1
  pub down : new.down ≡ old.down + lines
  pub at : new.at ≡ old.at + (length old.bytes.items + 1)

-- a newline is next, and this is what the bytes tell with it
pub record TellsNext (h : Held) (lines : ℕ) (ts : List Told) : Type 0 where
  pub next : BeginsLine true (rest_of h)
  pub lines_few : lines ≤ h.lines + 1
  pub tells : Tell (1 + h.down) h.at (h.bytes.items ++ 10 ∷ []) lines ts

-- a script has begun, and the line at the end of the bytes ends it
pub record EndsScript (h : Held) : Type 0 where
  pub script : List ℕ
  pub line : List ℕ
  pub bytes_are : h.bytes.items ≡ script ++ line
  pub no_newline : has_line line ≡ false
  pub begun : IsScriptBegun (1 + h.down) h.at script h.lines
  pub ends : (m a : ℕ) → is_end (line_at m a line) ≡ true

-- nothing is lost, and after a fault, which is want of memory, too
abbrev pub StreamFills : Held → Held → Result Bool LexFault → Type 0
StreamFills old new (Ok found) = IsSameToCome old new
StreamFills old new (Err f) = IsSameToCome old new × (f.kind ≡ kind.Memory)

-- the bytes that were looked at go
pub record Drops (old new : Held) : Type 0 where
  pub bytes : new.bytes.items ≡ []
  pub begun : new.begun ≡ 0
  pub lines : new.lines ≡ 0
  pub rest : new.rest.items ≡ old.rest.items
  pub from : new.from ≡ old.from
  pub down : new.down ≡ old.down
  pub at : new.at ≡ old.at

-- what came at the end, where no bytes follow
abbrev pub StreamEnds : Held → Held → Result (Option Item) LexFault → Type 0
StreamEnds old new (Ok None) = (coming old [] ≡ []) × (coming new [] ≡ [])
StreamEnds old new (Ok (Some i)) = coming old [] ≡ Ok i ∷ coming new []
StreamEnds old new (Err f) = ByKind f.kind (coming new [] ≡ coming old []) (coming old [] ≡ Err f ∷ coming new [])
