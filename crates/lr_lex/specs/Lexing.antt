-- What a lexer has still to give.
use Rattle.std.specs.Prelude.{◌≡◌, List, [], ◌∷◌, Option, Some, None, Result, Ok, Err}
use Rattle.lr_lex.specs.declared.item.Item.{Item}
use Rattle.lr_lex.specs.declared.item.LexFault.{LexFault}
use Rattle.lr_lex.specs.declared.item.LexKind.{LexKind}
use Rattle.lr_lex.specs.declared.item.LexKind.TheVariants as kind
use Rattle.lr_lex.specs.declared.place.Place.{Place}
use Rattle.lr_lex.specs.declared.lexer.Lexer.{Lexer}
use Rattle.lr_lex.specs.Items.{Told, items_from}

-- what is still to come of a text from this place on
abbrev pub coming_from : Place → List Told
coming_from p = items_from p.line p.at p.rest.now

-- what is still to come
abbrev pub coming : Lexer → List Told
coming l = coming_from l.place

-- P at want of memory, Q at another fault
abbrev pub ByKind : LexKind → Type 0 → Type 0 → Type 0
ByKind kind.Memory P Q = P
ByKind k P Q = Q

-- The answer is the first that was to come, and the others are still to come; none exactly where nothing was to come;
-- after want of memory all is still to come.
abbrev pub LexerGives : Lexer → Lexer → Result (Option Item) LexFault → Type 0
LexerGives old new (Ok None) = (coming old ≡ []) × (coming new ≡ [])
LexerGives old new (Ok (Some i)) = coming old ≡ Ok i ∷ coming new
LexerGives old new (Err f) = ByKind f.kind (coming new ≡ coming old) (coming old ≡ Err f ∷ coming new)
