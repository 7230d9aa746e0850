-- The signs of a line: each byte is one, so a place among the signs is a place among the bytes.
use Rattle.std.specs.Prelude.{◌≡◌, ℕ, ◌==◌, ◌||◌, Bool, List, [], ◌∷◌, Option, Some, None, length, if◌then◌else◌}
use Rattle.lr_rules.specs.Bytes.{is_blank}
use Rattle.lr_lex.specs.declared.sign.Sign.{Sign}
use Rattle.lr_lex.specs.declared.sign.Sign.TheVariants.{Blank, Mark, Plain, Quoted}

abbrev pub is_quote : ℕ → Bool
is_quote b = b == 34 || b == 39

-- the sign of a byte inside the quote q, or outside quotes where q is 0
unfoldable pub sign_of : ℕ → ℕ → Sign
sign_of q b =
    if q == 0 then (if is_quote b then Mark else if is_blank b then Blank else Plain b)
    else (if b == q then Mark else Quoted b)

-- the quote behind it
unfoldable pub quote_behind : ℕ → ℕ → ℕ
quote_behind q b =
    if q == 0 then (if is_quote b then b else 0)
    else (if b == q then 0 else q)

-- a backslash before a byte: in a line of names it stays in the word, for the pattern
abbrev pub escape : Bool → Sign
escape names = if names then Quoted 92 else Mark

-- the signs of bytes inside the quote q: a backslash before a byte quotes it
abbrev pub signs : Bool → ℕ → List ℕ → List Sign
signs names q [] = []
signs names q (b ∷ []) = sign_of q b ∷ []
signs names q (b ∷ c ∷ bs) =
    if b == 92 then (escape names ∷ (Quoted c ∷ signs names q bs))
    else (sign_of q b ∷ signs names (quote_behind q b) (c ∷ bs))

-- the quote that is open behind the bytes, or 0
abbrev pub left_open : ℕ → List ℕ → ℕ
left_open q [] = q
left_open q (b ∷ []) = quote_behind q b
left_open q (b ∷ c ∷ bs) = if b == 92 then left_open q bs else left_open (quote_behind q b) (c ∷ bs)

-- the signs of a line, of names or not; none where a quote doesn't close on it
abbrev pub line_signs : Bool → List ℕ → Option (List Sign)
line_signs names line = if left_open 0 line == 0 then Some (signs names 0 line) else None

-- the signs, where there are any, are so many
abbrev pub HasLength : ℕ → Option (List Sign) → Type 0
HasLength n None = Unit {0}
HasLength n (Some ss) = length ss ≡ n
