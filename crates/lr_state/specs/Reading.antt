-- How the lines are read, step by step: what the reader's private parts answer.
use Rattle.std.specs.Prelude.{Bool, true, false, ◌==◌, ◌≡◌, ℕ, ℤ, pos, ◌+◌, ◌-◌, ◌*◌, List, [], ◌∷◌, ◌++◌, Option, Some, None, Vec}
use Rattle.std.specs.Prelude.{if◌then◌else◌}
use Rattle.std.specs.Borrow.{Bor}
use Rattle.std.specs.declared.alloc.Global.{Global}
use Rattle.std.specs.List.{list_all}
use Rattle.lr_rules.specs.declared.civil.Civil.{Civil}
use Rattle.lr_rules.specs.Bytes.{is_blank, is_digit, is_no_blank}
use Rattle.lr_rules.specs.Civil.{IsMoment}
use Rattle.lr_state.specs.Table.{is_name}

abbrev pub NameAndRest : Type 0
NameAndRest = List ℕ × List ℕ

-- what a reader's values hold
abbrev pub seen : Bor (List ℕ) → List ℕ
seen rest = rest.now

abbrev pub seen_name : Vec ℕ Global × Bor (List ℕ) → NameAndRest
seen_name x = (x.0.items, x.1.now)

-- a byte in front of the name
abbrev pub with_byte : ℕ → Option NameAndRest → Option NameAndRest
with_byte b None = None
with_byte b (Some x) = Some (b ∷ x.0, x.1)

-- bytes in front of the name
abbrev pub with_front : List ℕ → Option NameAndRest → Option NameAndRest
with_front front None = None
with_front front (Some x) = Some (front ++ x.0, x.1)

-- the name up to the closing quote, and what is behind it; the flag says that a backslash came before
unfoldable pub quoted : Bool → List ℕ → Option NameAndRest
quoted escape [] = None
quoted true (b ∷ bs) = with_byte b (quoted false bs)
quoted false (b ∷ bs) =
    if b == 34 then Some ([], bs)
    else if b == 92 then quoted true bs
    else with_byte b (quoted false bs)

-- what stands before the first byte that passes a test, and from it on
unfoldable pub before : (ℕ → Bool) → List ℕ → List ℕ
before p [] = []
before p (b ∷ bs) = if p b then [] else b ∷ before p bs

unfoldable pub from_first : (ℕ → Bool) → List ℕ → List ℕ
from_first p [] = []
from_first p (b ∷ bs) = if p b then b ∷ bs else from_first p bs

abbrev pub bare : List ℕ → NameAndRest
bare line = (before is_blank line, from_first is_blank line)

-- the name in front, whatever its bytes
unfoldable pub name_in : List ℕ → Option NameAndRest
name_in [] = None
name_in (b ∷ bs) = if b == 34 then quoted false bs else if b == 47 then Some (bare (b ∷ bs)) else None

-- where it is a name of a log
abbrev pub checked : Option NameAndRest → Option NameAndRest
checked None = None
checked (Some x) = if is_name x.0 then Some x else None

-- a number and what is behind it
abbrev pub Number : Type 0
Number = ℕ × List ℕ

abbrev pub seen_number : ℕ × Bor (List ℕ) → Number
seen_number x = (x.0, x.1.now)

-- a year and what is behind it
abbrev pub Year : Type 0
Year = ℤ × List ℕ

abbrev pub seen_year : ℤ × Bor (List ℕ) → Year
seen_year x = (x.0, x.1.now)

abbrev pub year_of : Number → Year
year_of x = (pos x.0, x.1)

-- one more digit, where there is one
unfoldable pub more_of : ℕ → List ℕ → Number
more_of n [] = (n, [])
more_of n (b ∷ bs) = if is_digit b then (n * 10 + (b - 48), bs) else (n, b ∷ bs)

unfoldable pub digit_in : List ℕ → Option Number
digit_in [] = None
digit_in (b ∷ bs) = if is_digit b then Some (b - 48, bs) else None

abbrev pub more : Number → Number
more x = more_of x.0 x.1

-- a number of at most two digits
abbrev pub two_of : Option Number → Option Number
two_of None = None
two_of (Some x) = Some (more x)

abbrev pub two_in : List ℕ → Option Number
two_in bytes = two_of (digit_in bytes)

-- a number of at most four digits
abbrev pub four_of : Option Number → Option Number
four_of None = None
four_of (Some x) = Some (more (more (more x)))

abbrev pub four_in : List ℕ → Option Number
four_in bytes = four_of (digit_in bytes)

-- what is behind the byte
unfoldable pub behind : ℕ → List ℕ → Option (List ℕ)
behind byte [] = None
behind byte (b ∷ bs) = if b == byte then Some bs else None

-- what is behind one blank or more
unfoldable pub past_gap : List ℕ → Option (List ℕ)
past_gap [] = None
past_gap (b ∷ bs) = if is_blank b then Some (from_first is_no_blank bs) else None

-- the parts of a moment: year, month, day, hour, minute, second
abbrev pub Parts : Type 0
Parts = ℕ × ℕ × ℕ × ℕ × ℕ × ℕ

abbrev pub Clock : Type 0
Clock = ℕ × ℕ × ℕ

infixl 10 ◌>>=◌
abbrev pub ◌>>=◌ : {A B : Type 0} → Option A → (A → Option B) → Option B
None >>= f = None
(Some x) >>= f = f x

-- a time behind its dash, and then blanks
unfoldable pub clock_in : List ℕ → Option Clock
clock_in text =
    behind 45 text >>= λ a. two_in a >>= λ h. behind 58 h.1 >>= λ b. two_in b >>= λ m. behind 58 m.1
    >>= λ c. two_in c >>= λ s. if list_all is_blank s.1 then Some (h.0, m.0, s.0) else None

-- a time or none, and then blanks
unfoldable pub time_in : List ℕ → Option Clock
time_in text = if list_all is_blank text then Some (0, 0, 0) else clock_in text

-- blanks, a date, a time or none, and blanks
unfoldable pub parts_in : List ℕ → Option Parts
parts_in rest =
    past_gap rest >>= λ a. four_in a >>= λ y. behind 45 y.1 >>= λ b. two_in b >>= λ m. behind 45 m.1
    >>= λ c. two_in c >>= λ d. time_in d.1 >>= λ t. Some (y.0, m.0, d.0, t.0, t.1, t.2)

-- the moment has these parts
abbrev pub HasParts : Civil → Parts → Type 0
HasParts at p =
    (at.year ≡ pos p.0) × (at.month ≡ p.1) × (at.day ≡ p.2)
    × (at.hour ≡ p.3) × (at.minute ≡ p.4) × (at.second ≡ p.5)

-- an answer is the moment of the parts, where they are one
abbrev pub IsMomentOf : Option Parts → Option Civil → Type 0
IsMomentOf None None = Unit {0}
IsMomentOf None (Some at) = ⊥
IsMomentOf (Some p) None = IsMoment (pos p.0) p.1 p.2 p.3 p.4 p.5 → ⊥
IsMomentOf (Some p) (Some at) = HasParts at p
