-- Lists of taboo extensions and patterns.
use Rattle.std.specs.Prelude.{ℕ, Bool, false, ◌==◌, not, List, [], ◌∷◌, Result, Ok, Err, filter, flat_map, if◌then◌else◌}
use Rattle.std.specs.List.{slice_split}
use Rattle.lr_rules.specs.declared.fault.ConfKind.{ConfKind}
use Rattle.lr_rules.specs.declared.fault.ConfKind.TheVariants as kind
use Rattle.lr_rules.specs.Path.{is_empty}
use Rattle.lr_words.specs.declared.taboo.TabooItems.{TabooItems}

-- ---- items

abbrev pub is_comma : ℕ → Bool
is_comma b = b == 44

abbrev pub is_item : List ℕ → Bool
is_item part = not (is_empty part)

-- the items of a word stand between its commas
abbrev pub items_in : List ℕ → List (List ℕ)
items_in word = filter is_item (slice_split is_comma word)

-- ---- what they say

-- a `+` stands first, before the first item or for itself
abbrev pub begins_with_plus : List (List ℕ) → Bool
begins_with_plus [] = false
begins_with_plus ([] ∷ items) = false
begins_with_plus ((b ∷ bs) ∷ items) = b == 43

-- the items without their first byte
abbrev pub without_first_byte : List (List ℕ) → List (List ℕ)
without_first_byte [] = []
without_first_byte ([] ∷ items) = items
without_first_byte ((b ∷ []) ∷ items) = items
without_first_byte ((b ∷ c ∷ bs) ∷ items) = (c ∷ bs) ∷ items

abbrev pub items_said : List (List ℕ) → List (List ℕ)
items_said items = if begins_with_plus items then without_first_byte items else items

-- a list says something by one item at least
abbrev pub of_items : Bool → List (List ℕ) → Result TabooItems ConfKind
of_items is_adding [] = Err kind.MissingValue
of_items is_adding (item ∷ items) = Ok (record { items = item ∷ items; adding = is_adding })

-- the items between commas and blanks, and whether they are added to those before
abbrev pub taboo_value : List (List ℕ) → Result TabooItems ConfKind
taboo_value words = let items = flat_map items_in words in of_items (begins_with_plus items) (items_said items)
