-- The taboo list, and the names that it bars.
use Rattle.std.specs.Prelude.{◌⊎◌, ℕ, Bool, true, false, List, [], ◌∷◌, ◌++◌, Any, chars, codes, if◌then◌else◌}
use Rattle.lr_rules.specs.Match.{Matches, EndsWith}
use Rattle.lr_match.specs.declared.taboo.Taboo.{Taboo}

-- the name ends with an extension of the list, or a pattern of it matches the name
abbrev pub Bars : Taboo → List ℕ → Type 0
Bars taboo name = Any (λ end. EndsWith name end) taboo.extensions
    ⊎ Any (λ pattern. Matches true (chars pattern) (chars name)) taboo.patterns

-- the extensions to begin with
abbrev pub first_extensions : List (List ℕ)
first_extensions =
    codes ",v" ∷ codes ".cfsaved" ∷ codes ".disabled" ∷ codes ".dpkg-bak" ∷ codes ".dpkg-del" ∷ codes ".dpkg-dist" ∷ codes
    ".dpkg-new" ∷ codes ".dpkg-old" ∷ codes ".dpkg-tmp" ∷ codes ".rpmnew" ∷ codes ".rpmorig" ∷ codes ".rpmsave" ∷ codes ".swp"
    ∷ codes ".ucf-dist" ∷ codes ".ucf-new" ∷ codes ".ucf-old" ∷ codes "~" ∷ []

-- the list to begin with: no patterns
abbrev pub first_taboo : Taboo
first_taboo = record { extensions = first_extensions; patterns = [] }

-- the items, or the old list and then the items
abbrev pub list_after : Bool → List (List ℕ) → List (List ℕ) → List (List ℕ)
list_after adding old items = if adding then old ++ items else items

-- the one list says what the items say, and the other stays
abbrev pub taboo_after : Taboo → List (List ℕ) → Bool → Bool → Taboo
taboo_after taboo items true adding = record { extensions = taboo.extensions; patterns = list_after adding taboo.patterns items }
taboo_after taboo items false adding = record { extensions = list_after adding taboo.extensions items; patterns = taboo.patterns }
