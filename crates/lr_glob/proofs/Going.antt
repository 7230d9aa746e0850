-- Parts and the names with which they go.
use Rattle.std.proofs.Common.{◌≡◌, ◌⊎◌, inl, inr, ℕ, true, false, List, [], ◌∷◌, refl, subst, sym}
use Rattle.std.specs.Prelude.{chars, IsUtf8}
use Rattle.std.specs.List.{list_any}
use Rattle.lr_rules.specs.Match.{Matches, PathMatches, is_wildcard, literal_path}
use Rattle.lr_rules.specs.Path.{is_slash}
use Rattle.lr_host.specs.Lists.{IsIn}
use Rattle.lr_glob.proofs.Literals.{literal_matches}
use Rattle.lr_glob.proofs.Names.{behind, AreParts}

-- a part goes with a name: a wildcard with each that it matches, another part with its own
abbrev pub GoesWith : List ℕ → List ℕ → Type 0
GoesWith part name = ((is_wildcard part ≡ true) × Matches true (chars part) (chars name)) ⊎ ((is_wildcard part ≡ false) × (name ≡ literal_path part))

-- each part goes with the name at its place
pub data Goes : List (List ℕ) → List (List ℕ) → Type 0 where
  none : Goes [] []
  more : (part name : List ℕ) (parts names : List (List ℕ)) → GoesWith part name → Goes parts names → Goes (part ∷ parts) (name ∷ names)

goes_match : (part name : List ℕ) → IsUtf8 part → list_any is_slash part ≡ false → GoesWith part name → Matches true (chars part) (chars name)
goes_match part name u plain (inl g) = g.1
goes_match part name u plain (inr g) = subst (λ n. Matches true (chars part) (chars n)) (sym g.1) (literal_matches part u g.0 plain)

pub goes_all : (parts names : List (List ℕ)) → AreParts parts → AreParts names → ((p : List ℕ) → IsIn p parts → IsUtf8 p) → Goes parts names → PathMatches (behind parts) (behind names)
goes_all _ _ a b u Goes.none = PathMatches.no_part
goes_all _ _ a b u (Goes.more part name parts names g rest) = PathMatches.next_part part name (behind parts) (behind names) (a part (inl refl)).1 (b name (inl refl)).1 refl refl (goes_match part name (u part (inl refl)) (a part (inl refl)).1 g) (goes_all parts names (λ p i. a p (inr i)) (λ n i. b n (inr i)) (λ p i. u p (inr i)) rest)
