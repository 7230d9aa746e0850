-- Which names a pattern matches, and which paths the words of a rule give.
use Rattle.std.specs.Prelude.{◌≡◌, ◌≢◌, ℕ, List, [], ◌∷◌, ◌++◌, Bool, true, false, cond, not, ◌||◌, ◌&&◌, ◌==◌, nat_le, Any, chars}
use Rattle.std.specs.Prelude.{codes}
use Rattle.std.specs.List.{list_any}
use Rattle.lr_rules.specs.declared.path.Path.{Path}
use Rattle.lr_rules.specs.declared.rule.Rule.{Rule}
use Rattle.lr_rules.specs.Path.{is_slash}

-- single signs, and ranges `a-b`, hold the character; a `-` at the end is itself
abbrev pub ranges_have : List ℕ → ℕ → Bool
ranges_have [] c = false
ranges_have (a ∷ []) c = a == c
ranges_have (a ∷ b ∷ []) c = a == c || b == c
ranges_have (a ∷ dash ∷ b ∷ signs) c = cond (dash == 45) ((nat_le a c && nat_le c b) || ranges_have signs c)
    (a == c || ranges_have (dash ∷ b ∷ signs) c)

-- the signs of a class hold the character: a `-` at the head is itself too
abbrev pub class_has : List ℕ → ℕ → Bool
class_has [] c = false
class_has (a ∷ signs) c = cond (a == 45) (a == c || ranges_have signs c) (ranges_have (a ∷ signs) c)

-- it closes a class
abbrev pub is_close : ℕ → Bool
is_close c = c == 93

-- What stands behind a `[` begins with a class: its signs up to the first `]` that isn't the first of them, turned round by a `!`
-- before them.
pub data IsClass (behind : List ℕ) : Bool → List ℕ → List ℕ → Type 0 where
  straight : (sign : ℕ) (signs rest : List ℕ) → sign ≢ 33 → list_any is_close signs ≡ false → behind ≡ sign ∷ signs ++ 93 ∷ rest
      → IsClass behind false (sign ∷ signs) rest
  turned : (sign : ℕ) (signs rest : List ℕ) → list_any is_close signs ≡ false → behind ≡ 33 ∷ sign ∷ signs ++ 93 ∷ rest
      → IsClass behind true (sign ∷ signs) rest

-- The character stands for itself: it is no `?` and no `*`, no `[` that begins a class, and no backslash but the last character.
pub record IsPlain (c : ℕ) (behind : List ℕ) : Type 0 where
  pub no_one : c ≢ 63
  pub no_run : c ≢ 42
  pub no_class : c ≡ 91 → (is_turned : Bool) (signs rest : List ℕ) → IsClass behind is_turned signs rest → ⊥
  pub no_escape : c ≡ 92 → behind ≡ []

-- a sign other than itself goes with each character but a name's first `.`
abbrev pub IsOpen : Bool → ℕ → Type 0
IsOpen is_first c = is_first ≡ true → c ≢ 46

-- A part of a pattern matches a name, both as characters; `is_first` holds where no character of the name was matched yet.
pub data Matches : Bool → List ℕ → List ℕ → Type 0 where
  ends : {is_first : Bool} → Matches is_first [] []
  itself : {is_first : Bool} {c : ℕ} {part name : List ℕ} → IsPlain c part → Matches false part name
      → Matches is_first (c ∷ part) (c ∷ name)
  escaped : {is_first : Bool} {sign c : ℕ} {part name : List ℕ} → sign ≡ 92 → Matches false part name
      → Matches is_first (sign ∷ c ∷ part) (c ∷ name)
  any_one : {is_first : Bool} {sign c : ℕ} {part name : List ℕ} → sign ≡ 63 → IsOpen is_first c → Matches false part name
      → Matches is_first (sign ∷ part) (c ∷ name)
  run_ends : {is_first : Bool} {sign : ℕ} {part name : List ℕ} → sign ≡ 42 → Matches is_first part name
      → Matches is_first (sign ∷ part) name
  run_goes_on : {is_first : Bool} {sign c : ℕ} {part name : List ℕ} → sign ≡ 42 → IsOpen is_first c
      → Matches false (sign ∷ part) name → Matches is_first (sign ∷ part) (c ∷ name)
  of_class : {is_first is_turned : Bool} {sign c : ℕ} {part name signs rest : List ℕ} → sign ≡ 91
      → IsClass part is_turned signs rest → IsOpen is_first c → class_has signs c ≡ not is_turned → Matches false rest name
      → Matches is_first (sign ∷ part) (c ∷ name)

-- A pattern matches a path: each part between slashes the part at its place.
pub data PathMatches : List ℕ → List ℕ → Type 0 where
  no_part : PathMatches [] []
  next_part : {pattern path : List ℕ} (part name parts names : List ℕ) → list_any is_slash part ≡ false
      → list_any is_slash name ≡ false → pattern ≡ 47 ∷ part ++ parts → path ≡ 47 ∷ name ++ names
      → Matches true (chars part) (chars name) → PathMatches parts names → PathMatches pattern path

-- it stands for other characters where no backslash is before it
abbrev pub is_wild_sign : ℕ → Bool
is_wild_sign c = c == 42 || c == 63 || c == 91

-- one of these is such a sign; the first is escaped where `is_escaped` holds
abbrev pub has_sign : Bool → List ℕ → Bool
has_sign is_escaped [] = false
has_sign true (c ∷ cs) = has_sign false cs
has_sign false (c ∷ cs) = is_wild_sign c || has_sign (c == 92) cs

-- the word is a wildcard; any other is literal
abbrev pub is_wildcard : List ℕ → Bool
is_wildcard word = has_sign false word

-- the path of a literal word: without the backslashes that escape; one at the end of a part is itself
abbrev pub literal_path : List ℕ → List ℕ
literal_path [] = []
literal_path (c ∷ []) = c ∷ []
literal_path (c ∷ d ∷ cs) = cond (c == 92 && not (is_slash d)) (d ∷ literal_path cs) (c ∷ literal_path (d ∷ cs))

-- the ending of a copy that isn't whole yet
abbrev pub part_end : List ℕ
part_end = codes ".logrotate-part"

-- the bytes end with these
abbrev pub EndsWith : List ℕ → List ℕ → Type 0
EndsWith bytes end = (front : List ℕ) × (bytes ≡ front ++ end)

-- The word gives the path: a literal one its own path, a wildcard each that it matches, copies that aren't whole left aside.
pub data WordGives (word : List ℕ) (x : Path) : Type 0 where
  literal : is_wildcard word ≡ false → x ≡ literal_path word → WordGives word x
  wildcard : is_wildcard word ≡ true → PathMatches word x → (EndsWith x part_end → ⊥) → WordGives word x

-- one of the rule's words gives the path
abbrev pub RuleGives : Rule → Path → Type 0
RuleGives r x = Any (λ word. WordGives word x) r.words
