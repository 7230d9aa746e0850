-- Which paths a word gives, and which definition gives a log first.
use Rattle.std.proofs.Common.{◌≡◌, inl, inr, ◌≤◌, ◌<◌, ◌↔◌, ℕ, zero, suc, Bool, true, false, not, ◌&&◌, List, [], ◌∷◌, length, get_or, refl, sym, ap, ◌∙◌, subst, arith, drop, Some, None}
use Rattle.std.specs.List.{list_all, list_any}
use Rattle.std.proofs.lemmas.Bool.{and_parts}
use Rattle.lr_rules.specs.declared.path.Path.{Path}
use Rattle.lr_rules.specs.declared.rule.Rule.{Rule}
use Rattle.lr_rules.specs.Limits.{meets_limits}
use Rattle.lr_rules.specs.Match.{PathMatches, RuleGives, WordGives, EndsWith, is_wildcard, part_end}
use Rattle.lr_rules.specs.Names.{ends_with}
use Rattle.lr_rules.specs.Path.{is_absolute, is_slash, last_of, path_fault}
use Rattle.lr_host.specs.Lists.{IsIn}
use Rattle.lr_match.proofs.Ends.{ends_tell}
use Rattle.lr_glob.specs.Parts.{parts_in}
use Rattle.lr_glob.proofs.Names.{behind, split_plain, word_behind}
use Rattle.lr_laws_looks.proofs.Pairs.{Pairs, matches_absolute, parts_match}
use Rattle.lr_rules.specs.Names.{naming_of}
use Rattle.lr_rules.specs.declared.rule.Naming.{Naming}
use Rattle.lr_family.specs.declared.family.Family.{Family}
use Rattle.lr_family.specs.Kin.{IsKin}
use Rattle.lr_looks.proofs.Kindred.{format_fine, kin_of}
use Rattle.lr_laws_family.specs.Members.{IsFamily}
use Rattle.lr_laws_family.proofs.DatedNames.{no_member}
use Rattle.lr_cat.specs.First.{AreMatched, IsFound, GivesNoneBefore}

-- ---- a wildcard

abbrev ArePlain : List (List ℕ) → Type 0
ArePlain parts = (p : List ℕ) → IsIn p parts → list_any is_slash p ≡ false

matched_behind : (parts names : List (List ℕ)) → ArePlain parts → ArePlain names → AreMatched parts names → PathMatches (behind parts) (behind names)
matched_behind [] [] a b m = PathMatches.no_part
matched_behind (p ∷ ps) (n ∷ ns) a b m = PathMatches.next_part p n (behind ps) (behind ns) (a p (inl refl)) (b n (inl refl)) refl refl m.0 (matched_behind ps ns (λ q i. a q (inr i)) (λ q i. b q (inr i)) m.1)
matched_behind [] (n ∷ ns) a b m = absurd m
matched_behind (p ∷ ps) [] a b m = absurd m

pairs_matched : (parts names : List (List ℕ)) → Pairs parts names → AreMatched parts names
pairs_matched [] [] h = tt
pairs_matched (p ∷ ps) (n ∷ ns) h = (h.1, pairs_matched ps ns h.2)
pairs_matched [] (n ∷ ns) h = absurd h
pairs_matched (p ∷ ps) [] h = absurd h

absolute_path : (word x : List ℕ) → is_wildcard word ≡ true → PathMatches word x → is_absolute x ≡ true
absolute_path _ _ wild PathMatches.no_part = absurd (cc wild)
absolute_path word x wild (PathMatches.next_part part name parts names a b ew ex m rest) = ap is_absolute ex

abbrev may : List ℕ → List ℕ → Bool
may word x = is_absolute word && (is_absolute x && not (ends_with part_end x))

whole : (x : List ℕ) (b : Bool) → ends_with part_end x ≡ b → not b ≡ true → EndsWith x part_end → ⊥
whole x b is n ends = let t = sym is ∙ (ends_tell x part_end).1 ends in let m = sym (ap not t) ∙ n in absurd (cc)

not_part : (x : List ℕ) → (EndsWith x part_end → ⊥) → (b : Bool) → ends_with part_end x ≡ b → not b ≡ true
not_part x n true is = absurd (n ((ends_tell x part_end).0 is))
not_part x n false is = refl

all_three : (a b c : Bool) → a ≡ true → b ≡ true → c ≡ true → (a && (b && c)) ≡ true
all_three a b c p q r = rw (p, q, r) refl

-- the code's answer where a wildcard may match the path
pub by_parts : (word x : List ℕ) (answer : Bool) → is_wildcard word ≡ true → may word x ≡ true → (answer ≡ true) ↔ AreMatched (parts_in word) (parts_in x) → (answer ≡ true) ↔ WordGives word x
by_parts word x answer wild ok by = (to, from)
  where
    first : (is_absolute word ≡ true) × ((is_absolute x && not (ends_with part_end x)) ≡ true)
    first = and_parts (is_absolute word) (is_absolute x && not (ends_with part_end x)) ok

    second : (is_absolute x ≡ true) × (not (ends_with part_end x) ≡ true)
    second = and_parts (is_absolute x) (not (ends_with part_end x)) first.1

    to : answer ≡ true → WordGives word x
    to gives = WordGives.wildcard wild
        (subst (λ (w : List ℕ). PathMatches w x) (sym (word_behind word first.0)) (subst (PathMatches (behind (parts_in word))) (sym (word_behind x second.0))
        (matched_behind (parts_in word) (parts_in x) (λ p i. split_plain (drop 1 word) p i) (λ p i. split_plain (drop 1 x) p i) (by.0 gives))))
        (whole x (ends_with part_end x) refl second.1)

    from : WordGives word x → answer ≡ true
    from (WordGives.literal plain is) = let t = sym wild ∙ plain in absurd (cc)
    from (WordGives.wildcard is matches not_whole) = by.1 (pairs_matched (parts_in word) (parts_in x) (parts_match word x wild matches))

-- the same of the bytes that the code has
pub may_now : (p y word x : List ℕ) (r b : Bool) → p ≡ word → y ≡ x → r ≡ may p y → r ≡ b → may word x ≡ b
may_now p y word x r b same also is answer = sym (ap (λ (q : List ℕ). may q x) same) ∙ (sym (ap (may p) also) ∙ (sym is ∙ answer))

pub first_of_may : (word x : List ℕ) → may word x ≡ true → (is_absolute word ≡ true) × (is_absolute x ≡ true)
first_of_may word x ok = let a = and_parts (is_absolute word) (is_absolute x && not (ends_with part_end x)) ok in (a.0, (and_parts (is_absolute x) (not (ends_with part_end x)) a.1).0)

pub by_slices : (word x : List ℕ) (parts names : List (List ℕ)) (answer : Bool) → parts ≡ parts_in word → names ≡ parts_in x → (answer ≡ true) ↔ AreMatched parts names → (answer ≡ true) ↔ AreMatched (parts_in word) (parts_in x)
by_slices word x parts names answer a b h = subst (λ (ps : List (List ℕ)). (answer ≡ true) ↔ AreMatched ps (parts_in x)) a (subst (λ (ns : List (List ℕ)). (answer ≡ true) ↔ AreMatched parts ns) b h)

-- where it may not
pub by_none : (word x : List ℕ) → is_wildcard word ≡ true → may word x ≡ false → (false ≡ true) ↔ WordGives word x
by_none word x wild none = ((λ (t : false ≡ true). absurd (cc)), from)
  where
    from : WordGives word x → false ≡ true
    from (WordGives.literal plain is) = let t = sym wild ∙ plain in absurd (cc)
    from (WordGives.wildcard is matches not_whole) =
        sym none ∙ all_three (is_absolute word) (is_absolute x) (not (ends_with part_end x)) (matches_absolute word x wild matches) (absolute_path word x wild matches) (not_part x not_whole (ends_with part_end x) refl)

-- ---- one of some words

abbrev pub NoneTo : {X : Type 0} → (X → Type 0) → List X → ℕ → Type 0
NoneTo {X} P xs i = (k : ℕ) (x : X) → k < i → get_or xs k x ≡ x → P x → ⊥

-- ---- the definitions

pub limits_at : (rules : List Rule) (i : ℕ) (rule : Rule) → list_all meets_limits rules ≡ true → i < length rules → rule ≡ get_or rules i rule → meets_limits rule ≡ true
limits_at [] i rule limits lt is = absurd (omega (arith, lt))
limits_at (r ∷ rs) zero rule limits lt is = ap meets_limits is ∙ (and_parts (meets_limits r) (list_all meets_limits rs) limits).0
limits_at (r ∷ rs) (suc i) rule limits lt is = limits_at rs i rule (and_parts (meets_limits r) (list_all meets_limits rs) limits).1 (omega (arith, lt)) is

pub before_of : (rules : List Rule) (log : Path) (i : ℕ) → NoneTo (λ rule. RuleGives rule log) rules i → GivesNoneBefore i rules log
before_of rules log i none = λ k rule lt at gives. none k rule lt at.1 gives

pub is_family : (rule : Rule) (log : Path) → meets_limits rule ≡ true → path_fault log ≡ None → length log ≤ 2048 → length (last_of log) ≤ 255 → path_fault (naming_of rule log).dir ≡ None → IsFamily log (naming_of rule log)
is_family rule log limits path size last dir = record {
  kin = kin_of rule log limits path size last;
  format = format_fine rule limits;
  dir = dir;
  apart = no_member rule log (format_fine rule limits) (kin_of rule log limits path size last);
}

pub kin_for : (rule : Rule) (log l : Path) (n : Naming) → l ≡ log → n ≡ naming_of rule log → meets_limits rule ≡ true → path_fault log ≡ None → length log ≤ 2048 → length (last_of log) ≤ 255 → IsKin l n
kin_for rule log l n same named limits path size last = subst (λ (x : Path). IsKin x n) (sym same) (subst (IsKin log) (sym named) (kin_of rule log limits path size last))

-- the first that gives it
pub found_at : (rules : List Rule) (log : Path) (i : ℕ) (rule : Rule) (family : Family) → i < length rules → rule ≡ get_or rules i rule → NoneTo (λ r. RuleGives r log) rules i → RuleGives rule log → family.log ≡ log → family.naming ≡ naming_of rule log → IsFamily log (naming_of rule log) → IsFound rules log (Some family)
found_at rules log i rule family lt is none gives same named kin = (rule, record { place = i; there = (lt, sym is); none_before = before_of rules log i none; gives = gives }, same, named, kin)
