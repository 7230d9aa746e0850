-- The name of a rule gives the path of a log.
use Rattle.std.proofs.Common.{◌≡◌, ℕ, Bool, true, false, cond, ◌&&◌, List, [], ◌∷◌, None, Ok, Err, refl, ap, sym, subst, ◌∙◌}
use Rattle.std.proofs.lemmas.Bool.{and_parts}
use Rattle.lr_rules.specs.declared.fault.ConfKind.TheVariants as kind
use Rattle.lr_rules.specs.Limits.{can_be_log, is_literal_word, is_pattern_word, is_log_word}
use Rattle.lr_rules.specs.Match.{is_wildcard, literal_path}
use Rattle.lr_rules.specs.Path.{path_fault, kept_parts, or_root, cleaned, root}
use Rattle.lr_words.specs.Names.{names_path, names_log, names_pattern, kept_name, IsLogWord, literal_value, pattern_value, log_name_value}
use Rattle.lr_words.proofs.KeptNames.{path_of_kept, plain_kept}
use Rattle.lr_words.proofs.Paths.{absolute, cleaned_parts, is_path, path_text}
use Rattle.lr_words.proofs.Patterns.{pattern_meets}

log_path : (literal : List ℕ) → names_log literal ≡ true → (path_fault (kept_parts literal) ≡ None) × (can_be_log (kept_parts literal) ≡ true)
log_path literal h =
    let a = and_parts (names_path literal) (can_be_log (cleaned root literal)) h in
    let e = cleaned_parts literal (absolute literal a.0) in
    by (kept_parts literal) refl (sym (ap path_fault e) ∙ is_path literal a.0) (sym (ap can_be_log e) ∙ a.1)
  where
    by : (k : List ℕ) → kept_parts literal ≡ k → path_fault (or_root k) ≡ None → can_be_log (or_root k) ≡ true → (path_fault (kept_parts literal) ≡ None) × (can_be_log (kept_parts literal) ≡ true)
    by [] is f c = let none : false ≡ true = c in absurd (cc)
    by (x ∷ xs) is f c = (ap path_fault is ∙ f, ap can_be_log is ∙ c)

pub kept_names_log : (word : List ℕ) → is_wildcard word ≡ false → names_log (literal_path word) ≡ true → IsLogWord (kept_name word)
kept_names_log word plain h =
    let p = log_path (literal_path word) h in
    record {
      no_pattern = plain_kept word plain;
      path = ap path_fault (path_of_kept word) ∙ p.0;
      log = ap can_be_log (path_of_kept word) ∙ p.1;
    }

literal_meets : (name : List ℕ) → IsLogWord name → is_log_word name ≡ true
literal_meets name n =
    ap (λ b. cond b (is_pattern_word name) (is_literal_word name)) n.no_pattern
    ∙ ap (λ b. b && can_be_log (literal_path name)) (path_text (literal_path name) n.path)
    ∙ n.log

-- what a literal name gives
pub of_literal : (word name : List ℕ) → is_wildcard word ≡ false → log_name_value word ≡ Ok name → IsLogWord name
unfolding log_name_value
of_literal word name plain h = by (names_log (literal_path word)) refl (sym (ap (λ b. cond b (pattern_value word) (literal_value word)) plain) ∙ h)
  where
    by : (is : Bool) → names_log (literal_path word) ≡ is → cond is (Ok (kept_name word)) (Err kind.BadPath) ≡ Ok name → IsLogWord name
    by false at e = absurd (cc)
    by true at e = let same : kept_name word ≡ name = cc in subst IsLogWord same (kept_names_log word plain at)

-- a name of a log meets the limits of one
pub log_name_meets : (word name : List ℕ) → log_name_value word ≡ Ok name → is_log_word name ≡ true
unfolding log_name_value
log_name_meets word name h = by_kind (is_wildcard word) refl h
  where
    pattern : (is : Bool) → is_wildcard word ≡ true → names_pattern word ≡ is → cond is (Ok (cleaned root word)) (Err kind.BadPath) ≡ Ok name → is_log_word name ≡ true
    pattern false wild at e = absurd (cc)
    pattern true wild at e = let same : cleaned root word ≡ name = cc in ap is_log_word (sym same) ∙ pattern_meets word wild at

    by_kind : (wild : Bool) → is_wildcard word ≡ wild → cond wild (pattern_value word) (literal_value word) ≡ Ok name → is_log_word name ≡ true
    by_kind true is e = pattern (names_pattern word) is refl e
    by_kind false is e = literal_meets name (of_literal word name is (ap (λ b. cond b (pattern_value word) (literal_value word)) is ∙ e))
