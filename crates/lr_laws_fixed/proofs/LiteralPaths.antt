-- A literal word of rules that meet their limits is a path, without the backslashes that escape.
use Rattle.std.proofs.Common.{◌≡◌, ⊎_elim, ℕ, ◌+◌, ◌≤◌, Bool, true, false, cond, not, nat_lt, nat_le, ◌&&◌, List, [], ◌∷◌, Some, None, length, refl, subst, arith}
use Rattle.std.specs.Prelude.{IsUtf8}
use Rattle.std.specs.List.{list_all}
use Rattle.std.specs.Str.{is_utf8}
use Rattle.std.proofs.lemmas.Bool.{and_parts}
use Rattle.std.proofs.lemmas.Bool.Decides.{nat_tests}
use Rattle.std.proofs.lemmas.Str.{is_utf8-from_IsUtf8}
use Rattle.lr_rules.specs.declared.path.PathFault.TheVariants as fault
use Rattle.lr_rules.specs.declared.rule.Rule.{Rule}
use Rattle.lr_rules.specs.Limits.{meets_limits, is_log_word, is_pattern_word, is_literal_word, is_path_text, can_be_log}
use Rattle.lr_rules.specs.Match.{is_wildcard, literal_path}
use Rattle.lr_rules.specs.Path.{path_fault, is_absolute, has_bad_byte, has_empty_part, has_dot_part}
use Rattle.lr_host.specs.Lists.{IsIn}
use Rattle.lr_host.proofs.Lists.{in_unmap, in_append}
use Rattle.lr_glob.proofs.Literals.{literal_utf8}
use Rattle.lr_looks.specs.Asked.{AskedWord, word_of, rule_words, words_from, asked_by, AreTexts}
use Rattle.lr_laws_looks.proofs.Gives.{all_in, text_in}

-- ---- a path

-- a text of a path, that isn't too long, is a path
path_valid : (x : List ℕ) → IsUtf8 x → is_path_text x ≡ true → nat_lt 4096 (length x) ≡ false → path_fault x ≡ None
unfolding path_fault
path_valid x text h size = by (is_utf8 x) (has_bad_byte x) (nat_lt 4096 (length x)) (is_absolute x) (has_empty_part x) (has_dot_part x) (is_utf8-from_IsUtf8 x text) size h
  where
    by : (utf8 bad long absolute empty dot : Bool) → utf8 ≡ true → long ≡ false → (not bad && (absolute && (not empty && not dot))) ≡ true
        → cond (not utf8) (Some fault.NotUtf8) (cond bad (Some fault.BadByte) (cond long (Some fault.TooLong) (cond (not absolute) (Some fault.Relative) (cond empty (Some fault.EmptyPart) (cond dot (Some fault.DotPart) None))))) ≡ None
    by false bad long absolute empty dot u l h = absurd (cc)
    by true true long absolute empty dot u l h = absurd (cc)
    by true false true absolute empty dot u l h = absurd (cc)
    by true false false false empty dot u l h = absurd (cc)
    by true false false true true dot u l h = absurd (cc)
    by true false false true false true u l h = absurd (cc)
    by true false false true false false u l h = refl

not_long : (n : ℕ) → nat_le n 2048 ≡ true → nat_lt 4096 n ≡ false
not_long n h = let le : n ≤ 2048 = grind (arith, nat_tests, h) in grind (arith, nat_tests, le)

literal_valid : (word : List ℕ) → IsUtf8 word → is_log_word word ≡ true → is_wildcard word ≡ false → path_fault (literal_path word) ≡ None
literal_valid word text h literal =
    let its : is_literal_word word ≡ true = subst (λ b. cond b (is_pattern_word word) (is_literal_word word) ≡ true) literal h in
    let p = and_parts (is_path_text (literal_path word)) (can_be_log (literal_path word)) its in
    path_valid (literal_path word) (literal_utf8 word text) p.0 (not_long (length (literal_path word)) (and_parts (nat_le (length (literal_path word)) 2048) _ p.1).0)

-- ---- the words of rules

-- the literal ones of these words are paths
abbrev pub HavePaths : List AskedWord → Type 0
HavePaths words = (w : AskedWord) → IsIn w words → is_wildcard w.text ≡ false → path_fault (literal_path w.text) ≡ None

meets_from : (k : ℕ) (rules : List Rule) → list_all meets_limits rules ≡ true → (w : AskedWord) → IsIn w (words_from k rules) → is_log_word w.text ≡ true
meets_from k [] limits w i = absurd i
meets_from k (rule ∷ rules) limits w i = ⊎_elim own (λ (j : IsIn w (words_from (k + 1) rules)). meets_from (k + 1) rules both.1 w j) (in_append w (rule_words k rule) (words_from (k + 1) rules) i)
  where
    both : (meets_limits rule ≡ true) × (list_all meets_limits rules ≡ true)
    both = and_parts (meets_limits rule) (list_all meets_limits rules) limits

    own : IsIn w (rule_words k rule) → is_log_word w.text ≡ true
    own j =
        let r = in_unmap (word_of k rule) w rule.words j in
        subst (λ (v : AskedWord). is_log_word v.text ≡ true) r.2 (all_in is_log_word rule.words r.0 (and_parts (list_all is_log_word rule.words) _ both.0).0 r.1)

pub have_paths : (rules : List Rule) → list_all meets_limits rules ≡ true → AreTexts (asked_by rules) → HavePaths (asked_by rules)
have_paths rules limits texts w i literal = literal_valid w.text (text_in (asked_by rules) w texts i) (meets_from 0 rules limits w i) literal
