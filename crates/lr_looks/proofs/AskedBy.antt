-- The words of rules, one behind another.
use Rattle.std.proofs.Common.{◌≡◌, ◌<◌, ◌+◌, ℕ, zero, suc, List, [], ◌∷◌, ◌++◌, length, map, take, get_or, sym, ap, ◌∙◌, subst, arith, append_assoc}
use Rattle.std.proofs.lemmas.List.{append-nil, map-append, take_more}
use Rattle.lr_rules.specs.declared.rule.Rule.{Rule}
use Rattle.lr_host.proofs.Counts.{none_more}
use Rattle.lr_looks.specs.Asked.{AskedWord, word_of, rule_words, words_from, asked_by}

plus_none : (n : ℕ) → n ≡ n + 0
plus_none n = omega arith

moved : (a b : ℕ) → a + 1 + b ≡ a + suc b
moved a b = omega arith

-- ---- the words of one rule

pub words_more : (set : ℕ) (rule : Rule) (words : List (List ℕ)) (at : ℕ) (word : List ℕ) → at < length words → word ≡ get_or words at word
    → map (word_of set rule) (take (at + 1) words) ≡ map (word_of set rule) (take at words) ++ word_of set rule word ∷ []
words_more set rule words at word lt e =
    ap (map (word_of set rule)) (take_more words at word lt)
    ∙ (map-append (word_of set rule) (take at words) (get_or words at word ∷ [])
    ∙ ap (λ (x : List ℕ). map (word_of set rule) (take at words) ++ word_of set rule x ∷ []) (sym e))

-- what stands before a word, the word, and what stands behind it
pub record IsPart (all before part : List AskedWord) : Type 0 where
  pub behind : List AskedWord
  pub joined : all ≡ before ++ (part ++ behind)

pub words_part : (set : ℕ) (rule : Rule) (words : List (List ℕ)) (at : ℕ) (word : List ℕ) → at < length words → word ≡ get_or words at word
    → IsPart (map (word_of set rule) words) (map (word_of set rule) (take at words)) (word_of set rule word ∷ [])
words_part set rule [] at word lt e = absurd (omega (arith, lt))
words_part set rule (x ∷ words) zero word lt e = record { behind = map (word_of set rule) words; joined = ap (λ (y : List ℕ). word_of set rule y ∷ map (word_of set rule) words) (sym e) }
words_part set rule (x ∷ words) (suc at) word lt e =
    let r = words_part set rule words at word (omega (arith, lt)) e in
    record { behind = r.behind; joined = ap (λ (ws : List AskedWord). word_of set rule x ∷ ws) r.joined }

-- ---- the words of all rules

from_step : (k : ℕ) (rules : List Rule) (at : ℕ) (rule : Rule) → at < length rules → rule ≡ get_or rules at rule → words_from k (take (suc at) rules) ≡ words_from k (take at rules) ++ rule_words (k + at) rule
from_step k [] at rule lt e = absurd (omega (arith, lt))
from_step k (r ∷ rules) zero rule lt e = append-nil (rule_words k r) ∙ (ap (λ (q : Rule). rule_words k q) (sym e) ∙ ap (λ n. rule_words n rule) (plus_none k))
from_step k (r ∷ rules) (suc at) rule lt e =
    ap (λ xs. rule_words k r ++ xs) (from_step (k + 1) rules at rule (omega (arith, lt)) e ∙ ap (λ n. words_from (k + 1) (take at rules) ++ rule_words n rule) (moved k at))
    ∙ sym (append_assoc (rule_words k r) (words_from (k + 1) (take at rules)) (rule_words (k + suc at) rule))

pub asked_more : (rules : List Rule) (at : ℕ) (rule : Rule) → at < length rules → rule ≡ get_or rules at rule → asked_by (take (at + 1) rules) ≡ asked_by (take at rules) ++ rule_words at rule
asked_more rules at rule lt e = subst (λ n. asked_by (take n rules) ≡ asked_by (take at rules) ++ rule_words at rule) (next at) (from_step 0 rules at rule lt e ∙ ap (λ n. asked_by (take at rules) ++ rule_words n rule) (none_more at))
  where
    next : (n : ℕ) → suc n ≡ n + 1
    next n = omega arith

from_part : (k : ℕ) (rules : List Rule) (at : ℕ) (rule : Rule) → at < length rules → rule ≡ get_or rules at rule → IsPart (words_from k rules) (words_from k (take at rules)) (rule_words (k + at) rule)
from_part k [] at rule lt e = absurd (omega (arith, lt))
from_part k (r ∷ rules) zero rule lt e = record {
  behind = words_from (k + 1) rules;
  joined = ap (λ (q : Rule). rule_words k q ++ words_from (k + 1) rules) (sym e) ∙ ap (λ n. rule_words n rule ++ words_from (k + 1) rules) (plus_none k);
}
from_part k (r ∷ rules) (suc at) rule lt e =
    let p = from_part (k + 1) rules at rule (omega (arith, lt)) e in
    record {
      behind = p.behind;
      joined =
          ap (λ xs. rule_words k r ++ xs) (p.joined ∙ ap (λ n. words_from (k + 1) (take at rules) ++ (rule_words n rule ++ p.behind)) (moved k at))
          ∙ sym (append_assoc (rule_words k r) (words_from (k + 1) (take at rules)) (rule_words (k + suc at) rule ++ p.behind));
    }

pub asked_part : (rules : List Rule) (at : ℕ) (rule : Rule) → at < length rules → rule ≡ get_or rules at rule → IsPart (asked_by rules) (asked_by (take at rules)) (rule_words at rule)
asked_part rules at rule lt e = subst (λ n. IsPart (asked_by rules) (asked_by (take at rules)) (rule_words n rule)) (none_more at) (from_part 0 rules at rule lt e)
