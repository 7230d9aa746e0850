-- The looks and listings of words list a directory at most once for each wildcard.
use Rattle.std.proofs.Common.{◌≡◌, ◌≤◌, ◌+◌, ◌-◌, ℕ, zero, suc, take, Bool, true, false, cond, List, [], ◌∷◌, ◌++◌, length, map, reverse, Ok, Err, refl, sym, ap, ◌∙◌, subst, arith}
use Rattle.std.specs.Prelude.{filter}
use Rattle.std.specs.List.{flat_map}
use Rattle.std.proofs.lemmas.List.{length-append, reverse-append, reverse-reverse}
use Rattle.std.proofs.lemmas.List.Elements.{filter-append}
use Rattle.lr_rules.specs.declared.path.Path.{Path}
use Rattle.lr_rules.specs.declared.rule.Rule.{Rule}
use Rattle.lr_rules.specs.Match.{is_wildcard}
use Rattle.lr_host.specs.declared.entry.Entry.{Entry}
use Rattle.lr_host.specs.Told.{Made}
use Rattle.lr_host.specs.World.{Past}
use Rattle.lr_host.proofs.Made.{Cut, cut}
use Rattle.lr_glob.specs.Listings.{listings_of}
use Rattle.lr_glob.proofs.ListsOnce.{comes_once, stopped_once}
use Rattle.lr_looks.specs.Asked.{AskedWord, word_of, rule_words, words_from, asked_by}
use Rattle.lr_looks.specs.Sights.{WordSight, found_by, ShowsWord, ShowWords}
use Rattle.lr_laws_plan.specs.Listings.{wildcards_of}
use Rattle.lr_laws_plan.proofs.CountedListings.{count_none, count_joined, none_empty}
use Rattle.lr_laws_plan.proofs.LooksListNone.{literal_none}

-- how often a word may list a directory
abbrev once_if : Bool → ℕ
once_if true = 1
once_if false = 0

-- how many of the words are wildcards
abbrev wild_words : List AskedWord → ℕ
wild_words [] = 0
wild_words (w ∷ ws) = once_if (is_wildcard w.text) + wild_words ws

word_once : (p q : Past) (ts : List Entry) (w : AskedWord) (room : ℕ) (s : WordSight) (dir : Path) → Made p (reverse ts) q → ShowsWord w room s ts → listings_of dir ts ≤ once_if (is_wildcard w.text)
word_once p q ts w room s dir m h = go (is_wildcard w.text) refl
  where
    once : (r : WordSight) → s ≡ r → ShowsWord w room r (reverse (reverse ts)) → listings_of dir (reverse (reverse ts)) ≤ 1
    once (Ok found) e k = comes_once p q (reverse ts) w.text room (Ok found) m k dir
    once (Err why) e k = stopped_once p q (reverse ts) w.text room why m k dir

    go : (b : Bool) → is_wildcard w.text ≡ b → listings_of dir ts ≤ once_if b
    go true wild = subst (λ us. listings_of dir us ≤ 1) (reverse-reverse ts) (once s refl (subst (ShowsWord w room s) (sym (reverse-reverse ts)) h))
    go false plain = let n = count_none dir ts (literal_none w room s ts plain h) in omega (arith, n)

words_once : (p q : Past) (n : ℕ) (words : List AskedWord) (sights : List WordSight) (ts : List Entry) (dir : Path) → Made p (reverse ts) q → ShowWords n words sights ts → listings_of dir ts ≤ wild_words words
words_once p q n [] [] ts dir m h = let a = count_none dir ts (none_empty ts h) in omega (arith, a)
words_once p q n [] (s ∷ ss) ts dir m h = absurd h
words_once p q n (w ∷ ws) [] ts dir m h = absurd h
words_once p q n (w ∷ ws) (s ∷ ss) ts dir m h =
    let c : Cut p q (reverse h.back) (reverse h.front) = cut p q (reverse ts) (reverse h.back) (reverse h.front) (ap reverse h.joined ∙ reverse-append h.front h.back) m in
    let j = count_joined dir ts h.front h.back h.joined in
    let a = word_once p c.mid h.front w (16_384 - n) s dir c.first h.first in
    let b = words_once c.mid q (n + length (found_by w s)) ws ss h.back dir c.second h.second in
    omega (arith, j, a, b)

-- ---- the words of rules

wild_both : (xs ys : List AskedWord) → wild_words (xs ++ ys) ≡ wild_words xs + wild_words ys
wild_both [] ys = none_more (wild_words ys)
  where
    none_more : (k : ℕ) → k ≡ 0 + k
    none_more k = omega arith
wild_both (x ∷ xs) ys = let e = wild_both xs ys in omega (arith, e)

wild_of : (set : ℕ) (rule : Rule) (words : List (List ℕ)) → wild_words (map (word_of set rule) words) ≡ length (filter is_wildcard words)
wild_of set rule [] = refl
wild_of set rule (w ∷ ws) = go (is_wildcard w) (wild_of set rule ws)
  where
    go : (b : Bool) → wild_words (map (word_of set rule) ws) ≡ length (filter is_wildcard ws) → once_if b + wild_words (map (word_of set rule) ws) ≡ length (cond b (w ∷ filter is_wildcard ws) (filter is_wildcard ws))
    go true e = omega (arith, e)
    go false e = omega (arith, e)

wild_from : (k : ℕ) (rules : List Rule) → wild_words (words_from k rules) ≡ wildcards_of rules
wild_from k [] = refl
wild_from k (rule ∷ rules) =
    let a = wild_both (rule_words k rule) (words_from (k + 1) rules) in
    let b = wild_of k rule rule.words in
    let c = wild_from (k + 1) rules in
    let d : wildcards_of (rule ∷ rules) ≡ length (filter is_wildcard rule.words) + wildcards_of rules =
    ap (λ (ws : List (List ℕ)). length ws) (filter-append is_wildcard rule.words (flat_map (λ (r : Rule). r.words) rules)) ∙ length-append (filter is_wildcard rule.words) (filter is_wildcard (flat_map (λ (r : Rule). r.words) rules)) in
    omega (arith, a, b, c, d)

pub asked_once : (p q : Past) (rules : List Rule) (sights : List WordSight) (ts : List Entry) (dir : Path) → Made p (reverse ts) q → ShowWords 0 (asked_by rules) sights ts → listings_of dir ts ≤ wildcards_of rules
asked_once p q rules sights ts dir m h = let a = words_once p q 0 (asked_by rules) sights ts dir m h in let b = wild_from 0 rules in omega (arith, a, b)

-- a first part of the words has no more wildcards
wild_take : (k : ℕ) (words : List AskedWord) → wild_words (take k words) ≤ wild_words words
wild_take k [] = go k
  where
    go : (n : ℕ) → wild_words (take n []) ≤ 0
    go zero = omega arith
    go (suc n) = omega arith
wild_take zero (w ∷ ws) = omega arith
wild_take (suc k) (w ∷ ws) = let a = wild_take k ws in omega (arith, a)

pub some_asked_once : (p q : Past) (rules : List Rule) (k : ℕ) (sights : List WordSight) (ts : List Entry) (dir : Path) → Made p (reverse ts) q → ShowWords 0 (take k (asked_by rules)) sights ts → listings_of dir ts ≤ wildcards_of rules
some_asked_once p q rules k sights ts dir m h = let a = words_once p q 0 (take k (asked_by rules)) sights ts dir m h in let b = wild_from 0 rules in let c = wild_take k (asked_by rules) in omega (arith, a, b, c)
