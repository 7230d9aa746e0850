-- What holds of the logs that words give, and so of those of them that are found and kept.
use Rattle.std.proofs.Common.{◌≡◌, ◌≤◌, ◌<◌, ◌+◌, ℕ, Bool, true, false, cond, List, [], ◌∷◌, ◌++◌, length, map, Ok, Err, sym, subst, arith}
use Rattle.std.specs.List.{flat_map}
use Rattle.std.proofs.lemmas.List.Elements.{All-head, All-tail}
use Rattle.lr_rules.specs.declared.path.Path.{Path}
use Rattle.lr_rules.specs.declared.rule.Rule.{Rule}
use Rattle.lr_rules.specs.declared.fault.Fault.{Fault}
use Rattle.lr_host.specs.Listing.{is_file_kind}
use Rattle.lr_kept.specs.declared.choice.Choice.{Choice}
use Rattle.lr_kept.specs.declared.choice.Choice.TheVariants.{Kept, Again, MemberOf, Reserved, Meets}
use Rattle.lr_glob.specs.declared.found.Found.{Found as Match}
use Rattle.lr_looks.specs.Asked.{AskedWord, word_of, rule_words, words_from, asked_by, CanAsk, CanAskAll}
use Rattle.lr_looks.specs.Choices.{kept_of, where_file, KeepsLogs}
use Rattle.lr_looks.specs.Found.{FoundLog, HasBounds, HasLogPath, HaveBounds, HaveLogPaths, Hold}
use Rattle.lr_looks.specs.Internal.{AreOf}
use Rattle.lr_looks.proofs.Kindred.{start_fine, format_fine}
use Rattle.lr_looks.specs.Sights.{WordSight, found_at, found_of, AreFoundOf}

-- P holds of each log that one of these words can give
abbrev HoldsOf : (FoundLog → Type 0) → List AskedWord → Type 0
HoldsOf P [] = Unit {0}
HoldsOf P (w ∷ ws) = ((m : Match) → P (found_at w m)) × HoldsOf P ws

of_both : (P : FoundLog → Type 0) (xs ys : List AskedWord) → HoldsOf P xs → HoldsOf P ys → HoldsOf P (xs ++ ys)
of_both P [] ys h g = g
of_both P (x ∷ xs) ys h g = (h.0, of_both P xs ys h.1 g)

hold_both : (P : FoundLog → Type 0) (xs ys : List FoundLog) → Hold P xs → Hold P ys → Hold P (xs ++ ys)
hold_both P [] ys h g = g
hold_both P (x ∷ xs) ys h g = (h.0, hold_both P xs ys h.1 g)

hold_each : (P : FoundLog → Type 0) (w : AskedWord) (matches : List Match) → ((m : Match) → P (found_at w m)) → Hold P (map (found_at w) matches)
hold_each P w [] h = tt
hold_each P w (m ∷ ms) h = (h m, hold_each P w ms h)

found_hold : (P : FoundLog → Type 0) (words : List AskedWord) (sights : List WordSight) → HoldsOf P words → Hold P (found_of words sights)
found_hold P [] [] h = tt
found_hold P [] (s ∷ ss) h = tt
found_hold P (w ∷ ws) [] h = tt
found_hold P (w ∷ ws) (Ok matches ∷ ss) h = hold_both P (map (found_at w) matches) (found_of ws ss) (hold_each P w matches h.0) (found_hold P ws ss h.1)
found_hold P (w ∷ ws) (Err why ∷ ss) h = found_hold P ws ss h.1

kept_hold : (P : FoundLog → Type 0) (found : List FoundLog) (choices : List Choice) → Hold P found → Hold P (kept_of found choices)
kept_hold P [] [] h = tt
kept_hold P [] (c ∷ cs) h = tt
kept_hold P (f ∷ fs) [] h = tt
kept_hold P (f ∷ fs) (Kept ∷ cs) h = (h.0, kept_hold P fs cs h.1)
kept_hold P (f ∷ fs) (Again i ∷ cs) h = kept_hold P fs cs h.1
kept_hold P (f ∷ fs) (MemberOf i ∷ cs) h = kept_hold P fs cs h.1
kept_hold P (f ∷ fs) (Reserved i ∷ cs) h = kept_hold P fs cs h.1
kept_hold P (f ∷ fs) (Meets i ∷ cs) h = kept_hold P fs cs h.1

file_holds : (P : FoundLog → Type 0) (f : FoundLog) (b : Bool) → P f → Hold P (cond b (f ∷ []) [])
file_holds P f true p = (p, tt)
file_holds P f false p = tt

files_hold : (P : FoundLog → Type 0) (found : List FoundLog) → Hold P found → Hold P (flat_map where_file found)
files_hold P [] h = tt
files_hold P (f ∷ fs) h = hold_both P (where_file f) (flat_map where_file fs) (file_holds P f (is_file_kind f.seen.kind) h.0) (files_hold P fs h.1)

-- ---- the words of rules

-- what holds of each log of a rule's, whatever word gives it
of_words : (P : FoundLog → Type 0) (set : ℕ) (rule : Rule) (words : List (List ℕ)) → ((word : List ℕ) (m : Match) → P (found_at (word_of set rule word) m)) → HoldsOf P (map (word_of set rule) words)
of_words P set rule [] h = tt
of_words P set rule (word ∷ words) h = (h word, of_words P set rule words h)

bounds_from : (k : ℕ) (rules : List Rule) → CanAskAll rules → HoldsOf HasBounds (words_from k rules)
bounds_from k [] can = tt
bounds_from k (rule ∷ rules) can = of_both HasBounds (rule_words k rule) (words_from (k + 1) rules)
    (of_words HasBounds k rule rule.words (λ word m. record { start = start_fine rule (All-head CanAsk rule rules can); format = format_fine rule (All-head CanAsk rule rules can) })) (bounds_from (k + 1) rules (All-tail CanAsk rule rules can))

within_from : (k n : ℕ) (rules : List Rule) → k + length rules ≤ n → HoldsOf (λ f. f.log.set < n) (words_from k rules)
within_from k n [] le = tt
within_from k n (rule ∷ rules) le = of_both (λ f. f.log.set < n) (rule_words k rule) (words_from (k + 1) rules) (of_words (λ f. f.log.set < n) k rule rule.words (λ word m. omega (arith, le))) (within_from (k + 1) n rules (omega (arith, le)))

-- ---- those that are found and kept

still_hold : {reserved : List Path} (P : FoundLog → Type 0) (found kept : List FoundLog) (c d : List Fault) → Hold P found → KeepsLogs reserved found c d kept → Hold P kept
still_hold P found kept c d h k = subst (Hold P) (sym k.left_are) (files_hold P (kept_of found k.choices) (kept_hold P found k.choices h))

kept_is : {reserved : List Path} (P : FoundLog → Type 0) (words : List AskedWord) (found kept : List FoundLog) (c d : List Fault) → HoldsOf P words → AreFoundOf words found → KeepsLogs reserved found c d kept → Hold P kept
kept_is P words found kept c d h l k = still_hold P found kept c d (subst (Hold P) (sym l.found_are) (found_hold P words l.sights h)) k

pub kept_paths : {reserved : List Path} (found kept : List FoundLog) (c d : List Fault) → HaveLogPaths found → KeepsLogs reserved found c d kept → HaveLogPaths kept
kept_paths found kept c d h k = still_hold HasLogPath found kept c d h k

pub kept_bounds : {reserved : List Path} (rules : List Rule) (found kept : List FoundLog) (c d : List Fault) → CanAskAll rules → AreFoundOf (asked_by rules) found → KeepsLogs reserved found c d kept → HaveBounds kept
kept_bounds rules found kept c d can l k = kept_is HasBounds (asked_by rules) found kept c d (bounds_from 0 rules can) l k

pub kept_within : {reserved : List Path} (rules : List Rule) (n : ℕ) (found kept : List FoundLog) (c d : List Fault) → length rules ≡ n → AreFoundOf (asked_by rules) found → KeepsLogs reserved found c d kept → AreOf n kept
kept_within rules n found kept c d many l k = kept_is (λ f. f.log.set < n) (asked_by rules) found kept c d (within_from 0 n rules (omega (arith, many))) l k
