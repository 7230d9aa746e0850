-- All looks of a run show one thing alone.
use Rattle.std.proofs.Common.{◌≡◌, ℕ, ◌+◌, true, List, [], ◌∷◌, ◌++◌, length, sym, ap, ◌∙◌, subst, arith}
use Rattle.std.specs.List.{flat_map, list_all}
use Rattle.lr_rules.specs.Limits.{meets_limits}
use Rattle.lr_rules.specs.declared.path.Path.{Path}
use Rattle.lr_rules.specs.declared.fault.Fault.{Fault}
use Rattle.lr_rules.specs.declared.rule.Rule.{Rule}
use Rattle.lr_host.specs.declared.entry.Entry.{Entry}
use Rattle.lr_plan.specs.declared.looks.SetLooks.{SetLooks}
use Rattle.lr_host.specs.Counted.{calls_in}
use Rattle.lr_looks.specs.Asked.{asked_by}
use Rattle.lr_looks.specs.Choices.{choice_faults, kind_fault, kept_of, where_file, KeepsLogs}
use Rattle.lr_looks.specs.Families.{LookedLog, ShowFamilies, family_faults, looked_of}
use Rattle.lr_looks.specs.Found.{FoundLog, paths_of}
use Rattle.lr_looks.specs.Sets.{HaveLooksFrom}
use Rattle.lr_looks.specs.Shown.{ShowsLooks}
use Rattle.lr_looks.specs.Sights.{all_sight_faults, found_of}
use Rattle.lr_looks.proofs.Holding.{kept_bounds}
use Rattle.lr_looks.proofs.Built.{asks_all}
use Rattle.lr_run.proofs.Called.{none_before, none_behind}
use Rattle.lr_laws_fixed.specs.Alike.{AreAlikeFrom, AreAlike}
use Rattle.lr_laws_fixed.proofs.Families.{families_one}
use Rattle.lr_laws_fixed.proofs.Kept.{choices_one}
use Rattle.lr_laws_fixed.proofs.Listings.{none_alike}
use Rattle.lr_laws_fixed.proofs.LiteralPaths.{have_paths}
use Rattle.lr_laws_fixed.proofs.Peeled.{then_same, joined_same}
use Rattle.lr_laws_fixed.proofs.Words.{OneWords, words_one}

-- ---- what is kept of the same logs

-- What two choices among the same logs come to.
record OneKept (faults more : List Fault) (kept others : List FoundLog) : Type 0 where
  faults_are : faults ≡ more
  kept_are : kept ≡ others

-- the same logs, so the same are kept, and the same faults are added
kept_one : (reserved : List Path) (found others : List FoundLog) (a a' b b' : List Fault) (kept kept' : List FoundLog) → found ≡ others → a ≡ a' → KeepsLogs reserved found a b kept → KeepsLogs reserved others a' b' kept' → OneKept b b' kept kept'
kept_one reserved found others a a' b b' kept kept' e f h g = go (subst (λ l. KeepsLogs reserved l a' b' kept') (sym e) g)
  where
    go : KeepsLogs reserved found a' b' kept' → OneKept b b' kept kept'
    go k = record {
      faults_are = h.faults_are ∙ (ap (λ l. l ++ (choice_faults reserved found found h.choices ++ flat_map kind_fault (kept_of found h.choices))) f ∙ (ap (λ cs. a' ++ (choice_faults reserved found found cs ++ flat_map kind_fault (kept_of found cs))) one ∙ sym k.faults_are));
      kept_are = h.left_are ∙ (ap (λ cs. flat_map where_file (kept_of found cs)) one ∙ sym k.left_are);
    }
      where
        one : h.choices ≡ k.choices
        one = choices_one reserved found h.choices k.choices h.chosen k.chosen

-- ---- the logs by definitions

-- definitions that have the same logs are alike
sets_alike : (set : ℕ) (logs : List LookedLog) (sets others : List SetLooks) → length sets ≡ length others → HaveLooksFrom set logs sets → HaveLooksFrom set logs others → AreAlikeFrom set sets others
sets_alike set logs [] [] n h g = tt
sets_alike set logs [] (y ∷ ys) n h g = absurd (omega (arith, n))
sets_alike set logs (x ∷ xs) [] n h g = absurd (omega (arith, n))
sets_alike set logs (x ∷ xs) (y ∷ ys) n h g = (h.0 ∙ sym g.0, sets_alike (set + 1) logs xs ys (omega (arith, n)) h.1 g.1)

-- ---- whole

module _ (reserved : List Path) (rules : List Rule) (sets others : List SetLooks) (faults more : List Fault) (ts us vs ws : List Entry) (h : ShowsLooks reserved rules sets faults ts) (g : ShowsLooks reserved rules others more us)
    (e : ts ++ vs ≡ us ++ ws) (c : calls_in faults ≡ 0) (d : calls_in more ≡ 0) (limits : list_all meets_limits rules ≡ true) where
  -- no call failed for a word
  no_call_h : calls_in h.of_words ≡ 0
  no_call_h = none_before h.of_kept h.of_words _ h.keeps.faults_are (none_before faults h.of_kept _ h.entries.second.families.faults_are c)

  -- in neither
  no_call_g : calls_in g.of_words ≡ 0
  no_call_g = none_before g.of_kept g.of_words _ g.keeps.faults_are (none_before more g.of_kept _ g.entries.second.families.faults_are d)

  -- the same entries, part by part
  parts : h.entries.front ++ (h.entries.back ++ vs) ≡ g.entries.front ++ (g.entries.back ++ ws)
  parts = then_same ts us vs ws h.entries g.entries e

  -- what the words came to is the same
  words : OneWords h.entries.first.sights g.entries.first.sights h.entries.front g.entries.front (h.entries.back ++ vs) (g.entries.back ++ ws)
  words = words_one 0 (asked_by rules) h.entries.first.sights g.entries.first.sights h.entries.front g.entries.front (h.entries.back ++ vs) (g.entries.back ++ ws) (have_paths rules limits h.texts) h.entries.first.had_memory g.entries.first.had_memory
      (subst (λ fs. calls_in fs ≡ 0) h.entries.first.faults_are no_call_h) (subst (λ fs. calls_in fs ≡ 0) g.entries.first.faults_are no_call_g) h.entries.first.shown g.entries.first.shown parts

  -- and the logs that are kept
  kept_is : OneKept h.of_kept g.of_kept h.kept g.kept
  kept_is = kept_one reserved h.found g.found h.of_words g.of_words h.of_kept g.of_kept h.kept g.kept
      (h.entries.first.found_are ∙ (ap (found_of (asked_by rules)) words.sights_are ∙ sym g.entries.first.found_are))
      (h.entries.first.faults_are ∙ (ap (all_sight_faults (asked_by rules)) words.sights_are ∙ sym g.entries.first.faults_are)) h.keeps g.keeps

  -- the looks at the families are the same, and so are their entries
  families : (h.entries.second.families.sights ≡ g.entries.second.families.sights) × (h.entries.back ≡ g.entries.back) × (vs ≡ ws)
  families = families_one h.kept (kept_bounds rules h.found h.kept h.of_words h.of_kept (asks_all rules limits) (record { sights = h.entries.first.sights; found_are = h.entries.first.found_are }) h.keeps) [] [] h.entries.second.listings g.entries.second.listings h.entries.second.families.sights g.entries.second.families.sights h.entries.back g.entries.back vs ws none_alike h.entries.second.families.had_memory g.entries.second.families.had_memory
      (none_behind faults h.of_kept _ h.entries.second.families.faults_are c) (none_behind more g.of_kept _ g.entries.second.families.faults_are d) h.entries.second.families.shown
      (subst (λ logs. ShowFamilies [] logs g.entries.second.listings g.entries.second.families.sights g.entries.back) (sym kept_is.kept_are) g.entries.second.families.shown) words.rest_is

  -- the faults
  faults_is : faults ≡ more
  faults_is = h.entries.second.families.faults_are ∙ (ap (λ fs. fs ++ family_faults h.entries.second.families.sights) kept_is.faults_are ∙ (ap (λ ss. g.of_kept ++ family_faults ss) families.0 ∙ sym g.entries.second.families.faults_are))

  -- the logs that were looked at whole
  looked_is : h.looked ≡ g.looked
  looked_is = h.entries.second.families.looked_are ∙ (ap (λ logs. looked_of logs h.entries.second.families.sights) kept_is.kept_are ∙ (ap (looked_of g.kept) families.0 ∙ sym g.entries.second.families.looked_are))

  -- all logs that are kept
  pub kept_paths : paths_of h.kept ≡ paths_of g.kept
  kept_paths = ap paths_of kept_is.kept_are

  -- what comes behind the looks
  pub behind_looks : vs ≡ ws
  behind_looks = families.2

  -- the looks, their faults and the logs that were looked at whole
  pub looks_one : (ts ≡ us) × (faults ≡ more) × AreAlike sets others
  looks_one = (joined_same ts us h.entries g.entries words.looks_are families.1, faults_is, sets_alike 0 h.looked sets others (h.many ∙ sym g.many) h.by_sets (subst (λ logs. HaveLooksFrom 0 logs others) (sym looked_is) g.by_sets))
