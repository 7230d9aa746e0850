-- No fault of the looks is one that ends a run, and a directory that a plan lacks was missed by one of them.
use Rattle.std.proofs.Common.{◌≡◌, ◌≢◌, inl, inr, ◌+◌, ℕ, Bool, true, false, List, [], ◌∷◌, ◌++◌, Some, None, refl, sym, ap, ◌∙◌, subst}
use Rattle.std.specs.Prelude.{codes}
use Rattle.std.specs.List.{flat_map, AllByRecursion}
use Rattle.lr_rules.specs.declared.fault.Fault.{Fault}
use Rattle.lr_rules.specs.declared.path.Path.{Path}
use Rattle.lr_rules.specs.declared.rule.Rule.{Rule}
use Rattle.lr_rules.specs.Names.{set_aside, aside_path, IsName}
use Rattle.lr_rules.specs.Path.{parent_of}
use Rattle.lr_host.specs.declared.thing.Seen.{Seen}
use Rattle.lr_host.specs.declared.entry.Entry.{Entry}
use Rattle.lr_host.specs.declared.entry.Entry.TheVariants as entry
use Rattle.lr_host.specs.Lists.{IsIn}
use Rattle.lr_host.proofs.Lists.{in_back, in_map}
use Rattle.lr_plan.specs.declared.looks.LogLook.{LogLook}
use Rattle.lr_plan.specs.declared.looks.SetLooks.{SetLooks}
use Rattle.lr_looks.specs.declared.standing.Standing.{Standing}
use Rattle.lr_looks.specs.Asked.{asked_by}
use Rattle.lr_looks.specs.Choices.{choice_faults, kind_fault, kept_of}
use Rattle.lr_looks.specs.Families.{LookedLog, looked_at, looked_of, family_faults}
use Rattle.lr_looks.specs.Found.{FoundLog, Hold}
use Rattle.lr_looks.specs.Sets.{looked_in, HaveLooksFrom}
use Rattle.lr_looks.specs.Shown.{ShowsLooks}
use Rattle.lr_looks.specs.Reserved.{reserved_by}
use Rattle.lr_laws_looks.proofs.Aside.{SawAside, all_aside as aside_seen}
use Rattle.lr_laws_looks.proofs.Coming.{in_looked, in_set}
use Rattle.lr_laws_looks.proofs.Free.{IsFreeLog, kept_free}
use Rattle.lr_laws_looks.proofs.Kept.{kept_has_none}
use Rattle.lr_laws_plan.specs.Ending.{NoneEnds}
use Rattle.lr_laws_plan.proofs.ReachedActs.{AreAside}
use Rattle.lr_laws_plan.proofs.Ends.{none_both}
use Rattle.lr_laws_plan.proofs.Families.{families_none}
use Rattle.lr_laws_plan.proofs.Gone.{IsGone, all_gone}
use Rattle.lr_laws_plan.proofs.Kept.{files_hold, choices_none, kinds_none}
use Rattle.lr_laws_plan.proofs.ReachedPlanned.{IsOffState, AllOffState, NoneMissed}
use Rattle.lr_laws_plan.proofs.Words.{words_none}

-- ---- a log of the plan was looked at whole

was_looked : (k : ℕ) (logs : List LookedLog) (sets : List SetLooks) (set : SetLooks) (look : LogLook) → HaveLooksFrom k logs sets → IsIn set sets → IsIn look set.logs → (n : ℕ) × IsIn (looked_in n look) logs
was_looked k logs [] set look h at i = absurd at
was_looked k logs (s ∷ ss) set look h (inl e) i = (k, in_set k logs (looked_in k look) (subst (IsIn (looked_in k look)) h.0 (in_map (looked_in k) look s.logs (subst (λ (x : SetLooks). IsIn look x.logs) (sym e) i))))
was_looked k logs (s ∷ ss) set look h (inr at) i = was_looked (k + 1) logs ss set look h.1 at i

-- ---- the looks

module _ (state : Path) (rules : List Rule) (sets : List SetLooks) (faults : List Fault) (ts : List Entry) (s : ShowsLooks (reserved_by state) rules sets faults ts) where
  -- a directory that isn't there was missed by a look
  missed_gone : (set : SetLooks) (look : LogLook) → IsIn set sets → IsIn look set.logs → look.stand.there ≡ false → IsGone ts look.family.naming.dir
  missed_gone set look at i there =
      let w = was_looked 0 s.looked sets set look s.by_sets at i in
      subst (λ (us : List Entry). IsGone us look.family.naming.dir) (sym s.entries.joined) (in_back (entry.Look look.family.naming.dir None) s.entries.front s.entries.back
      (all_gone s.kept s.entries.second.listings s.entries.second.families.sights s.entries.back s.entries.second.families.shown (looked_in w.0 look)
      (subst (IsIn (looked_in w.0 look)) s.entries.second.families.looked_are w.1) there))

  -- ---- a log of the plan, whose names are none that the run reserves

  module _ (set : SetLooks) (look : LogLook) (at : IsIn set sets) (i : IsIn look set.logs) where
    w : (n : ℕ) × IsIn (looked_in n look) s.looked
    w = was_looked 0 s.looked sets set look s.by_sets at i

    among : IsIn (looked_in w.0 look) (looked_of s.kept s.entries.second.families.sights)
    among = subst (IsIn (looked_in w.0 look)) s.entries.second.families.looked_are w.1

    f : (f : FoundLog) × IsIn f s.kept × ((t : Standing) × (looked_in w.0 look ≡ looked_at f t.stand t.tmp))
    f = in_looked s.kept s.entries.second.families.sights (looked_in w.0 look) among

    none : IsFreeLog (reserved_by state) f.0
    none = kept_has_none rules sets faults ts s f.0 f.1

    name : {path : Path} → look.family.naming.dir ≡ path → path ≡ f.0.log.naming.dir
    name e = sym e ∙ ap (λ (x : LookedLog). x.naming.dir) f.2.1

    -- its family's directory is aside of the state
    dir_aside : (look.family.naming.dir ≢ state) × (look.family.naming.dir ≢ state ++ codes ".tmp")
    dir_aside = ((λ e. none state (inl refl) (inr (name e))), (λ e. none (state ++ codes ".tmp") (inr (inl refl)) (inr (name e))))

    -- where something was seen at the path to which it is set aside, that is one of its names
    beside_named : (seen : Seen) → look.tmp ≡ Some seen → {path : Path} → aside_path look.path ≡ path → IsName f.0.log.path f.0.log.naming path
    beside_named seen is e = inl (set_aside (ap (λ (x : LookedLog). x.naming.aside) (sym f.2.1) ∙ on look.family.naming.aside refl saw) (sym e ∙ ap (λ (x : LookedLog). aside_path x.path) f.2.1))
      where
        saw : SawAside look.family.naming.aside look.path look.tmp s.entries.back
        saw = aside_seen s.entries.back [] s.kept s.entries.second.listings s.entries.second.families.sights s.entries.back (λ e j. j) s.entries.second.families.shown (looked_in w.0 look) among

        on : (b : Bool) → look.family.naming.aside ≡ b → SawAside b look.path look.tmp s.entries.back → look.family.naming.aside ≡ true
        on true e h = e
        on false e h = absurd (let both : Some seen ≡ None = sym is ∙ h in cc)

    off : IsOffState state look
    off = λ seen is. (
      (λ e. none state (inl refl) (beside_named seen is e)),
      λ e. none (state ++ codes ".tmp") (inr (inl refl)) (beside_named seen is e),
    )

  -- the directories of the families are aside of the state
  pub all_aside : AreAside state sets
  all_aside = dir_aside

  pub all_off : AllOffState state sets
  all_off = off

  pub none_missed : (IsGone ts (parent_of state) → ⊥) → NoneMissed state sets
  none_missed stands set look at i = record {
    dir = λ there is. stands (subst (IsGone ts) is (missed_gone set look at i there));
    beside = off set look at i;
  }

  free : AllByRecursion (IsFreeLog (reserved_by state)) (kept_of s.found s.keeps.choices)
  free = kept_free (reserved_by state) s.found s.keeps.choices s.keeps.chosen

  of_words : NoneEnds state s.of_words
  of_words = subst (NoneEnds state) (sym s.entries.first.faults_are) (words_none state 0 (asked_by rules) s.entries.first.sights s.entries.front s.entries.first.shown)

  of_kept : NoneEnds state s.of_kept
  of_kept = subst (NoneEnds state) (sym s.keeps.faults_are) (none_both state s.of_words _ of_words
      (none_both state (choice_faults (reserved_by state) s.found s.found s.keeps.choices) (flat_map kind_fault (kept_of s.found s.keeps.choices)) (choices_none state (reserved_by state) s.found s.found s.keeps.choices) (kinds_none state (kept_of s.found s.keeps.choices) free)))

  pub looks_none : NoneEnds state faults
  looks_none = subst (NoneEnds state) (sym s.entries.second.families.faults_are) (none_both state s.of_kept (family_faults s.entries.second.families.sights) of_kept
      (families_none state [] s.kept s.entries.second.listings s.entries.second.families.sights s.entries.back (subst (Hold (IsFreeLog (reserved_by state))) (sym s.keeps.left_are) (files_hold (IsFreeLog (reserved_by state)) (kept_of s.found s.keeps.choices) free)) s.entries.second.families.shown))
