-- The shape of a run over two logs that made a first part of the one's steps, and then a first part of the other's.
use Rattle.std.proofs.Common.{◌≡◌, ◌≢◌, ◌⊎◌, inl, inr, true, refl, sym, ◌∙◌, ap, subst, List, [], ◌∷◌, ◌++◌, append-nil}
use Rattle.std.specs.Prelude.{filter}
use Rattle.std.proofs.lemmas.List.Elements.{filter-append}
use Rattle.lr_rules.specs.declared.path.Path.{Path}
use Rattle.lr_rules.specs.declared.clock.Clock.{Clock}
use Rattle.lr_rules.specs.declared.rules.Rules.{Rules}
use Rattle.lr_rules.proofs.Heads.{heads, tails}
use Rattle.lr_host.specs.declared.entry.Entry.{Entry}
use Rattle.lr_host.specs.Lists.{IsIn}
use Rattle.lr_host.specs.Quiet.{AreQuiet}
use Rattle.lr_host.specs.Steps.{is_change}
use Rattle.lr_host.specs.Told.{Each}
use Rattle.lr_host.proofs.Each.{each_append, each_first, each_as, all_pass}
use Rattle.lr_laws_rotations.specs.AllTurns.{IsOfState, IsOfSome, StandsBetween}
use Rattle.lr_laws_rotations.specs.Target.{Target, target_entries}
use Rattle.lr_laws_family.specs.Weave.{Weave, IsFirstOf, FirstWoven}
use Rattle.lr_laws_rotations.proofs.Rotating.{each_turn}
use Rattle.lr_laws_family.proofs.Weaving.{weave_on, weave_own, weave_others}
use Rattle.lr_laws_rotations.specs.Runs.{AllTurnsBy, AllTurnedBy}
use Rattle.lr_laws_rotations.specs.Seen.{AreLogsSeen}

-- ---- first parts

-- A first part of two lists of steps, the one behind the other, is a first part of the one and a first part of the other.
pub record FirstOfBoth (xs ys made : List Entry) : Type 0 where
  pub front : List Entry
  pub back : List Entry
  pub joined : made ≡ front ++ back
  pub first : IsFirstOf xs front
  pub second : IsFirstOf ys back

pub first_of_both : (xs ys made rest : List Entry) → xs ++ ys ≡ made ++ rest → FirstOfBoth xs ys made
first_of_both [] ys made rest e = record { front = []; back = made; joined = refl; first = ([], refl); second = (rest, e) }
first_of_both (x ∷ xs) ys [] rest e = record { front = []; back = []; joined = refl; first = (x ∷ xs, refl); second = (ys, refl) }
first_of_both (x ∷ xs) ys (m ∷ made) rest e = more (first_of_both xs ys made rest (tails x m (xs ++ ys) (made ++ rest) e))
  where
    more : FirstOfBoth xs ys made → FirstOfBoth (x ∷ xs) ys (m ∷ made)
    more r = record {
      front = m ∷ r.front;
      back = r.back;
      joined = ap (λ us. m ∷ us) r.joined;
      first = (r.first.0, ap (λ us. x ∷ us) r.first.1 ∙ ap (λ (e : Entry). e ∷ (r.front ++ r.first.0)) (heads x m (xs ++ ys) (made ++ rest) e));
      second = r.second;
    }

pub all_first : (xs : List Entry) → IsFirstOf xs xs
all_first xs = ([], sym (append-nil xs))

each_of_itself : (xs : List Entry) → Each (λ e. IsIn e xs) xs
each_of_itself [] = tt
each_of_itself (x ∷ xs) = (inl refl, each_as (λ e. IsIn e xs) (λ e. IsIn e (x ∷ xs)) xs (λ e h. inr h) (each_of_itself xs))

-- each of a first part is one of the steps
each_in_steps : (xs us : List Entry) → IsFirstOf xs us → Each (λ e. IsIn e xs) us
each_in_steps xs us f = each_first (λ e. IsIn e xs) us f.0 (subst (Each (λ e. IsIn e xs)) f.1 (each_of_itself xs))

-- the steps of a rotation are changes
first_changes : (t : Target) (us : List Entry) → IsFirstOf (target_entries t) us → filter is_change us ≡ us
first_changes t us f =
    all_pass is_change us (each_first (λ e. is_change e ≡ true) us f.0 (subst (Each (λ e. is_change e ≡ true)) f.1 (each_turn (λ e. is_change e ≡ true) (λ x. refl) (λ x y. refl) t)))

-- own entries, and then others
pub own_first : (P : Entry → Type 0) (us os : List Entry) → Each P os → Weave P us (us ++ os)
own_first P us os a = subst (λ xs. Weave P xs (us ++ os)) (append-nil us) (weave_on P us us [] os (weave_own P us) (weave_others P os a))

-- ---- the run

module _ (state : Path) (clock : Clock) (rules : Rules) (looks : List Entry) (x y : Target) (apart : x.log ≢ y.log) (quiet : AreQuiet looks) (seen : AreLogsSeen rules clock looks (x ∷ y ∷ [])) where
  abbrev targets : List Target
  targets = x ∷ y ∷ []

  -- behind the steps stand the state's entries, and such as change nothing
  module _ (us vs behind : List Entry) (first : IsFirstOf (target_entries x) us) (second : IsFirstOf (target_entries y) vs) (of_state : Each (IsOfState state) (filter is_change behind)) where
    abbrev acts : List Entry
    acts = us ++ (vs ++ behind)

    abbrev saved : List Entry
    saved = filter is_change behind

    changes : filter is_change acts ≡ us ++ (vs ++ saved)
    changes =
        filter-append is_change us (vs ++ behind) ∙ (ap (λ ts. ts ++ filter is_change (vs ++ behind)) (first_changes x us first)
        ∙ ap (λ ts. us ++ ts) (filter-append is_change vs behind ∙ ap (λ ts. ts ++ saved) (first_changes y vs second)))

    abbrev IsOne : Entry → Type 0
    IsOne e = IsOfSome targets e ⊎ IsOfState state e

    all : Each IsOne (filter is_change acts)
    all = subst (Each IsOne) (sym changes)
        (each_append IsOne us (vs ++ saved) (each_as (λ e. IsIn e (target_entries x)) IsOne us (λ e h. inl (inl (inl h))) (each_in_steps (target_entries x) us first))
        (each_append IsOne vs saved (each_as (λ e. IsIn e (target_entries y)) IsOne vs (λ e h. inl (inr (inl (inl h)))) (each_in_steps (target_entries y) vs second)) (each_as (IsOfState state) IsOne saved (λ e h. inr h) of_state)))

    -- seen from the first log, the second's steps and the state's entries stand between
    abbrev ByFirst : Entry → Type 0
    ByFirst e = StandsBetween state x targets e

    by_first : Weave ByFirst us (filter is_change acts)
    by_first = subst (Weave ByFirst us) (sym changes) (own_first ByFirst us (vs ++ saved)
        (each_append ByFirst vs saved (each_as (λ e. IsIn e (target_entries y)) ByFirst vs (λ e h. inl (inr (inl ((λ same. apart (sym same)), inl h)))) (each_in_steps (target_entries y) vs second))
        (each_as (IsOfState state) ByFirst saved (λ e h. inr (inl h)) of_state)))

    -- and from the second, the first's
    abbrev BySecond : Entry → Type 0
    BySecond e = StandsBetween state y targets e

    by_second : Weave BySecond vs (filter is_change acts)
    by_second = subst (Weave BySecond vs) (sym changes) (weave_on BySecond [] us vs (vs ++ saved)
        (weave_others BySecond us (each_as (λ e. IsIn e (target_entries x)) BySecond us (λ e h. inl (inl (apart, inl h))) (each_in_steps (target_entries x) us first)))
        (own_first BySecond vs saved (each_as (IsOfState state) BySecond saved (λ e h. inr (inl h)) of_state)))

    abbrev SeenFrom : Target → Type 0
    SeenFrom t = FirstWoven (StandsBetween state t targets) (target_entries t) (filter is_change acts)

    each : (t : Target) → IsIn t targets → SeenFrom t
    each t (inl is) = subst SeenFrom is (record { made = us; first = first; woven = by_first })
    each t (inr (inl is)) = subst SeenFrom is (record { made = vs; first = second; woven = by_second })
    each t (inr (inr none)) = absurd none

    pub both_turn : AllTurnsBy state clock rules (looks ++ acts)
    both_turn = record { looks = looks; acts = acts; joined = refl; quiet = quiet; targets = targets; seen = seen; all = all; each = each }

  -- where all steps were made
  module _ (us vs behind : List Entry) (first : target_entries x ≡ us) (second : target_entries y ≡ vs) (of_state : Each (IsOfState state) (filter is_change behind)) where
    first_whole : IsFirstOf (target_entries x) us
    first_whole = ([], first ∙ sym (append-nil us))

    second_whole : IsFirstOf (target_entries y) vs
    second_whole = ([], second ∙ sym (append-nil vs))

    abbrev IsWhole : Target → Type 0
    IsWhole t = Weave (StandsBetween state t targets) (target_entries t) (filter is_change (us ++ (vs ++ behind)))

    whole : (t : Target) → IsIn t targets → IsWhole t
    whole t (inl is) = subst IsWhole is (subst (λ steps. Weave (StandsBetween state x targets) steps (filter is_change (us ++ (vs ++ behind)))) (sym first) (by_first us vs behind first_whole second_whole of_state))
    whole t (inr (inl is)) = subst IsWhole is (subst (λ steps. Weave (StandsBetween state y targets) steps (filter is_change (us ++ (vs ++ behind)))) (sym second) (by_second us vs behind first_whole second_whole of_state))
    whole t (inr (inr none)) = absurd none

    pub both_turned : (t : AllTurnedBy state clock rules (looks ++ (us ++ (vs ++ behind)))) × (t.turns.targets ≡ targets)
    unfolding both_turn
    both_turned = (record { turns = both_turn us vs behind first_whole second_whole of_state; whole = whole }, refl)
