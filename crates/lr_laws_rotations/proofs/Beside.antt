-- What is done to other logs is beside a set, and outside of a family.
use Rattle.std.proofs.Common.{◌≡◌, ◌≢◌, inl, inr, ⊎_elim, ℕ, Bool, true, false, cond, bytes_eq, refl, sym, ◌∙◌, ap, subst, Option, Some, None, List, [], ◌∷◌, ◌++◌}
use Rattle.std.specs.Prelude.{codes}
use Rattle.std.specs.List.{flat_map}
use Rattle.std.proofs.lemmas.Slice.Eq.{bytes_eq-Decides}
use Rattle.lr_rules.specs.declared.path.Path.{Path}
use Rattle.lr_rules.specs.declared.rule.Naming.{Naming}
use Rattle.lr_rules.specs.Names.{IsOwnName, the_log, IsName, Meet}
use Rattle.lr_rules.proofs.Bools.{not_both}
use Rattle.lr_host.specs.declared.entry.Entry.{Entry}
use Rattle.lr_host.specs.declared.entry.Entry.TheVariants as entry
use Rattle.lr_host.specs.Lists.{IsIn}
use Rattle.lr_host.specs.Sets.{LogSet, in_reach}
use Rattle.lr_host.proofs.Lists.{in_append}
use Rattle.lr_family.proofs.Names.{member_own}
use Rattle.lr_laws.specs.Follow.{changed_paths}
use Rattle.lr_laws.proofs.Outside.{in_reach_own, apart_outside, outside}
use Rattle.lr_copy.specs.declared.job.Job.{Job}
use Rattle.lr_laws_rotations.specs.AllTurns.{IsStatePath, IsOfState, IsItsDir, AlsoDoes, IsOf, IsOfOther, StandsBetween, job_part_paths, dir_paths, target_paths, paths_of_others, other_paths}
use Rattle.lr_laws_family.specs.Members.{IsNoMember}
use Rattle.lr_laws_rotations.specs.Target.{Target, HasDir, target_entries}
use Rattle.lr_laws_rotations.proofs.Others.{IsFileChange, own_turns, no_job}
use Rattle.lr_laws_rotations.specs.BesideSets.{LiesBeside, IsBesideSet}
use Rattle.lr_laws_rotations.specs.Own.{ChangesNames, LieOutside}
use Rattle.lr_laws_rotations.specs.Apart.{HasNames, TargetsHaveNames}
use Rattle.lr_laws_rotations.proofs.Own.{any_change}

-- ---- beside a set

-- a change at paths outside of the set lies beside it
out_beside : (s : LogSet) (e : Entry) → IsFileChange e → ((x : Path) → IsIn x (changed_paths e) → in_reach s x ≡ false) → LiesBeside s e
out_beside s (entry.Renames from to) c out = ((out from (inl refl), out to (inr (inl refl))), tt)
out_beside s (entry.Unlinks x) c out = (out x (inl refl), tt)
out_beside s (entry.Makes x mode) c out = (out x (inl refl), tt)
out_beside s (entry.Appends x bytes) c out = (out x (inl refl), tt)
out_beside s (entry.Truncates x) c out = (out x (inl refl), tt)
out_beside s (entry.MakesDir x mode) c out = (tt, out x (inl refl))
out_beside s _ c out = absurd c

pub any_beside : (s : LogSet) (t : Target) (e : Entry) → HasNames t → (Meet s.log s.naming t.log t.naming → ⊥) → IsOf t e → LiesBeside s e
any_beside s t e h not i = out_beside s e (own_turns t e i) (λ x j. apart_outside s t.log t.naming x not (any_change t e h i x j))

-- what is none of the set's own names lies outside of it
no_own_out : (s : LogSet) (x : Path) → (IsOwnName s.log s.naming x → ⊥) → in_reach s x ≡ false
no_own_out s x none = go (in_reach s x) refl
  where
    go : (b : Bool) → in_reach s x ≡ b → in_reach s x ≡ false
    go true e = absurd (none (in_reach_own s x e))
    go false e = e

-- such is the directory of the set's own log
own_dir_out : (s : LogSet) (t : Target) (x : Path) → t.log ≡ s.log → t.naming ≡ s.naming → HasDir t → IsItsDir t x → in_reach s x ≡ false
own_dir_out s t x log_is naming_is h d = no_own_out s x (λ own. (h x d.0 d.1).1 (subst (λ (l : Path). IsOwnName l t.naming x) (sym log_is) (subst (λ (n : Naming). IsOwnName s.log n x) (sym naming_is) own)))

-- what its copy does besides lies outside of the set: no path of a part file is one that the set reaches, and no log is emptied
abbrev pub CopiesOutside : LogSet → Target → Type 0
CopiesOutside s t = (job : Job) → t.job ≡ Some job → (in_reach s job.part ≡ false) × (job.cut ≡ false)

-- where there is none, nothing is
pub none_copies : (s : LogSet) (t : Target) → t.job ≡ None → CopiesOutside s t
none_copies s t none job is = absurd (no_job t.job job is none)

-- then its directory may be made, and it is made anew, and a part file is written, and nothing more
also_beside : (s : LogSet) (t : Target) (e : Entry) → t.log ≡ s.log → t.naming ≡ s.naming → HasDir t → CopiesOutside s t → AlsoDoes t e → IsBesideSet s e
also_beside s t (entry.MakesDir x mode) log_is naming_is h out d = inl (tt, own_dir_out s t x log_is naming_is h d)
also_beside s t (entry.Makes x mode) log_is naming_is h out (inl is) = inr (is ∙ log_is)
also_beside s t (entry.Makes x mode) log_is naming_is h out (inr p) = inl (ap (in_reach s) p.2 ∙ (out p.0 p.1).0, tt)
also_beside s t (entry.Appends x bytes) log_is naming_is h out p = inl (ap (in_reach s) p.2 ∙ (out p.0 p.1).0, tt)
also_beside s t (entry.Truncates x) log_is naming_is h out p = absurd (not_both p.0.0.cut p.0.2 (out p.0.0 p.0.1).1)
also_beside s t _ log_is naming_is h out p = absurd p

module _ (s : LogSet) (state : Path) (no_state : IsName s.log s.naming state → ⊥) (no_part : IsName s.log s.naming (state ++ codes ".tmp") → ⊥) where
  state_out : (x : Path) → IsStatePath state x → in_reach s x ≡ false
  state_out x (inl is) = outside s x (λ h. no_state (subst (IsName s.log s.naming) is h))
  state_out x (inr is) = outside s x (λ h. no_part (subst (IsName s.log s.naming) is h))

  pub state_beside : (e : Entry) → IsOfState state e → LiesBeside s e
  state_beside (entry.Renames from to) h = ((state_out from h.0, state_out to h.1), tt)
  state_beside (entry.Makes x mode) h = (state_out x h, tt)
  state_beside (entry.Appends x bytes) h = (state_out x h, tt)
  state_beside (entry.Unlinks x) h = (state_out x h, tt)
  state_beside _ h = absurd h

  others_beside : (ts : List Target) → TargetsHaveNames ts → ((x : Target) → IsIn x ts → x.log ≢ s.log → Meet s.log s.naming x.log x.naming → ⊥) → (e : Entry) → IsOfOther s.log ts e → LiesBeside s e
  others_beside [] h apart e i = absurd i
  others_beside (t ∷ ts) h apart e (inl i) = any_beside s t e h.0 (apart t (inl refl) i.0) i.1
  others_beside (t ∷ ts) h apart e (inr i) = others_beside ts h.1 (λ x j. apart x (inr j)) e i

  pub between_beside : (t : Target) (ts : List Target) (e : Entry) → t.log ≡ s.log → t.naming ≡ s.naming → HasDir t → CopiesOutside s t → TargetsHaveNames ts → ((x : Target) → IsIn x ts → x.log ≢ s.log → Meet s.log s.naming x.log x.naming → ⊥) → StandsBetween state t ts e → IsBesideSet s e
  between_beside t ts e same naming_is dir out h apart (inl o) = inl (others_beside ts h apart e (subst (λ (x : Path). IsOfOther x ts e) same o))
  between_beside t ts e same naming_is dir out h apart (inr (inl o)) = inl (state_beside e o)
  between_beside t ts e same naming_is dir out h apart (inr (inr also)) = also_beside s t e same naming_is dir out also

-- ---- outside of a family

in_flat : (log : Path) (n : Naming) (es : List Entry) (x : Path) → ((e : Entry) → IsIn e es → ChangesNames log n e) → IsIn x (flat_map changed_paths es) → IsName log n x
in_flat log n [] x own i = absurd i
in_flat log n (e ∷ es) x own i = ⊎_elim (λ j. own e (inl refl) x j) (λ j. in_flat log n es x (λ d k. own d (inr k)) j) (in_append x (changed_paths e) (flat_map changed_paths es) i)

-- all paths of a rotation are names of its set
in_names : (t : Target) → HasNames t → (x : Path) → IsIn x (target_paths t) → IsName t.log t.naming x
in_names t h x (inl is) = inl (the_log (sym is))
in_names t h x (inr i) = ⊎_elim (part t.job refl) behind (in_append x (job_part_paths t.job) (dir_paths t.ready.dir ++ flat_map changed_paths (target_entries t)) i)
  where
    -- the directory is one that the rotation makes
    dir : (o : Option (Path × Option ℕ)) → t.ready.dir ≡ o → IsIn x (dir_paths o) → IsName t.log t.naming x
    dir None is k = absurd k
    dir (Some (y, mode)) is (inl same) = any_change t (entry.MakesDir y mode) h (inr (mode, is)) x (inl same)
    dir (Some (y, mode)) is (inr none) = absurd none

    behind : IsIn x (dir_paths t.ready.dir ++ flat_map changed_paths (target_entries t)) → IsName t.log t.naming x
    behind k = ⊎_elim (dir t.ready.dir refl) (in_flat t.log t.naming (target_entries t) x (λ e j. any_change t e h (inl j))) (in_append x (dir_paths t.ready.dir) (flat_map changed_paths (target_entries t)) k)

    -- the part file is one that the rotation makes
    part : (j : Option Job) → t.job ≡ j → IsIn x (job_part_paths j) → IsName t.log t.naming x
    part None is k = absurd k
    part (Some job) is (inl same) = any_change t (entry.Makes job.part None) h (inr (inr (job, is, refl))) x (inl same)
    part (Some job) is (inr none) = absurd none

module _ (log : Path) (n : Naming) where
  -- what is no own name is neither the log nor a member
  pub name_out : (x : Path) → (IsOwnName log n x → ⊥) → (x ≢ log) × IsNoMember n x
  name_out x none = (
    (λ is. none (the_log is)),
    (λ m. none (member_own log n x m)),
  )

  no_own : (t : Target) → HasNames t → (Meet t.log t.naming log n → ⊥) → (x : Path) → IsIn x (target_paths t) → IsOwnName log n x → ⊥
  no_own t h apart x i own = apart (x, inr (in_names t h x i, own))

  pub one_outside : (t : Target) → HasNames t → (Meet t.log t.naming log n → ⊥) → LieOutside (target_paths t) log n
  one_outside t h apart x i = name_out x (no_own t h apart x i)

  -- of all other logs, and of the state
  others_no_own : (ts : List Target) → TargetsHaveNames ts → ((x : Target) → IsIn x ts → x.log ≢ log → Meet x.log x.naming log n → ⊥) → (y : Path) → IsIn y (paths_of_others log ts) → IsOwnName log n y → ⊥
  others_no_own [] h apart y i own = i
  others_no_own (x ∷ xs) h apart y i own = go (λ i. others_no_own xs h.1 (λ z j. apart z (inr j)) y i own) (bytes_eq x.log log) refl i
    where
      differ : bytes_eq x.log log ≡ false → x.log ≢ log
      differ e same = let yes : bytes_eq x.log log ≡ true = (bytes_eq-Decides x.log log).1 same in cc

      go : (IsIn y (paths_of_others log xs) → ⊥) → (b : Bool) → bytes_eq x.log log ≡ b → IsIn y (cond b (paths_of_others log xs) (target_paths x ++ paths_of_others log xs)) → ⊥
      go further true e i = further i
      go further false e i = ⊎_elim (λ j. no_own x h.0 (apart x (inl refl) (differ e)) y j own) further (in_append y (target_paths x) (paths_of_others log xs) i)

  module _ (state : Path) (ts : List Target) (h : TargetsHaveNames ts) (apart : (x : Target) → IsIn x ts → x.log ≢ log → Meet x.log x.naming log n → ⊥) (no_state : IsName log n state → ⊥) (no_part : IsName log n (state ++ codes ".tmp") → ⊥) where
    pub none_own : (x : Path) → IsIn x (other_paths state log ts) → IsOwnName log n x → ⊥
    none_own x (inl is) own = no_state (inl (subst (IsOwnName log n) (sym is) own))
    none_own x (inr (inl is)) own = no_part (inl (subst (IsOwnName log n) (sym is) own))
    none_own x (inr (inr i)) own = others_no_own ts h apart x i own

    pub all_outside : LieOutside (other_paths state log ts) log n
    all_outside x i = name_out x (none_own x i)
