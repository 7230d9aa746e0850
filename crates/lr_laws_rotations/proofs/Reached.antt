-- The paths of a log that may be set aside, as those of its set: where it waits it has no place, and its part file lies outside.
use Rattle.std.proofs.Common.{◌≡◌, ◌≢◌, inr, ⊎_elim, Bool, true, false, ◌&&◌, bytes_eq, refl, sym, ◌∙◌, ap, subst, Option, Some, None, is_some, ℤ}
use Rattle.std.proofs.lemmas.Bool.{and_parts, or_cases}
use Rattle.std.proofs.lemmas.Slice.Eq.{bytes_eq-Decides}
use Rattle.lr_rules.specs.declared.path.Path.{Path}
use Rattle.lr_rules.specs.declared.rule.Naming.{Naming}
use Rattle.lr_rules.specs.Names.{aside_path, Meet}
use Rattle.lr_rules.proofs.Bools.{not_both}
use Rattle.lr_host.specs.Sets.{LogSet, IsAsideOf, IsUnplaced, is_unplaced, in_reach}
use Rattle.lr_family.specs.Parts.{part_of, IsMember}
use Rattle.lr_copy.specs.declared.job.Job.{Job}
use Rattle.lr_copy.specs.Fits.{ArePaths}
use Rattle.lr_laws_family.specs.Members.{IsFamily, IsNoMember}
use Rattle.lr_laws_rotations.specs.Apart.{HasNames}
use Rattle.lr_laws_rotations.specs.Target.{Target, IsTargetAside, IsTakenUp}
use Rattle.lr_laws_rotations.proofs.Beside.{CopiesOutside}
use Rattle.lr_laws_rotations.proofs.Given.{member_in}
use Rattle.lr_laws_rotations.proofs.Own.{target_member}
use Rattle.lr_laws_rotations.proofs.PartFile.{part_no_waiting, job_part, job_no_member}
use Rattle.lr_laws_rotations.proofs.Way.{first_apart, family_at}

-- What is known of a log that a run may rotate, seen from a set: its members have names; it doesn't meet the set where it is another
-- log, and has the set's naming where it is the same; and the paths of its copy are good.
pub record IsKnownFor (s : LogSet) (t : Target) : Type 0 where
  pub names : HasNames t
  pub apart : t.log ≢ s.log → Meet s.log s.naming t.log t.naming → ⊥
  pub naming : t.log ≡ s.log → s.naming ≡ t.naming
  pub paths : (job : Job) → t.job ≡ Some job → ArePaths job

-- a path that is no member's has no key
pub no_key_of : (s : LogSet) (x : Path) → IsNoMember s.naming x → s.key x ≡ None
no_key_of s x away = go (s.key x) refl
  where
    some : (k : ℤ) → s.key x ≡ Some k → s.key x ≡ None → ⊥
    some k is none = let both : Some k ≡ None = sym is ∙ none in cc

    go : (o : Option ℤ) → s.key x ≡ o → s.key x ≡ None
    go None e = e
    go (Some k) e = absurd (away (member_in s x (some k e)))

module _ (s : LogSet) (t : Target) (h : HasNames t) (same : t.log ≡ s.log) (naming : s.naming ≡ t.naming) where
  -- where the log waits
  pub waits_at : t.naming.aside ≡ true → IsAsideOf s (aside_path s.log)
  waits_at asked = record {
    asked = ap (λ (n : Naming). n.aside) naming ∙ asked;
    path = refl;
    keyless = no_key_of s (aside_path s.log) (λ member. h.beside asked (subst (λ (n : Naming). IsMember n (aside_path t.log)) naming (subst (λ (x : Path). IsMember s.naming (aside_path x)) (sym same) member)));
  }

  pub taken_at : t.naming.aside ≡ true → IsTakenUp t → IsUnplaced s t.ready.log
  taken_at asked taken = inr (subst (IsAsideOf s) (sym (taken.first_is ∙ ap aside_path same)) (waits_at asked))

  -- what stands there at first may stand for the log
  pub first_family : IsFamily s.log s.naming → IsFamily t.ready.log s.naming
  first_family family = family_at s.log s.naming t.ready.log family (λ member. first_apart t h (subst (λ (n : Naming). IsMember n t.ready.log) naming member))

  -- the part file of its copy lies outside
  pub part_out : (job : Job) → t.job ≡ Some job → in_reach s job.part ≡ false
  part_out job is = go (in_reach s job.part) refl
    where
      target : IsMember t.naming t.ready.target
      target = target_member t h

      part : job.part ≡ part_of t.ready.target
      part = job_part t job h.family target (h.job job is)

      at_log : bytes_eq s.log job.part ≡ true → ⊥
      at_log e = h.parts t.ready.target target (sym part ∙ (sym ((bytes_eq-Decides s.log job.part).0 e) ∙ sym same))

      at_waiting : (s.naming.aside && bytes_eq (aside_path s.log) job.part) ≡ true → ⊥
      at_waiting e = part_no_waiting t.ready.target s.log (sym part ∙ sym ((bytes_eq-Decides (aside_path s.log) job.part).0 (and_parts s.naming.aside (bytes_eq (aside_path s.log) job.part) e).1))

      unplaced : is_unplaced s job.part ≡ true → ⊥
      unplaced e = ⊎_elim at_log at_waiting (or_cases (bytes_eq s.log job.part) (s.naming.aside && bytes_eq (aside_path s.log) job.part) e)

      keyed : is_some (s.key job.part) ≡ true → ⊥
      keyed e = not_both (is_some (s.key job.part)) e (ap is_some (no_key_of s job.part (λ member. job_no_member t job h.family target (h.job job is) (subst (λ (n : Naming). IsMember n job.part) naming member))))

      go : (b : Bool) → in_reach s job.part ≡ b → in_reach s job.part ≡ false
      go true e = absurd (⊎_elim unplaced keyed (or_cases (is_unplaced s job.part) (is_some (s.key job.part)) e))
      go false e = e

  -- so does all that its copy does besides, where it is set aside
  pub aside_copies : IsTargetAside t → CopiesOutside s t
  aside_copies a job is = (part_out job is, ap (λ (j : Job). j.cut) (one a.job job (sym a.job_is ∙ is)) ∙ a.uncut)
    where
      one : (x y : Job) → Some x ≡ Some y → y ≡ x
      one x y e = cc
