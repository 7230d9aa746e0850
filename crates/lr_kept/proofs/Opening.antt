-- Which logs have a reserved name, place by place.
use Rattle.std.proofs.Common.{◌≡◌, ◌∙◌, sym, ap, subst, refl, ⊎_elim, ℕ, ◌<◌, ◌≤◌, ◌+◌, List, length, set, length-set, Some, slice_get, arith}
use Rattle.std.specs.Borrow.{Bor}
use Rattle.std.proofs.lemmas.Bool.{cases_lt, cases_eq}
use Rattle.std.proofs.lemmas.Option.{slice_get_within}
use Rattle.lr_rules.specs.declared.path.Path.{Path}
use Rattle.lr_rules.specs.Names.{IsName}
use Rattle.lr_family.specs.declared.family.Family.{Family}
use Rattle.lr_kept.specs.declared.choice.Choice.{Choice}
use Rattle.lr_kept.specs.declared.choice.Choice.TheVariants.{Kept, Again, MemberOf, Reserved, Meets}
use Rattle.lr_kept.specs.Chosen.{HasReserved}
use Rattle.lr_kept.specs.Barred.{IsUnbarredChoice, AreOpened, HaveOpened, NoneShut, Opens, free, barred, stays}
use Rattle.lr_kept.proofs.Elements.{same_read, read_set_same, read_set_other}

pub none_opened : (logs : List (Bor Family)) (reserved : List Path) (choices : List Choice) → HaveOpened logs reserved choices 0 choices
none_opened logs reserved choices = record { as_many = refl; below = λ k c lt. absurd (let l : k < 0 = lt in omega arith); from = λ k c le h. h }

pub all_opened : (logs : List (Bor Family)) (reserved : List Path) (old : List Choice) (n : ℕ) (choices : List Choice) → length old ≡ length logs → length logs ≤ n → HaveOpened logs reserved old n choices → AreOpened logs reserved old choices
all_opened logs reserved old n choices many le h = record { as_many = h.as_many; each = λ k c at. h.below k c (let lt = slice_get_within choices k c at in omega (arith, lt, h.as_many, many, le)) at }

module _ (logs : List (Bor Family)) (reserved : List Path) (begun : List Choice) (none_shut : NoneShut begun) (n : ℕ) (f : Bor Family) (at : slice_get logs n ≡ Some f) where
  -- a reserved name of the log at this place is one of this log
  its_name : (i : ℕ) (h : HasReserved logs reserved n i) → IsName f.now.log f.now.naming h.path
  its_name i h = subst (λ (g : Bor Family). IsName g.now.log g.now.naming h.path) (same_read logs n h.log f h.at_log at) h.named

  opened_so : (c d : Choice) → slice_get begun n ≡ Some c → Opens f.now reserved c d → IsUnbarredChoice logs reserved begun n d
  opened_so _ _ b (free none) = record { kept = b; free = λ i h. none i h.path h.at_path (its_name i h) }
  opened_so _ _ b (barred i is) = record {
    kept = b;
    has = record { log = f; path = is.path; at_log = at; at_path = is.at_path; named = is.named };
    first = λ j lt h. is.first j h.path lt h.at_path (its_name j h);
  }
  opened_so Kept _ b (stays _ ne) = absurd (ne refl)
  opened_so (Again i) _ b (stays _ ne) = b
  opened_so (MemberOf i) _ b (stays _ ne) = b
  opened_so (Reserved i) _ b (stays _ ne) = absurd (none_shut n i b)
  opened_so (Meets i) _ b (stays _ ne) = b

  pub more_opened : (old : List Choice) (c d : Choice) → slice_get old n ≡ Some c → Opens f.now reserved c d → HaveOpened logs reserved begun n old → HaveOpened logs reserved begun (n + 1) (set old n d)
  more_opened old c d was opens so_far = record {
    as_many = length-set old n d ∙ so_far.as_many;
    below = λ k e lt h. ⊎_elim
        (λ (same : k ≡ n).
        let here : slice_get (set old n d) n ≡ Some d = read_set_same old n d (slice_get_within old n c was) in
        let is : d ≡ e = same_read (set old n d) n d e here (ap (λ s. slice_get (set old n d) s) (sym same) ∙ h) in
        subst (λ s. IsUnbarredChoice logs reserved begun s e) (sym same) (subst (λ (x : Choice). IsUnbarredChoice logs reserved begun n x) is (opened_so c d (so_far.from n c (omega arith) was) opens)))
        (λ (ne : k ≡ n → ⊥). so_far.below k e (neither k lt ne) (sym (read_set_other old n k d ne) ∙ h))
        (cases_eq k n);
    from = λ k e le h. so_far.from k e (omega (arith, le)) (sym (read_set_other old n k d (λ same. omega (arith, le, same))) ∙ h);
  }
    where
      neither : (k : ℕ) → k < n + 1 → (k ≡ n → ⊥) → k < n
      neither k lt ne = ⊎_elim (λ (l : k < n). l) (λ (l : n ≤ k). absurd (ne (omega (arith, lt, l)))) (cases_lt k n)

-- ---- one log

-- one more reserved path isn't one of its names
pub none_more : (log : Family) (reserved : List Path) (n : ℕ) (x : Path) → slice_get reserved n ≡ Some x → (IsName log.log log.naming x → ⊥) → ((j : ℕ) (q : Path) → j < n → slice_get reserved j ≡ Some q → IsName log.log log.naming q → ⊥)
    → (j : ℕ) (q : Path) → j < n + 1 → slice_get reserved j ≡ Some q → IsName log.log log.naming q → ⊥
none_more log reserved n x at not before j q lt h is = ⊎_elim
    (λ (lo : j < n). before j q lo h is)
    (λ (hi : n ≤ j).
    let same : j ≡ n = omega (arith, lt, hi) in
    let alike : q ≡ x = same_read reserved n q x (ap (λ s. slice_get reserved s) (sym same) ∙ h) at in
    not (subst (λ (p : Path). IsName log.log log.naming p) alike is))
    (cases_lt j n)
