-- What steps leave: which of them empty a log, and the entries of a copy.
use Rattle.std.proofs.Common.{◌≡◌, refl, sym, ◌∙◌, ap, subst, ◌⊎◌, inl, inr, ⊎_elim, ℕ, Bool, true, false, cond, List, [], ◌∷◌, ◌++◌, append_assoc}
use Rattle.lr_rules.specs.declared.fault.Fault.{Fault}
use Rattle.lr_rules.specs.declared.path.Path.{Path}
use Rattle.lr_host.specs.declared.entry.Entry.{Entry}
use Rattle.lr_host.specs.declared.entry.Entry.TheVariants as entry
use Rattle.lr_host.specs.Told.{Each, Then}
use Rattle.lr_host.proofs.Each.{each_last}
use Rattle.lr_copy.specs.declared.job.Job.{Job}
use Rattle.lr_copy.specs.Copying.{clearing}
use Rattle.lr_copy.specs.Stops.{EmptiesNone}
use Rattle.lr_laws_family.specs.Whole.{Named}
use Rattle.lr_plan.specs.declared.mark.Mark.{Mark}
use Rattle.lr_plan.specs.declared.step.Step.{Step}
use Rattle.lr_plan.specs.declared.step.Step.TheVariants as step
use Rattle.lr_plan.specs.Course.{Course}
use Rattle.lr_plan.specs.Outcomes.{Succeeds, Fails}
use Rattle.lr_plan.proofs.Leaving.{OfEach, each_made, each_failed}
use Rattle.lr_plan.specs.Steps.{step_if}
use Rattle.lr_laws_acts.specs.Steps.{named_steps}
use Rattle.lr_laws_acts.proofs.Lists.{Stands, in_first, in_second, stands, not_in_none, only_one}
use Rattle.lr_laws_acts.proofs.Steps.{IsNoCut}

-- ---- one step

-- any other step than a truncation empties none
no_cut : (s : Step) → IsNoCut s → OfEach EmptiesNone s
no_cut (step.Runs phase on command) i = λ end. tt
no_cut (step.Removes path) i = tt
no_cut (step.MakesDir path mode) i = (tt, λ seen. tt)
no_cut (step.Renames from to) i = tt
no_cut (step.Creates path mode) i = tt
no_cut (step.Takes path mode) i = tt
no_cut (step.Copies from to limit) i = (λ place piece short. tt, λ piece. tt)
no_cut (step.Appends path text) i = λ piece. tt
no_cut (step.SyncsFile path) i = tt
no_cut (step.SyncsDir path) i = tt
no_cut (step.Truncates path) i = absurd i
no_cut (step.Rotated log) i = tt

-- the entries have a truncation of the log: so the step is that, and nothing stands before it
abbrev IsCutOf : Path → Step → List Entry → Type 0
IsCutOf log s before = (s ≡ step.Truncates log) × (before ≡ [])

not_cut : (log : Path) (before after ts : List Entry) → Each EmptiesNone ts → ts ≡ before ++ (entry.Truncates log ∷ after) → ⊥
not_cut log before after ts a is = (each_last EmptiesNone before (entry.Truncates log ∷ after) (subst (Each EmptiesNone) is a)).0

is_cut : (path log : Path) (before after ts : List Entry) → ts ≡ entry.Truncates path ∷ [] → ts ≡ before ++ (entry.Truncates log ∷ after) → IsCutOf log (step.Truncates path) before
is_cut path log before after ts one is = let k = only_one (entry.Truncates log) (entry.Truncates path) before after (sym one ∙ is) in (ap step.Truncates (same k.0), k.1)
  where
    same : entry.Truncates path ≡ entry.Truncates log → path ≡ log
    same e = cc

made_cut : (s : Step) (log : Path) (before after ts : List Entry) → Succeeds s ts → ts ≡ before ++ (entry.Truncates log ∷ after) → IsCutOf log s before
made_cut (step.Truncates path) log before after ts w is = is_cut path log before after ts w is
made_cut s log before after ts w is = absurd (not_cut log before after ts (each_made EmptiesNone s ts (no_cut s tt) w) is)

failed_cut : (s : Step) (f : Fault) (log : Path) (before after ts : List Entry) → Fails s f ts → ts ≡ before ++ (entry.Truncates log ∷ after) → IsCutOf log s before
failed_cut (step.Truncates path) f log before after ts h is = ⊎_elim (λ none. absurd (not_in_none (entry.Truncates log) before after (sym none ∙ is))) (λ one. is_cut path log before after ts one is) h.1
failed_cut s f log before after ts h is = absurd (not_cut log before after ts (each_failed EmptiesNone s f ts (no_cut s tt) h) is)

-- ---- many

-- the steps were all made, and left these entries
abbrev pub AllMade : List Step → List Entry → Type 0
AllMade [] ts = ts ≡ []
AllMade (s ∷ ss) ts = Then (Succeeds s) (AllMade ss) ts

-- One of the steps truncates the log, and those before it left these entries.
pub record IsCutAt (steps : List Step) (log : Path) (before : List Entry) : Type 0 where
  pub done : List Step
  pub rest : List Step
  pub steps_are : steps ≡ done ++ (step.Truncates log ∷ rest)
  pub made : AllMade done before

pub cut_at : (ss : List Step) (t : List Mark) (f : List Fault) (ts : List Entry) (log : Path) (before after : List Entry) → Course ss t f ts → ts ≡ before ++ (entry.Truncates log ∷ after) → IsCutAt ss log before
cut_at [] t f ts log before after c is = absurd (not_in_none (entry.Truncates log) before after (sym c.2 ∙ is))
cut_at (s ∷ ss) t f ts log before after (inl h) is = let k = failed_cut s h.fault log before after ts h.failed is in record { done = []; rest = ss; steps_are = ap (λ x. x ∷ ss) k.0; made = k.1 }
cut_at (s ∷ ss) t f ts log before after (inr g) is = go (λ more is. cut_at ss g.later f g.entries.back log more after g.entries.second is) (stands (entry.Truncates log) g.entries.front g.entries.back before after (sym g.entries.joined ∙ is))
  where
    go : ((more : List Entry) → g.entries.back ≡ more ++ (entry.Truncates log ∷ after) → IsCutAt ss log more) → Stands (entry.Truncates log) g.entries.front g.entries.back before after → IsCutAt (s ∷ ss) log before
    go later (in_first rest r) = let k = made_cut s log before rest g.entries.front g.entries.first r in record { done = []; rest = ss; steps_are = ap (λ x. x ∷ ss) k.0; made = k.1 }
    go later (in_second more r is) = let k = later more is in record { done = s ∷ k.done; rest = k.rest; steps_are = ap (λ us. s ∷ us) k.steps_are; made = record { front = g.entries.front; back = more; joined = r; first = g.entries.first; second = k.made } }

pub made_split : (xs ys : List Step) (ts : List Entry) → AllMade (xs ++ ys) ts → Then (AllMade xs) (AllMade ys) ts
made_split [] ys ts m = record { front = []; back = ts; joined = refl; first = refl; second = m }
made_split (x ∷ xs) ys ts m = let r = made_split xs ys m.back m.second in record {
  front = m.front ++ r.front;
  back = r.back;
  joined = m.joined ∙ (ap (λ us. m.front ++ us) r.joined ∙ sym (append_assoc m.front r.front r.back));
  first = record { front = m.front; back = r.front; joined = refl; first = m.first; second = r.first };
  second = r.second;
}

-- ---- the steps of a copy

asked_made : (b : Bool) (path : Path) (ts : List Entry) → AllMade (step_if b (step.Removes path)) ts → ts ≡ cond b (entry.Unlinks path ∷ []) []
asked_made true path ts m = m.joined ∙ (ap (λ us. us ++ m.back) m.first ∙ ap (λ us. entry.Unlinks path ∷ us) m.second)
asked_made false path ts m = m

pub named_made : (job : Job) (ts : List Entry) → AllMade (named_steps job) ts → (count : ℕ) × Named job count ts
named_made job ts m = go (made_split (step_if job.stale (step.Removes job.part)) taking ts m)
  where
    taking : List Step
    taking = step.Takes job.part job.mode ∷ step.Copies job.from job.part job.limit ∷ step.SyncsFile job.part ∷ step.Renames job.part job.to ∷ step.SyncsDir job.dir ∷ []

    go : Then (AllMade (step_if job.stale (step.Removes job.part))) (AllMade taking) ts → (count : ℕ) × Named job count ts
    go w = let t = w.second in let c = t.second in let s = c.second in let r = s.second in let d = r.second in (
      c.first.0,
      record {
        front = w.front ++ t.front;
        back = t.back;
        joined = w.joined ∙ (ap (λ us. w.front ++ us) t.joined ∙ sym (append_assoc w.front t.front t.back));
        first = ap (λ us. us ++ t.front) (asked_made job.stale job.part w.front w.first) ∙ ap (λ us. clearing job ++ us) t.first;
        second = record {
          front = c.front ++ s.front;
          back = s.back;
          joined = c.joined ∙ (ap (λ us. c.front ++ us) s.joined ∙ sym (append_assoc c.front s.front s.back));
          first = record { front = c.front; back = s.front; joined = refl; first = c.first.1; second = s.first };
          second = r.joined ∙ (ap (λ us. us ++ r.back) r.first ∙ ap (λ us. entry.Renames job.part job.to ∷ us) (d.joined ∙ (ap (λ us. us ++ d.back) d.first ∙ ap (λ us. entry.SyncsDir job.dir ∷ us) d.second)));
        };
      },
    )
