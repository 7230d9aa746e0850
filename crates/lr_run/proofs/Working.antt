-- Between its begin and its end a run leaves looks, listings, reads, changes, syncs and programs alone, so it goes on.
use Rattle.std.proofs.Common.{◌≡◌, ◌≤◌, ◌⊎◌, inl, inr, ⊎_elim, ℕ, List, [], ◌∷◌, length, reverse, Option, sym, subst}
use Rattle.lr_rules.specs.declared.path.Path.{Path}
use Rattle.lr_rules.specs.declared.fault.Fault.{Fault}
use Rattle.lr_rules.specs.declared.fault.Phase.{Phase}
use Rattle.lr_host.specs.declared.entry.Entry.{Entry}
use Rattle.lr_host.specs.declared.entry.Entry.TheVariants as entry
use Rattle.lr_host.specs.declared.journal.Journal.{Journal}
use Rattle.lr_host.specs.World.{Past, ◌▸◌, past}
use Rattle.lr_copy.proofs.EachOfBytes.{each_all, each_broke}
use Rattle.lr_host.specs.Told.{Each, Made, at_first, by_writer, by_tool, Left, not_told, is_told, WhereTold}
use Rattle.lr_host.proofs.Each.{each_append, each_in_order}
use Rattle.lr_host.proofs.Running.{writes_on, IsOn}
use Rattle.lr_scripts.specs.declared.command.Command.{Command}
use Rattle.lr_plan.specs.declared.mark.Mark.{Mark}
use Rattle.lr_plan.specs.declared.step.SetSteps.{SetSteps}
use Rattle.lr_plan.specs.declared.step.Step.{Step}
use Rattle.lr_plan.specs.declared.step.Step.TheVariants.{Runs, Removes, MakesDir, Renames, Creates, Takes, Copies, SyncsFile, SyncsDir, Truncates, Rotated}
use Rattle.lr_chain.specs.declared.directory.DirStop.TheVariants as unmade
use Rattle.lr_plan.specs.Outcomes.{Succeeds, Fails, ProgramFailed, badly, not_run, maybe_run}
use Rattle.lr_plan.specs.Done.{SetsDone}
use Rattle.lr_plan.specs.Cut.{SetsCut}
use Rattle.lr_acts.specs.Making.{all_of_sets}
use Rattle.lr_run.proofs.Folded.{Folds, acts_fold, cut_acts_fold}
use Rattle.lr_run.proofs.Simple.{IsSimple, AreSimple}

-- neither the begin nor the end of a run, nor a writer's
abbrev pub IsWork : Entry → Type 0
IsWork (entry.Look x seen) = Unit {0}
IsWork (entry.List dir listed) = Unit {0}
IsWork (entry.Reads x at piece) = Unit {0}
IsWork (entry.Renames from to) = Unit {0}
IsWork (entry.Makes x mode) = Unit {0}
IsWork (entry.Appends x piece) = Unit {0}
IsWork (entry.MakesDir x mode) = Unit {0}
IsWork (entry.Truncates x) = Unit {0}
IsWork (entry.Unlinks x) = Unit {0}
IsWork (entry.SyncsFile x) = Unit {0}
IsWork (entry.SyncsDir x) = Unit {0}
IsWork (entry.Runs program args input end) = Unit {0}
IsWork _ = ⊥

abbrev pub AreWork : List Entry → Type 0
AreWork ts = Each IsWork ts

-- of these, all but the reads
abbrev pub IsDoing : Entry → Type 0
IsDoing (entry.Reads x at piece) = ⊥
IsDoing e = IsWork e

-- ---- what holds of these, and of reads of 65,536 bytes at most, holds of the acts of a plan

module _ (P : Entry → Type 0) (read : (x : Path) (place : ℕ) (piece : List ℕ) → length piece ≤ 65536 → P (entry.Reads x place piece)) (other : (e : Entry) → IsDoing e → P e) where
  are_so : (ts us : List Entry) → ts ≡ us → Each P us → Each P ts
  are_so ts us e h = subst (Each P) (sym e) h

  maybe_so : (e : Entry) (ts : List Entry) → P e → (ts ≡ []) ⊎ (ts ≡ e ∷ []) → Each P ts
  maybe_so e ts p (inl h) = are_so ts [] h tt
  maybe_so e ts p (inr h) = are_so ts (e ∷ []) h (p, tt)

  made_so : (s : Step) (ts : List Entry) → IsSimple s → Succeeds s ts → Each P ts
  made_so (Runs p on command) ts i h = are_so ts _ h (other _ tt, tt)
  made_so (Removes path) ts i h = are_so ts _ h (other _ tt, tt)
  made_so (Renames from to) ts i h = are_so ts _ h (other _ tt, tt)
  made_so (MakesDir path mode) ts i h = ⊎_elim (λ one. are_so ts _ one (other _ tt, tt)) (λ saw. are_so ts _ saw.look (other _ tt, tt)) h
  made_so (Creates path mode) ts i h = maybe_so (entry.Makes path mode) ts (other _ tt) h
  made_so (Takes path mode) ts i h = are_so ts _ h (other _ tt, tt)
  made_so (Copies from to limit) ts i h = each_all P from to (read from) (λ piece. other _ tt) limit h.0 ts h.1
  made_so (SyncsFile path) ts i h = are_so ts _ h (other _ tt, tt)
  made_so (SyncsDir path) ts i h = are_so ts _ h (other _ tt, tt)
  made_so (Truncates path) ts i h = are_so ts _ h (other _ tt, tt)
  made_so (Rotated log) ts i h = are_so ts [] h tt
  made_so _ ts i h = absurd i

  program_so : (p : Phase) (on : List ℕ) (c : Command) (f : Fault) (ts : List Entry) → ProgramFailed p on c f ts → Each P ts
  program_so p on c f ts (badly end bad e o) = are_so ts _ o (other _ tt, tt)
  program_so p on c f ts (not_run e o) = are_so ts [] o tt
  program_so p on c f ts (maybe_run end e o) = are_so ts _ o (other _ tt, tt)

  take_so : (path : Path) (mode : Option ℕ) (f : Fault) (ts : List Entry) → Fails (Takes path mode) f ts → Each P ts
  take_so path mode f ts (inl h) = maybe_so (entry.Makes path mode) ts (other _ tt) h.1
  take_so path mode f ts (inr h) = are_so ts [] h.1 tt

  dir_so : (path : Path) (mode : Option ℕ) (f : Fault) (ts : List Entry) → Fails (MakesDir path mode) f ts → Each P ts
  dir_so path mode f ts (unmade.Make, is, made) = maybe_so (entry.MakesDir path mode) ts (other _ tt) made
  dir_so path mode f ts (unmade.Look, e, o) = are_so ts [] o tt
  dir_so path mode f ts (unmade.NotDir, e, saw) = are_so ts _ saw.look (other _ tt, tt)

  failed_so : (s : Step) (f : Fault) (ts : List Entry) → IsSimple s → Fails s f ts → Each P ts
  failed_so (Runs p on command) f ts i h = program_so p on command f ts h
  failed_so (Removes path) f ts i h = maybe_so (entry.Unlinks path) ts (other _ tt) h.1
  failed_so (Renames from to) f ts i h = maybe_so (entry.Renames from to) ts (other _ tt) h.1
  failed_so (MakesDir path mode) f ts i h = dir_so path mode f ts h
  failed_so (Creates path mode) f ts i h = maybe_so (entry.Makes path mode) ts (other _ tt) h.1
  failed_so (Takes path mode) f ts i h = take_so path mode f ts h
  failed_so (Copies from to limit) f ts i h = each_broke P from to (read from) (λ piece. other _ tt) limit h.0 ts h.2
  failed_so (SyncsFile path) f ts i h = maybe_so (entry.SyncsFile path) ts (other _ tt) h.1
  failed_so (SyncsDir path) f ts i h = maybe_so (entry.SyncsDir path) ts (other _ tt) h.1
  failed_so (Truncates path) f ts i h = maybe_so (entry.Truncates path) ts (other _ tt) h.1
  failed_so (Rotated log) f ts i h = absurd h
  failed_so _ f ts i h = absurd i

  all_fold : Folds IsSimple (λ fs ts. Each P ts)
  all_fold = record {
    none = tt;
    made = made_so;
    failed = failed_so;
    both = λ fs gs ts us h g. each_append P ts us h g;
  }

  pub acts_so : (sets : List SetSteps) (ms : List Mark) (fs : List Fault) (ts : List Entry) → AreSimple (all_of_sets sets) → SetsDone sets ms fs ts → Each P ts
  acts_so sets ms fs ts i h = acts_fold IsSimple (λ fs ts. Each P ts) all_fold sets ms fs ts i h

  pub cut_acts_so : (sets : List SetSteps) (ms : List Mark) (fs : List Fault) (ts : List Entry) → AreSimple (all_of_sets sets) → SetsCut sets ms fs ts → Each P ts
  cut_acts_so sets ms fs ts i c = cut_acts_fold IsSimple (λ fs ts. Each P ts) all_fold sets ms fs ts i c

pub does_work : (e : Entry) → IsDoing e → IsWork e
does_work (entry.Reads x at piece) i = absurd i
does_work _ i = i

-- ---- the run goes on

works_on : (p : Past) (e : Entry) → IsWork e → IsOn p → IsOn (p ▸ e)
works_on p (entry.Look x seen) i r = r
works_on p (entry.List dir listed) i r = r
works_on p (entry.Reads x at piece) i r = r
works_on p (entry.Renames from to) i r = r
works_on p (entry.Makes x mode) i r = r
works_on p (entry.Appends x piece) i r = r
works_on p (entry.MakesDir x mode) i r = r
works_on p (entry.Truncates x) i r = r
works_on p (entry.Unlinks x) i r = r
works_on p (entry.SyncsFile x) i r = r
works_on p (entry.SyncsDir x) i r = r
works_on p (entry.Runs program args input end) i r = r
works_on p _ i r = absurd i

made_on : (p q : Past) (es : List Entry) → Made p es q → AreWork es → IsOn p → IsOn q
made_on p _ _ at_first a r = r
made_on p _ es (by_writer {q = q} {e = e} m i f) a r = writes_on q e i (made_on p q es m a r)
made_on p _ _ (by_tool {es = es} {q = q} {e = e} m i f) a r = works_on q e a.0 (made_on p q es m a.1 r)

pub goes_on : {P : List Entry → Type 0} {o n : Option Journal} → Left P o n → ((ts : List Entry) → P ts → AreWork ts) → WhereTold o IsOn → WhereTold n IsOn
goes_on not_told f r = tt
goes_on (is_told {j = j} {k = k} {es = es} m h) f r = made_on (past j) (past k) es m (each_in_order IsWork es (f (reverse es) h)) r
