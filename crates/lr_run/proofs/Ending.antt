-- The work of a run, and its end.
use Rattle.std.proofs.Common.{◌≡◌, ◌≤◌, List, [], ◌∷◌, ◌++◌, Option, Result, Ok, Err, OnOk, OnErr, false, refl, sym, ◌∙◌, arith}
use Rattle.std.proofs.lemmas.List.{append-nil}
use Rattle.lr_rules.specs.declared.clock.Clock.{Clock}
use Rattle.lr_rules.specs.declared.fault.CallKind.TheVariants as call
use Rattle.lr_rules.specs.declared.fault.Fault.{Fault}
use Rattle.lr_rules.specs.declared.fault.Fault.TheVariants as fault
use Rattle.lr_rules.specs.declared.path.Path.{Path}
use Rattle.lr_rules.specs.declared.rule.Rule.{Rule}
use Rattle.lr_host.specs.declared.entry.Entry.{Entry}
use Rattle.lr_host.specs.declared.journal.Journal.{Journal}
use Rattle.lr_host.specs.Told.{Counts, NoneFell, Onward, Rose, Left, Then, WhereTold}
use Rattle.lr_host.proofs.Left.{left_both}
use Rattle.lr_host.specs.Counted.{AreCounted, AddsFaults, Went, WentBy}
use Rattle.lr_plan.specs.Asked.{Asked}
use Rattle.lr_plan.specs.declared.plan.Plan.{Plan}
use Rattle.lr_host.proofs.Counts.{free_none, adds_free, adds_on, went_free, went_call}
use Rattle.lr_host.proofs.Running.{IsOn}
use Rattle.lr_family.specs.declared.directory.DirStop.{DirStop}
use Rattle.lr_family.specs.declared.directory.DirStop.TheVariants as dir
use Rattle.lr_family.specs.Directory.{dir_fault_of}
use Rattle.lr_run.specs.Internal.{CameTo, WorksOn, SomeWork}
use Rattle.lr_run.proofs.Entries.{works_so, lacking_so}
use Rattle.lr_run.proofs.Evidence.{works_of}
use Rattle.lr_run.proofs.Working.{IsWork, does_work, goes_on}

-- the run is on where the work ends
pub end_there : {T E : Type 0} (r : Result T E) (state : Path) (rules : List Rule) (clock : Clock) (asked : Asked) (plan : Option Plan) (a b : List Fault) (o n : Option Journal) → OnOk r (CameTo (WorksOn state rules clock asked plan a b) state clock o n) → OnErr r (Left (SomeWork state rules clock asked) o n)
    → WhereTold o IsOn → WhereTold n IsOn
end_there (Ok x) state rules clock asked plan a b o n h s on = goes_on h.shows (λ ts g. let w = works_of state rules clock asked plan a b h.work ts g in works_so IsWork (λ x place piece short. tt) does_work state rules clock asked plan w.0 ts w.1) on
end_there (Err x) state rules clock asked plan a b o n h s on = goes_on s (λ ts g. lacking_so IsWork (λ x place piece short. tt) does_work state rules clock asked ts g) on

pub work_lacked : {T E : Type 0} (r : Result T E) (P Q : List Entry → Type 0) (o m n : Option Journal) → OnErr r (Left P o m) → Left Q m n → OnErr r (Left (Then P Q) o n)
work_lacked (Ok x) P Q o m n l k = tt
work_lacked (Err x) P Q o m n l k = left_both l k

-- ---- the counts

counted_wider : (fs : List Fault) (k l m : Counts) → NoneFell l m → AreCounted fs k l → AreCounted fs k m
counted_wider fs k l m le c = record {
  calls = (let a = c.calls in let b : l.faults ≤ m.faults = le.0 in omega (arith, a, b));
  scripts = (let a = c.scripts in let b : l.bad_ends ≤ m.bad_ends = le.1 in omega (arith, a, b));
  none_around = c.none_around;
}

-- the counts of what came behind are told too
pub adds_wider : {T E : Type 0} (r : Result T E) (a b : List Fault) (k l m : Counts) → NoneFell l m → WentBy r a b k l → OnOk r (AddsFaults a b k m)
adds_wider (Ok x) a b k l m le h = record { added = h.adds.added; after_is = h.adds.after_is; are_counted = counted_wider h.adds.added k l m le h.adds.are_counted }
adds_wider (Err x) a b k l m le h = tt

-- the lock was free, and was given back
pub went_locked : (a b : List Fault) (j k l : Counts) → NoneFell j k → j.locked ≡ false → AddsFaults a b k l → NoneFell k l → l.locked ≡ false → Went a b j l
went_locked a b j k l f free h g back = record {
  adds = adds_on a a b j k l (adds_free a a [] j k (sym (append-nil a)) free_none f) h;
  onward = ((omega (arith, f.0, g.0), omega (arith, f.1, g.1), omega (arith, f.2, g.2)), back ∙ sym free);
}

-- the fault of the state's directory
pub dir_went : (why : DirStop) (x : Path) (a b : List Fault) (k l : Counts) → b ≡ a ++ dir_fault_of why x ∷ [] → (why ≡ dir.Call → Rose k.faults l.faults) → Onward k l → Went a b k l
dir_went dir.NotDir x a b k l e r h = went_free a b (fault.NoDir x ∷ []) k l e (record { calls = refl; scripts = refl; none_around = ((λ h. h), tt) }) h
dir_went dir.Call x a b k l e r h = went_call a b call.Look x k l e (r refl) h
