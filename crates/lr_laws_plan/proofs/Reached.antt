-- A run that worked saw its state and has no fault that ends a run; one that came to no plan has a last fault that says why.
use Rattle.std.proofs.Common.{◌≡◌, ◌⊎◌, inl, inr, ⊎_elim, List, [], ◌∷◌, ◌++◌, None, reverse, refl, sym, ap, ◌∙◌, subst}
use Rattle.std.proofs.lemmas.Option.{none-some}
use Rattle.lr_rules.specs.declared.clock.Clock.{Clock}
use Rattle.lr_rules.specs.declared.fault.CallKind.TheVariants as call
use Rattle.lr_rules.specs.declared.fault.Fault.{Fault}
use Rattle.lr_rules.specs.declared.fault.Fault.TheVariants as fault
use Rattle.lr_rules.specs.declared.fault.StateKind.TheVariants as kind
use Rattle.lr_rules.specs.declared.path.Path.{Path}
use Rattle.lr_rules.specs.declared.rule.Rule.{Rule}
use Rattle.lr_rules.specs.declared.rules.Rules.{Rules}
use Rattle.lr_rules.specs.Path.{parent_of}
use Rattle.lr_host.specs.declared.entry.Entry.{Entry}
use Rattle.lr_host.specs.declared.entry.Entry.TheVariants as entry
use Rattle.lr_host.specs.Lists.{IsIn}
use Rattle.lr_host.specs.Told.{Made}
use Rattle.lr_host.specs.World.{Past}
use Rattle.lr_host.proofs.Lists.{in_append, in_front}
use Rattle.lr_host.proofs.Quiet.{sees_quiet}
use Rattle.lr_plan.specs.Asked.{Asked}
use Rattle.lr_looks.specs.Inside.{Inside}
use Rattle.lr_run.specs.InternalRuns.{Worked, Works, not_known, too_big, worked, Runs, no_directory, not_seen, not_begun, began}
use Rattle.lr_laws_plan.specs.Ending.{EndsRun, NoneEnds, MayEnd}
use Rattle.lr_laws_plan.specs.Looked.{behind_start, SawState}
use Rattle.lr_laws_plan.proofs.Known.{saw_in, state_saw, state_why}
use Rattle.lr_laws_plan.proofs.Start.{behind_quiet}
use Rattle.lr_laws_plan.proofs.Worked.{none_ends}

-- Why a run came to no plan: its last fault is one that ends a run; or it is the one, may end it, and the state wasn't seen.
pub record Unreached (state : Path) (own : List Fault) (us : List Entry) : Type 0 where
  pub before : List Fault
  pub last : Fault
  pub own_are : own ≡ before ++ last ∷ []
  pub ends : EndsRun state last ⊎ ((before ≡ []) × MayEnd state last × (SawState state us → ⊥))

-- where nothing stands, it wasn't
pub unseen : (state : Path) (us : List Entry) → us ≡ [] → SawState state us → ⊥
unseen state us none s = (subst (SawState state) none s).part.1

-- ---- the work

-- the end isn't a look or a read
before_end : (state : Path) (us : List Entry) → SawState state (us ++ entry.Ends ∷ []) → SawState state us
before_end state us s = record { part = (s.part.0, look (in_append (entry.Look _ s.part.0) us (entry.Ends ∷ []) s.part.1)); text = ⊎_elim (λ i. inl (look (in_append (entry.Look state _) us (entry.Ends ∷ []) i))) (λ w. inr (w.0, read (in_append (entry.Reads state w.0 []) us (entry.Ends ∷ []) w.1))) s.text }
  where
    look : {path : Path} {seen : _} → IsIn (entry.Look path seen) us ⊎ IsIn (entry.Look path seen) (entry.Ends ∷ []) → IsIn (entry.Look path seen) us
    look (inl i) = i
    look (inr (inl e)) = absurd (cc)
    look (inr (inr none)) = absurd none

    read : {path : Path} {place : _} {piece : _} → IsIn (entry.Reads path place piece) us ⊎ IsIn (entry.Reads path place piece) (entry.Ends ∷ []) → IsIn (entry.Reads path place piece) us
    read (inl i) = i
    read (inr (inl e)) = absurd (cc)
    read (inr (inr none)) = absurd none

works_unreached : (state : Path) (rules : List Rule) (clock : Clock) (asked : Asked) (own : List Fault) (ts : List Entry)
    → Works state rules clock asked None own ts → Unreached state own (ts ++ entry.Ends ∷ [])
works_unreached state rules clock asked own ts (not_known sights f k lost is s) = record {
  before = [];
  last = f;
  own_are = is;
  ends = ⊎_elim (λ ends. inl ends) (λ may. inr (refl, may.0, λ saw. may.1 (before_end state ts saw)))
      (state_why state 65_536 sights f ts k s);
}
works_unreached state rules clock asked own ts (too_big l big lost is nothing) = record {
  before = l.of_looks;
  last = fault.State 0 kind.TooBig;
  own_are = is;
  ends = inl tt;
}
works_unreached state rules clock asked own ts (worked w is) = absurd (none-some _ is)

-- one that worked saw the state
worked_saw : (state : Path) (rules : List Rule) (clock : Clock) (asked : Asked) (own : List Fault) (ts : List Entry) → Worked state rules clock asked own ts → SawState state ts
worked_saw state rules clock asked own ts w = subst (SawState state) (sym w.looked.joined)
    (saw_in state w.looked.reads _ (λ e i. in_front e w.looked.reads _ i) (state_saw state 65_536 w.looked.sights w.looked.remembered w.looked.reads w.looked.known w.looked.read))

-- ---- the run

-- behind its start stand its work and its end
begun_behind : (state : Path) (clock : Clock) (rules : Rules) (P : List Entry → Type 0) (ts : List Entry) → (i : Inside state clock rules P ts) → behind_start ts ≡ i.between ++ entry.Ends ∷ []
begun_behind state clock rules P ts i = ap behind_start i.entries ∙ behind_quiet i.before (entry.Starts state clock.now rules ∷ (i.between ++ entry.Ends ∷ [])) (sees_quiet (parent_of state) i.before i.directory)

-- its last fault is why it came to none
pub unreached : (state : Path) (asked : Asked) (clock : Clock) (rules : Rules) (own : List Fault) (ts : List Entry)
    → Runs state asked clock rules None own ts → Unreached state own (behind_start ts)
unreached state asked clock rules own ts (no_directory lost is s) = record {
  before = [];
  last = fault.NoDir (parent_of state);
  own_are = is;
  ends = inl refl;
}
unreached state asked clock rules own ts (not_seen lost is none) = record {
  before = [];
  last = fault.Call call.Look (parent_of state);
  own_are = is;
  ends = inr (refl, inl (parent_of state, inl refl, refl), λ saw. unseen state (behind_start ts) (ap behind_start none) saw);
}
unreached state asked clock rules own ts (not_begun lost is t) = record {
  before = [];
  last = fault.Call call.Begin state;
  own_are = is;
  ends = inl tt;
}
unreached state asked clock rules own ts (began i) = subst (Unreached state own) (sym (begun_behind state clock rules _ ts i))
    (works_unreached state rules.sets clock asked own i.between i.within)

-- ---- one that worked

pub reached_saw : (state : Path) (asked : Asked) (clock : Clock) (rules : Rules) (own : List Fault) (ts : List Entry)
    → Inside state clock rules (Worked state rules.sets clock asked own) ts → SawState state (behind_start ts)
reached_saw state asked clock rules own ts i = subst (SawState state) (sym (begun_behind state clock rules _ ts i))
    (saw_in state i.between (i.between ++ entry.Ends ∷ []) (λ e j. in_front e i.between (entry.Ends ∷ []) j) (worked_saw state rules.sets clock asked own i.between i.within))

pub reached_none : (state : Path) (asked : Asked) (clock : Clock) (rules : Rules) (own : List Fault) (p q : Past) (ts : List Entry)
    → Made p (reverse ts) q → Inside state clock rules (Worked state rules.sets clock asked own) ts → NoneEnds state own
reached_none state asked clock rules own p q ts made i = none_ends state clock rules asked own p q ts i.before i.between i.entries i.directory made i.within
