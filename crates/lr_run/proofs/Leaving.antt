-- What a run left, by what it came to or why it halted, as evidence in its entries.
use Rattle.std.proofs.Common.{◌≡◌, ◌≤◌, inl, inr, ℕ, Bool, true, false, refl, sym, ap, ◌∙◌, subst, append_assoc, List, [], ◌∷◌, ◌++◌, length, Option, Some, None, Result, Ok, Err}
use Rattle.std.proofs.lemmas.List.{append-nil}
use Rattle.lr_rules.specs.declared.clock.Clock.{Clock}
use Rattle.lr_rules.specs.declared.fault.Fault.{Fault}
use Rattle.lr_rules.specs.declared.fault.Fault.TheVariants as fault
use Rattle.lr_rules.specs.declared.fault.StateKind.TheVariants as kind
use Rattle.lr_rules.specs.declared.civil.Moment.{Moment}
use Rattle.lr_rules.specs.declared.path.Path.{Path}
use Rattle.lr_rules.specs.declared.rules.Rules.{Rules}
use Rattle.lr_rules.specs.Path.{parent_of}
use Rattle.lr_rules.specs.StatePath.{state_part}
use Rattle.lr_host.specs.declared.entry.Entry.{Entry}
use Rattle.lr_host.specs.declared.entry.Entry.TheVariants as entry
use Rattle.lr_host.specs.declared.journal.Journal.{Journal}
use Rattle.lr_host.specs.declared.thing.Seen.{Seen}
use Rattle.lr_host.specs.Looks.{Sees, IsDir, IsNoDir}
use Rattle.lr_host.specs.Told.{Each, Maybe}
use Rattle.lr_host.specs.Quiet.{AreQuiet}
use Rattle.lr_host.proofs.Each.{each_append}
use Rattle.lr_run.proofs.Made.{AreMade}
use Rattle.lr_run.proofs.Shape.{sees_quiet}
use Rattle.lr_laws.specs.Renewing.{LeavesAlone, IsWithinDirs, MayRenew, left_alone}
use Rattle.lr_laws.specs.StateWhole.{KeepsWhole}
use Rattle.lr_state.specs.Written.{table_text}
use Rattle.lr_looks.specs.Found.{FoundLog, paths_of}
use Rattle.lr_state.specs.After.{after}
use Rattle.lr_plan.specs.Asked.{Asked}
use Rattle.lr_plan.specs.declared.plan.Plan.{Plan}
use Rattle.lr_plan.specs.Done.{rotated_logs}
use Rattle.lr_laws_looks.proofs.Quiet.{whole_looking}
use Rattle.lr_run.specs.declared.answer.Ran.{Ran}
use Rattle.lr_run.specs.declared.answer.RunStop.{RunStop}
use Rattle.lr_run.specs.declared.answer.RunStop.TheVariants as stop
use Rattle.lr_run.specs.InternalAnswers.{RunLeaves, Holds, Lacks}
use Rattle.lr_run.specs.InternalDry as dry
use Rattle.lr_run.specs.InternalDry.{Tries}
use Rattle.lr_run.specs.Halt as halt
use Rattle.lr_run.specs.Halt.{Halt, OfFaults, OfLock, OfMemory, Halts, LacksState, SomeSeen}
use Rattle.lr_run.specs.InternalRuns as runs
use Rattle.lr_looks.specs.Inside.{Inside}
use Rattle.lr_run.specs.InternalRuns.{Works, BrokeOff}
use Rattle.lr_run.specs.Ran.{RunEnds, halted, came, RanSo}
use Rattle.lr_run.specs.Saw.{ShowsStateText, text_by}
use Rattle.lr_run.specs.State.{IsNewText}
use Rattle.lr_run.specs.Work.{Work, ShowsWork, CarriesOut, BreaksOff, DidNothing, act_faults, run_entries}
use Rattle.lr_run.proofs.Evidence.{faults_of, text_shown, too_big_of, inside_as, within_of, worked_of, broken_of}
use Rattle.lr_run.proofs.EvidenceDry.{tries_seen}
use Rattle.lr_run.proofs.Seeing.{state_so, looks_so, some_so}
use Rattle.lr_run.proofs.Renewing.{worked_may, between_made, broke_aside, around, behind_quiet, calm_aside, calm_within, left_whole}
use Rattle.lr_run.proofs.Sighted.{sees_so, then_so, halted_so}
use Rattle.lr_run.proofs.Turned.{inside}

module _ (state : Path) (rules : Rules) (clock : Clock) (asked : Asked) where
  -- a run that halted so, without a plan
  abbrev pub HaltLeft : Bool → Option Plan → Halt → List Entry → Type 0
  HaltLeft debug plan (OfFaults own) ts = RunLeaves debug state asked clock rules plan own ts
  HaltLeft debug plan OfLock ts = Holds debug state ts
  HaltLeft debug plan OfMemory ts = Lacks debug state asked clock rules ts

  module _ (plan : Option Plan) (lost : plan ≡ None) (ts : List Entry) where
    acting_halt : (h : Halt) → Halts false state rules clock asked h ts → HaltLeft false plan h ts
    acting_halt h (halt.not_seen e none) = subst (λ (x : Halt). HaltLeft false plan x ts) (sym e) (runs.not_seen lost refl none)
    acting_halt h (halt.no_directory e s) = subst (λ (x : Halt). HaltLeft false plan x ts) (sym e) (runs.no_directory lost refl s)
    acting_halt h (halt.held d e s) = subst (λ (x : Halt). HaltLeft false plan x ts) (sym e) s
    acting_halt h (halt.not_begun d e t) = subst (λ (x : Halt). HaltLeft false plan x ts) (sym e) (runs.not_begun lost refl t)
    acting_halt h (halt.unknown f e i) = subst (λ (x : Halt). HaltLeft false plan x ts) (sym e)
        (runs.began (inside_as state rules clock asked (LacksState state f) (Works state rules.sets clock asked plan (f ∷ [])) ts (λ us l. runs.not_known l.sights f l.known lost refl l.shown) i))
    acting_halt h (halt.too_big saw e o) = subst (λ (x : Halt). HaltLeft false plan x ts) (sym e)
        (let s = text_shown state saw.text saw.stale o.dir o.reads o.seen.file in
        runs.began (within_of state rules clock asked (Works state rules.sets clock asked plan (saw.faults ++ fault.State 0 kind.TooBig ∷ [])) o.dir o.reads o.looks [] ts s.0 o.entries
        (too_big_of state rules.sets clock asked saw o.reads o.looks (o.reads ++ (o.looks ++ [])) plan (ap (λ us. o.reads ++ us) (append-nil o.looks)) s.1 o.seen.says o.seen.sets o.big lost)))
    acting_halt h (halt.no_memory e none) = subst (λ (x : Halt). HaltLeft false plan x ts) (sym e) (runs.at_first none)
    acting_halt h (halt.short e i) = subst (λ (x : Halt). HaltLeft false plan x ts) (sym e) (runs.in_looks i)
    acting_halt h (halt.short_anew d e t) = absurd (cc)

    dry_halt : (h : Halt) → Halts true state rules clock asked h ts → HaltLeft true plan h ts
    dry_halt h (halt.not_seen e none) = subst (λ (x : Halt). HaltLeft true plan x ts) (sym e) (dry.unseen lost refl none)
    dry_halt h (halt.no_directory e s) = subst (λ (x : Halt). HaltLeft true plan x ts) (sym e) (let seen : Sees (parent_of state) IsNoDir ts = record { seen = s.seen; is = s.is; look = s.look } in dry.not_directory lost refl seen)
    dry_halt h (halt.held acts e s) = absurd (cc)
    dry_halt h (halt.not_begun acts e t) = absurd (cc)
    dry_halt h (halt.unknown f e t) = subst (λ (x : Halt). HaltLeft true plan x ts) (sym e)
        (dry.by_state (record { front = t.front; back = t.back; joined = t.joined; first = t.first; second = dry.unknown t.second.sights f t.second.known lost refl t.second.shown }))
    dry_halt h (halt.too_big saw e o) = subst (λ (x : Halt). HaltLeft true plan x ts) (sym e)
        (subst (λ (p : Option Plan). Tries state rules.sets clock asked p (saw.faults ++ fault.State 0 kind.TooBig ∷ []) ts) (sym lost)
        (tries_seen state rules.sets clock asked saw None (fault.State 0 kind.TooBig ∷ []) ts o.dir o.reads o.looks o.entries o.seen (o.big, refl)))
    dry_halt h (halt.no_memory e none) = subst (λ (x : Halt). HaltLeft true plan x ts) (sym e) (dry.before_all none)
    dry_halt h (halt.short e t) = subst (λ (x : Halt). HaltLeft true plan x ts) (sym e) (dry.amid_state t)
    dry_halt h (halt.short_anew d e t) = subst (λ (x : Halt). HaltLeft true plan x ts) (sym e) (dry.amid_looks t)

    pub halt_left : (debug : Bool) (h : Halt) → Halts debug state rules clock asked h ts → HaltLeft debug plan h ts
    halt_left true h hs = dry_halt h hs
    halt_left false h hs = acting_halt h hs

  -- a run that carried its plan out
  pub carried_left : (w : Work) → ShowsWork false state rules.sets clock asked w → CarriesOut state clock w → RunLeaves false state asked clock rules (Some w.plan) (faults_of w) (run_entries false state clock rules w)
  carried_left w shows out = runs.began (within_of state rules clock asked (Works state rules.sets clock asked (Some w.plan) (faults_of w)) w.dir w.reads w.looks w.did (run_entries false state clock rules w) (text_shown state w.saw.text w.saw.stale w.dir w.reads shows.seen.file).0 refl
      (runs.worked (worked_of state rules clock asked w shows out) (ap Some shows.plan.is)))

  -- one that broke off
  pub broken_left : (w : Work) → ShowsWork false state rules.sets clock asked w → BreaksOff w → Inside state clock rules (BrokeOff state rules.sets clock asked) (run_entries false state clock rules w)
  broken_left w shows out = within_of state rules clock asked (BrokeOff state rules.sets clock asked) w.dir w.reads w.looks w.did (run_entries false state clock rules w) (text_shown state w.saw.text w.saw.stale w.dir w.reads shows.seen.file).0 refl
      (broken_of state rules clock asked w shows out)

  -- a dry one
  pub tried_left : (w : Work) → ShowsWork true state rules.sets clock asked w → DidNothing w → RunLeaves true state asked clock rules (Some w.plan) (faults_of w) (run_entries true state clock rules w)
  tried_left w shows out = subst (λ (fs : List Fault). Tries state rules.sets clock asked (Some w.plan) fs (run_entries true state clock rules w)) (sym own)
      (tries_seen state rules.sets clock asked w.saw (Some w.plan) w.plan.faults (run_entries true state clock rules w) w.dir w.reads w.looks refl shows.seen (shows.plan.small, shows.plan.is, refl))
    where
      own : faults_of w ≡ w.saw.faults ++ w.plan.faults
      own = ap (λ acts. w.saw.faults ++ (w.plan.faults ++ act_faults acts)) out.acts ∙ ap (λ (fs : List Fault). w.saw.faults ++ fs) (append-nil w.plan.faults)

  -- ---- its state

  -- a run that carried its plan out leaves its state alone, or gives it the text that follows
  pub carried_may : (w : Work) → ShowsWork false state rules.sets clock asked w → CarriesOut state clock w → AreMade (run_entries false state clock rules w) → MayRenew state (λ bytes. bytes ≡ text_by w.saw clock (rotated_logs w.acts.marks)) (run_entries false state clock rules w)
  carried_may w shows out made = subst (MayRenew state (λ bytes. bytes ≡ text)) (sym i.entries)
      (subst (MayRenew state (λ bytes. bytes ≡ text)) (append_assoc i.before (entry.Starts state clock.now rules ∷ []) (i.between ++ entry.Ends ∷ []))
      (worked_may state rules clock asked (faults_of w) i.between i.within (between_made state rules clock asked i.before i.between (run_entries false state clock rules w) i.entries made) (λ bytes. bytes ≡ text) text_is (i.before ++ entry.Starts state clock.now rules ∷ [])
      (each_append (LeavesAlone state) i.before (entry.Starts state clock.now rules ∷ []) (calm_aside state i.before quiet) ((λ n. n), tt))
      (each_append (IsWithinDirs (state_part state) w.acts.dirs) i.before (entry.Starts state clock.now rules ∷ []) (calm_within (state_part state) w.acts.dirs i.before quiet) ((λ x n. absurd n), tt))))
    where
      text : List ℕ
      text = text_by w.saw clock (rotated_logs w.acts.marks)

      i : Inside state clock rules (runs.Worked state rules.sets clock asked (faults_of w)) (run_entries false state clock rules w)
      i = inside state asked clock rules w shows out

      quiet : AreQuiet i.before
      quiet = sees_quiet (parent_of state) IsDir i.before i.directory

      text_is : runs.state_text state rules.sets i.between i.within.looked clock (rotated_logs w.acts.marks) ≡ text
      text_is = ap (λ (kept : List FoundLog). table_text (after w.saw.table (rotated_logs w.acts.marks) (paths_of kept) clock.now.civil)) (sym shows.seen.sets.kept_are)

  -- one that broke off leaves it alone
  pub broken_may : (w : Work) → ShowsWork false state rules.sets clock asked w → BreaksOff w → (IsText : List ℕ → Type 0) → AreMade (run_entries false state clock rules w) → MayRenew state IsText (run_entries false state clock rules w)
  broken_may w shows out IsText made = subst (MayRenew state IsText) (sym i.entries)
      (left_alone (around state state clock rules i.before i.between (calm_aside state i.before (sees_quiet (parent_of state) IsDir i.before i.directory)) (broke_aside state rules clock asked i.between (between_made state rules clock asked i.before i.between (run_entries false state clock rules w) i.entries made) i.within)))
    where
      i : Inside state clock rules (BrokeOff state rules.sets clock asked) (run_entries false state clock rules w)
      i = broken_left w shows out

-- ---- looks, listings and reads, and what is around them

-- what holds of them, and of the begin and the end of a run, holds of all entries of one that halted
module _ (P : Entry → Type 0) (look : (x : Path) (seen : Option Seen) → P (entry.Look x seen)) (list : (x : Path) (names : List (List ℕ)) → P (entry.List x names)) (read : (x : Path) (place : ℕ) (piece : List ℕ) → length piece ≤ 65536 → P (entry.Reads x place piece))
    (starts : (x : Path) (now : Moment) (rules : Rules) → P (entry.Starts x now rules)) (ends : P entry.Ends) where
  inside_so : (state : Path) (clock : Clock) (rules : Rules) (Q : List Entry → Type 0) (ts : List Entry) → ((us : List Entry) → Q us → Each P us) → Inside state clock rules Q ts → Each P ts
  inside_so state clock rules Q ts f i = subst (Each P) (sym i.entries) (each_append P i.before (entry.Starts state clock.now rules ∷ (i.between ++ entry.Ends ∷ [])) (sees_so P look list read (parent_of state) IsDir i.before i.directory)
      (starts state clock.now rules, each_append P i.between (entry.Ends ∷ []) (f i.between i.within) (ends, tt)))

  maybe_so : (state : Path) (clock : Clock) (rules : Rules) (ts : List Entry) → Maybe (entry.Starts state clock.now rules) ts → Each P ts
  maybe_so state clock rules ts (inl e) = subst (Each P) (sym e) tt
  maybe_so state clock rules ts (inr e) = subst (Each P) (sym e) (starts state clock.now rules, tt)

  acting_so : (state : Path) (rules : Rules) (clock : Clock) (asked : Asked) (h : Halt) (ts : List Entry) → Halts false state rules clock asked h ts → Each P ts
  acting_so state rules clock asked h ts (halt.not_seen e none) = subst (Each P) (sym none) tt
  acting_so state rules clock asked h ts (halt.no_directory e s) = sees_so P look list read (parent_of state) (halt.DirBars false) ts s
  acting_so state rules clock asked h ts (halt.held d e s) = sees_so P look list read (parent_of state) IsDir ts s
  acting_so state rules clock asked h ts (halt.not_begun d e t) = then_so P look list read _ _ ts (λ us s. sees_so P look list read (parent_of state) IsDir us s) (λ us m. maybe_so state clock rules us m) t
  acting_so state rules clock asked h ts (halt.unknown f e i) = inside_so state clock rules (LacksState state f) ts (λ us l. state_so P look read state l.sights us l.shown) i
  acting_so state rules clock asked h ts (halt.too_big saw e o) = subst (Each P) (sym o.entries) (each_append P o.dir _ (sees_so P look list read (parent_of state) IsDir o.dir s.0)
      (starts state clock.now rules, each_append P o.reads _ (state_so P look read state s.1.sights o.reads s.1.shown) (each_append P o.looks _ (looks_so P look list read o.looks (whole_looking rules.sets saw.sets saw.faults o.looks o.seen.sets.shown)) (ends, tt))))
    where
      s : Sees (parent_of state) IsDir o.dir × ShowsStateText state saw.text saw.stale o.reads
      s = text_shown state saw.text saw.stale o.dir o.reads o.seen.file
  acting_so state rules clock asked h ts (halt.no_memory e none) = subst (Each P) (sym none) tt
  acting_so state rules clock asked h ts (halt.short e i) = inside_so state clock rules (SomeSeen state rules.sets) ts (λ us l. some_so P look list read state rules.sets us l) i
  acting_so state rules clock asked h ts (halt.short_anew d e t) = absurd (cc)

  pub halts_so : (debug : Bool) (state : Path) (rules : Rules) (clock : Clock) (asked : Asked) (h : Halt) (ts : List Entry) → Halts debug state rules clock asked h ts → Each P ts
  halts_so true state rules clock asked h ts hs = halted_so P look list read state rules clock asked h ts hs
  halts_so false state rules clock asked h ts hs = acting_so state rules clock asked h ts hs

-- ---- a run that acts

-- it leaves its state alone, or gives it the text of what it came to
ends_may : (state : Path) (rules : Rules) (clock : Clock) (asked : Asked) (earlier : List Fault) (r : Result Ran RunStop) (work : Option Work) (ts : List Entry) → AreMade ts → RunEnds false state rules clock asked earlier r work ts → MayRenew state (IsNewText state clock asked rules ts) ts
ends_may state rules clock asked earlier r work ts made (halted h none hs a) = left_alone (halts_so (LeavesAlone state) (λ x seen i. i) (λ x names i. i) (λ x place piece short i. i) (λ x now rs i. i) (λ i. i) false state rules clock asked h ts hs)
ends_may state rules clock asked earlier (Ok ran) work ts made (came w same shows a e) = behind_quiet state (λ text. text ≡ text_by w.saw clock (rotated_logs w.acts.marks)) (IsNewText state clock asked rules ts)
    (λ text is. record { work = w; shows = shows; carried = a.1; entries = e; text_is = is }) [] ts tt
    (subst (MayRenew state (λ text. text ≡ text_by w.saw clock (rotated_logs w.acts.marks))) (sym e) (carried_may state rules clock asked w shows a.1 (subst AreMade e made)))
ends_may state rules clock asked earlier (Err stop.Memory) work ts made (came w same shows a e) = subst (MayRenew state (IsNewText state clock asked rules ts)) (sym e) (broken_may state rules clock asked w shows a (IsNewText state clock asked rules ts) (subst AreMade e made))
ends_may state rules clock asked earlier (Err stop.Held) work ts made (came w same shows a e) = absurd a

pub run_whole : (state : Path) (rules : Rules) (clock : Clock) (asked : Asked) (earlier : List Fault) (r : Result Ran RunStop) {o n : Option Journal} → RanSo false state rules clock asked earlier r o n → KeepsWhole state (IsNewText state clock asked rules) o n
run_whole state rules clock asked earlier r ran = left_whole state (IsNewText state clock asked rules) (RunEnds false state rules clock asked earlier r ran.work) ran.shows (λ ts made h. ends_may state rules clock asked earlier r ran.work ts made h)
