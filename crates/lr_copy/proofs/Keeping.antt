-- What a copy that broke off leaves undone.
use Rattle.std.proofs.Common.{⊎_elim, sym, subst, ℕ, Bool, true, false, cond, List, [], ◌∷◌}
use Rattle.lr_rules.specs.declared.fault.CallKind.TheVariants as call
use Rattle.lr_host.specs.declared.entry.Entry.{Entry}
use Rattle.lr_host.specs.declared.entry.Entry.TheVariants.{Reads, Renames, Makes, Appends, Unlinks, SyncsFile, SyncsDir}
use Rattle.lr_host.specs.Told.{Each, Then, Are, Maybe}
use Rattle.lr_host.proofs.Each.{each_append}
use Rattle.lr_copy.specs.declared.job.Job.{Job}
use Rattle.lr_copy.specs.declared.job.CopyStop.{CopyStop}
use Rattle.lr_copy.specs.declared.job.CopyStop.TheVariants as stop
use Rattle.lr_copy.specs.declared.job.BytesStop.TheVariants as broke
use Rattle.lr_copy.specs.Copying.{Copies, clearing, opening, Fills}
use Rattle.lr_copy.proofs.EachOfBytes.{each_both, each_are, each_all, each_broke}
use Rattle.lr_copy.specs.Stops.{OpenStopped, FillStopped, NameStopped, CutStopped, CloseStopped, at_name, at_cut, CopyStopped, at_open, at_fill, at_close, EmptiesNone, RenamesNone, IsCutStop, IsEarly}

pub each_maybe : (P : Entry → Type 0) (e : Entry) (ts : List Entry) → P e → Maybe e ts → Each P ts
each_maybe P e ts p m = ⊎_elim (λ none. subst (Each P) (sym none) tt) (λ one. subst (Each P) (sym one) (p, tt)) m

-- what holds of each entry up to the sync of the part file
module _ (job : Job) (P : Entry → Type 0) (unlinks : P (Unlinks job.part)) (makes : P (Makes job.part job.mode)) (reads : (k : ℕ) (piece : List ℕ) → P (Reads job.from k piece)) (appends : (piece : List ℕ) → P (Appends job.part piece)) (syncs : P (SyncsFile job.part)) where
  clears : Each P (clearing job)
  clears = go job.stale
    where
      go : (b : Bool) → Each P (cond b (Unlinks job.part ∷ []) [])
      go true = (unlinks, tt)
      go false = tt

  opens : Each P (opening job)
  opens = each_append P (clearing job) (Makes job.part job.mode ∷ []) clears (makes, tt)

  copies : (count : ℕ) (ts : List Entry) → Copies job count ts → Each P ts
  copies count ts c = each_all P job.from job.part (λ k piece short. reads k piece) appends job.limit count ts c

  fills : (count : ℕ) (ts : List Entry) → Fills job count ts → Each P ts
  fills count ts f = each_both P (Copies job count) (Are (SyncsFile job.part ∷ [])) ts (λ us h. copies count us h) (λ us is. each_are P (SyncsFile job.part ∷ []) us (syncs, tt) is) f

  open_stops : (why : CopyStop) (ts : List Entry) → OpenStopped job why ts → Each P ts
  open_stops (stop.Call call.Unlink path) ts h = each_maybe P (Unlinks job.part) ts unlinks h.2
  open_stops (stop.Call call.Make path) ts h = each_both P (Are (clearing job)) (Maybe (Makes job.part job.mode)) ts (λ us is. each_are P (clearing job) us clears is) (λ us m. each_maybe P (Makes job.part job.mode) us makes m) h.1
  open_stops (stop.Taken path) ts h = each_are P (clearing job) ts clears h.1
  open_stops _ ts h = absurd h

  fill_stops : (why : CopyStop) (ts : List Entry) → FillStopped job why ts → Each P ts
  fill_stops (stop.Call call.Read path) ts h = each_broke P job.from job.part (λ k piece short. reads k piece) appends job.limit broke.Read ts h.1
  fill_stops (stop.Call call.Append path) ts h = each_broke P job.from job.part (λ k piece short. reads k piece) appends job.limit broke.Append ts h.1
  fill_stops (stop.TooLong path) ts h = each_broke P job.from job.part (λ k piece short. reads k piece) appends job.limit broke.TooLong ts h.1
  fill_stops (stop.Call call.Sync path) ts h = each_both P (Copies job h.1.0) (Maybe (SyncsFile job.part)) ts (λ us c. copies h.1.0 us c) (λ us m. each_maybe P (SyncsFile job.part) us syncs m) h.1.1
  fill_stops _ ts h = absurd h

  stops : (why : CopyStop) → ((us : List Entry) → CloseStopped job why us → Each P us) → (ts : List Entry) → CopyStopped job why ts → Each P ts
  stops why close ts (at_open h) = open_stops why ts h
  stops why close ts (at_fill h) = each_both P (Are (opening job)) (FillStopped job why) ts (λ us is. each_are P (opening job) us opens is) (λ us f. fill_stops why us f) h
  stops why close ts (at_close count h) = each_both P (Are (opening job)) (Then (Fills job count) (CloseStopped job why)) ts (λ us is. each_are P (opening job) us opens is)
      (λ us g. each_both P (Fills job count) (CloseStopped job why) us (λ vs f. fills count vs f) close g) h

-- ---- no truncation

name_empties : (job : Job) (why : CopyStop) (ts : List Entry) → NameStopped job why ts → Each EmptiesNone ts
name_empties job (stop.Call call.Rename path) ts h = each_maybe EmptiesNone (Renames job.part job.to) ts tt h.1
name_empties job (stop.Call call.Sync path) ts h = each_both EmptiesNone (Are (Renames job.part job.to ∷ [])) (Maybe (SyncsDir job.dir)) ts (λ us is. each_are EmptiesNone (Renames job.part job.to ∷ []) us (tt, tt) is) (λ us m. each_maybe EmptiesNone (SyncsDir job.dir) us tt m) h.1
name_empties job _ ts h = absurd h

no_cut : (job : Job) (why : CopyStop) (ts : List Entry) → (IsCutStop why → ⊥) → CutStopped job why ts → ⊥
no_cut job (stop.Call call.Truncate path) ts not h = not tt
no_cut job _ ts not h = h

close_empties : (job : Job) (why : CopyStop) → (IsCutStop why → ⊥) → (ts : List Entry) → CloseStopped job why ts → Each EmptiesNone ts
close_empties job why not ts (at_name h) = name_empties job why ts h
close_empties job why not ts (at_cut h) = absurd (no_cut job why h.back not h.second)

pub keeps_log : (job : Job) (why : CopyStop) (ts : List Entry) → CopyStopped job why ts → (IsCutStop why → ⊥) → Each EmptiesNone ts
keeps_log job why ts h not = stops job EmptiesNone tt tt (λ k piece. tt) (λ piece. tt) tt why (close_empties job why not) ts h

-- ---- no rename

early_name : (job : Job) (why : CopyStop) (ts : List Entry) → IsEarly why → NameStopped job why ts → ⊥
early_name job (stop.Call call.Rename path) ts early h = early
early_name job (stop.Call call.Sync path) ts early h = early
early_name job _ ts early h = h

early_cut : (job : Job) (why : CopyStop) (ts : List Entry) → IsEarly why → CutStopped job why ts → ⊥
early_cut job (stop.Call call.Truncate path) ts early h = early
early_cut job _ ts early h = h

early_close : (job : Job) (why : CopyStop) (ts : List Entry) → IsEarly why → CloseStopped job why ts → ⊥
early_close job why ts early (at_name h) = early_name job why ts early h
early_close job why ts early (at_cut h) = early_cut job why h.back early h.second

pub renames_none : (job : Job) (why : CopyStop) (ts : List Entry) → CopyStopped job why ts → IsEarly why → Each RenamesNone ts
renames_none job why ts h early = stops job RenamesNone tt tt (λ k piece. tt) (λ piece. tt) tt why (λ us c. absurd (early_close job why us early c)) ts h
