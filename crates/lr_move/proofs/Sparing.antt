-- The entries of a copy, which take no file from the log's path and write to none there.
use Rattle.std.proofs.Common.{◌≡◌, ⊎_elim, ℕ, Bool, true, false, cond, sym, ◌∙◌, ap, List, [], ◌∷◌, ◌++◌}
use Rattle.lr_rules.specs.declared.fault.CallKind.TheVariants as call
use Rattle.lr_host.specs.declared.entry.Entry.{Entry}
use Rattle.lr_host.specs.declared.entry.Entry.TheVariants.{Reads, Renames, Makes, Appends, Truncates, Unlinks, SyncsFile, SyncsDir}
use Rattle.lr_host.specs.Lists.{IsIn}
use Rattle.lr_host.specs.Told.{Each, Then, Are, Maybe}
use Rattle.lr_host.proofs.Each.{each_append}
use Rattle.lr_copy.specs.declared.job.Job.{Job}
use Rattle.lr_copy.specs.declared.job.CopyStop.{CopyStop}
use Rattle.lr_copy.specs.declared.job.CopyStop.TheVariants as stop
use Rattle.lr_copy.specs.declared.job.BytesStop.{BytesStop}
use Rattle.lr_copy.specs.declared.job.BytesStop.TheVariants as broke
use Rattle.lr_copy.specs.Bytes.{BytesBroke}
use Rattle.lr_copy.specs.Copying.{Copies, clearing, opening, Fills, naming, Copied}
use Rattle.lr_copy.specs.Fits.{ArePaths}
use Rattle.lr_copy.specs.Stops.{OpenStopped, FillStopped, NameStopped, CutStopped, CloseStopped, at_name, at_cut, CopyStopped, at_open, at_fill, at_close}
use Rattle.lr_copy.proofs.EachOfBytes.{each_both, each_are, each_all, each_broke}
use Rattle.lr_copy.proofs.Keeping.{each_maybe}
use Rattle.lr_laws_family.specs.Whole.{Named}
use Rattle.lr_laws_family.proofs.Logs.{LeavesLog}

module _ (job : Job) (paths : ArePaths job) where
  abbrev P : Entry → Type 0
  P e = LeavesLog job.from e

  -- ---- each kind of them

  not_part : IsIn job.from (job.part ∷ []) → ⊥
  not_part i = ⊎_elim (λ e. paths.part_apart e) (λ none. none) i

  unlinks : P (Unlinks job.part)
  unlinks = (tt, not_part)

  makes : P (Makes job.part job.mode)
  makes = (tt, not_part)

  reads : (k : ℕ) (piece : List ℕ) → P (Reads job.from k piece)
  reads k piece = (tt, λ i. i)

  appends : (piece : List ℕ) → P (Appends job.part piece)
  appends piece = (paths.part_apart, λ i. i)

  syncs : P (SyncsFile job.part)
  syncs = (tt, λ i. i)

  renames : P (Renames job.part job.to)
  renames = (paths.part_apart, λ i. ⊎_elim (λ e. paths.part_apart e) (λ j. ⊎_elim (λ e. paths.to_apart e) (λ none. none) j) i)

  syncs_dir : P (SyncsDir job.dir)
  syncs_dir = (tt, λ i. i)

  -- ---- up to the sync of the directory

  clears : Each P (clearing job)
  clears = go job.stale
    where
      go : (b : Bool) → Each P (cond b (Unlinks job.part ∷ []) [])
      go true = (unlinks, tt)
      go false = tt

  opens : Each P (opening job)
  opens = each_append P (clearing job) (Makes job.part job.mode ∷ []) clears (makes, tt)

  copies : (count : ℕ) (ts : List Entry) → Copies job count ts → Each P ts
  copies count ts c = each_all P job.from job.part (λ k piece short. reads k piece) appends job.limit count ts c

  fills : (count : ℕ) (ts : List Entry) → Fills job count ts → Each P ts
  fills count ts f = each_both P (Copies job count) (Are (SyncsFile job.part ∷ [])) ts (λ us h. copies count us h) (λ us is. each_are P (SyncsFile job.part ∷ []) us (syncs, tt) is) f

  names : Each P (naming job)
  names = (renames, (syncs_dir, tt))

  pub spared_named : (count : ℕ) (ts : List Entry) → Named job count ts → Each P ts
  spared_named count ts n = each_both P (Are (opening job)) (Then (Fills job count) (Are (naming job))) ts (λ us is. each_are P (opening job) us opens is)
      (λ us g. each_both P (Fills job count) (Are (naming job)) us (λ vs f. fills count vs f) (λ vs is. each_are P (naming job) vs names is) g) n

  -- ---- up to where it broke off

  open_stops : (why : CopyStop) (ts : List Entry) → OpenStopped job why ts → Each P ts
  open_stops (stop.Call call.Unlink path) ts h = each_maybe P (Unlinks job.part) ts unlinks h.2
  open_stops (stop.Call call.Make path) ts h = each_both P (Are (clearing job)) (Maybe (Makes job.part job.mode)) ts (λ us is. each_are P (clearing job) us clears is) (λ us m. each_maybe P (Makes job.part job.mode) us makes m) h.1
  open_stops (stop.Taken path) ts h = each_are P (clearing job) ts clears h.1
  open_stops _ ts h = absurd h

  bytes_break : (why : BytesStop) (ts : List Entry) → BytesBroke job.from job.part job.limit why ts → Each P ts
  bytes_break why ts h = each_broke P job.from job.part (λ k piece short. reads k piece) appends job.limit why ts h

  fill_stops : (why : CopyStop) (ts : List Entry) → FillStopped job why ts → Each P ts
  fill_stops (stop.Call call.Read path) ts h = bytes_break broke.Read ts h.1
  fill_stops (stop.Call call.Append path) ts h = bytes_break broke.Append ts h.1
  fill_stops (stop.TooLong path) ts h = bytes_break broke.TooLong ts h.1
  fill_stops (stop.Call call.Sync path) ts h = each_both P (Copies job h.1.0) (Maybe (SyncsFile job.part)) ts (λ us c. copies h.1.0 us c) (λ us m. each_maybe P (SyncsFile job.part) us syncs m) h.1.1
  fill_stops _ ts h = absurd h

  name_stops : (why : CopyStop) (ts : List Entry) → NameStopped job why ts → Each P ts
  name_stops (stop.Call call.Rename path) ts h = each_maybe P (Renames job.part job.to) ts renames h.1
  name_stops (stop.Call call.Sync path) ts h = each_both P (Are (Renames job.part job.to ∷ [])) (Maybe (SyncsDir job.dir)) ts (λ us is. each_are P (Renames job.part job.to ∷ []) us (renames, tt) is) (λ us m. each_maybe P (SyncsDir job.dir) us syncs_dir m) h.1
  name_stops _ ts h = absurd h

  -- ---- of a log that isn't emptied

  module _ (uncut : job.cut ≡ false) where
    cut_stops : (why : CopyStop) (ts : List Entry) → CutStopped job why ts → ⊥
    cut_stops (stop.Call call.Truncate path) ts h = let both : true ≡ false = sym h.1 ∙ uncut in cc
    cut_stops _ ts h = h

    close_stops : (why : CopyStop) (ts : List Entry) → CloseStopped job why ts → Each P ts
    close_stops why ts (at_name h) = name_stops why ts h
    close_stops why ts (at_cut h) = absurd (cut_stops why h.back h.second)

    pub spared_stopped : (why : CopyStop) (ts : List Entry) → CopyStopped job why ts → Each P ts
    spared_stopped why ts (at_open h) = open_stops why ts h
    spared_stopped why ts (at_fill h) = each_both P (Are (opening job)) (FillStopped job why) ts (λ us is. each_are P (opening job) us opens is) (λ us f. fill_stops why us f) h
    spared_stopped why ts (at_close count h) = each_both P (Are (opening job)) (Then (Fills job count) (CloseStopped job why)) ts (λ us is. each_are P (opening job) us opens is)
        (λ us g. each_both P (Fills job count) (CloseStopped job why) us (λ vs f. fills count vs f) (λ vs s. close_stops why vs s) g) h

-- the entries of its copy end with the sync of the directory
pub uncut_named : (job : Job) (count : ℕ) (ts : List Entry) → job.cut ≡ false → Copied job count ts → Named job count ts
uncut_named job count ts uncut n = record {
  front = n.front;
  back = n.back;
  joined = n.joined;
  first = n.first;
  second = record {
    front = n.second.front;
    back = n.second.back;
    joined = n.second.joined;
    first = n.second.first;
    second = n.second.second ∙ ap (λ (b : Bool). naming job ++ cond b (Truncates job.from ∷ []) []) uncut;
  };
}
