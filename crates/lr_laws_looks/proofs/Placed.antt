-- Behind the acts of a plan the state has its place.
use Rattle.std.proofs.Common.{◌≡◌, ◌⊎◌, inl, inr, ⊎_elim, ℕ, Bool, true, false, refl, sym, subst, List, [], ◌∷◌, map, reverse, Option, Some, None, Ok}
use Rattle.lr_rules.specs.declared.clock.Clock.{Clock}
use Rattle.lr_rules.specs.declared.fault.Fault.{Fault}
use Rattle.lr_rules.specs.declared.path.Path.{Path}
use Rattle.lr_rules.specs.declared.rule.Rule.{Rule}
use Rattle.lr_rules.specs.declared.rules.Rules.{Rules}
use Rattle.lr_rules.specs.Path.{parent_of}
use Rattle.lr_rules.specs.StatePath.{state_part}
use Rattle.lr_due.specs.declared.answer.Due.{Due}
use Rattle.lr_host.specs.declared.entry.Entry.{Entry}
use Rattle.lr_host.specs.declared.entry.Entry.TheVariants as entry
use Rattle.lr_host.specs.declared.journal.Journal.{Journal}
use Rattle.lr_host.specs.Fits.{IsFileAt, IsDirectoryAt}
use Rattle.lr_host.specs.Lists.{IsIn}
use Rattle.lr_host.specs.Opening.{IsJournal}
use Rattle.lr_host.specs.Quiet.{AreQuiet}
use Rattle.lr_host.specs.Told.{Left, not_told, is_told, Can, WhereTold}
use Rattle.lr_host.specs.World.{past, world, Names, names}
use Rattle.lr_host.proofs.Stays.{Stays, dir_more, file_more}
use Rattle.lr_host.proofs.Known.{left_journal}
use Rattle.lr_plan.specs.declared.looks.LogLook.{LogLook}
use Rattle.lr_plan.specs.declared.looks.SetLooks.{SetLooks}
use Rattle.lr_plan.specs.declared.mark.Mark.{Mark}
use Rattle.lr_plan.specs.Done.{SetsDone}
use Rattle.lr_plan.specs.Planned.{all_plans}
use Rattle.lr_plan.specs.Steps.{steps_of_set}
use Rattle.lr_looks.specs.Shown.{ShowsLooks}
use Rattle.lr_state.specs.declared.remembered.Remembered.{Remembered}
use Rattle.lr_state.specs.Known.{ReadsState}
use Rattle.lr_state.proofs.Quiet.{state_quiet}
use Rattle.lr_laws_rotations.specs.Target.{Target}
use Rattle.lr_laws_rotations.specs.Seen.{IsLogSeen}
use Rattle.lr_laws_rotations.proofs.LogSeen.{log_among}
use Rattle.lr_laws_acts.specs.Parts.{ArePlanned}
use Rattle.lr_laws_acts.specs.Planned.{HaveLogs}
use Rattle.lr_laws_acts.proofs.Marked.{marked_stands}
use Rattle.lr_laws_acts.proofs.Planning.{ready_planned}
use Rattle.lr_looks.specs.Reserved.{reserved_by}
use Rattle.lr_laws_looks.specs.Free.{AreFreeOf}
use Rattle.lr_laws_looks.specs.Targets.{groups_of, all_targets}
use Rattle.lr_laws_looks.proofs.Apart.{targets_apart}
use Rattle.lr_laws_looks.proofs.Quiet.{whole_quiet}
use Rattle.lr_laws_looks.proofs.Ready.{plans_have_logs}
use Rattle.lr_laws_looks.proofs.Seen.{targets_seen, targets_have_names, targets_have_paths}
use Rattle.lr_writing.specs.Fits.{AreDirectories, StateHasPlace, IsThere, CanBegin}
use Rattle.lr_writing.specs.Synced.{AreSynced}
use Rattle.lr_laws_looks.specs.Looked.{LooksCameTo}
use Rattle.lr_laws_looks.proofs.Acts.{Spares, acts_spare, IsFree, free_stays, free_kept, dir_kept, file_kept}
use Rattle.lr_laws_looks.proofs.Dirs.{IsDirOfLog, AreDirsOfLogs, dirs_of_logs}
use Rattle.lr_laws_looks.proofs.Lasting.{Holds, IsKeptBy, lasts, lasts_quiet, said}
use Rattle.lr_laws_looks.proofs.PlacedListed.{says_dir}
use Rattle.lr_laws_looks.proofs.Reading.{reading_says_free, reading_says_part}

-- ---- fact by fact

all_dirs : (n : Names) (dirs : List Path) → ((dir : Path) → IsIn dir dirs → IsDirectoryAt n dir) → AreDirectories n dirs
all_dirs n [] each = tt
all_dirs n (d ∷ dirs) each = (each d (inl refl), all_dirs n dirs (λ dir i. each dir (inr i)))

has_place : (state : Path) (dirs : List Path) (told : Option Journal) → Holds (IsFree state) told → Holds (λ n. IsDirectoryAt n (parent_of state)) told → ((dir : Path) → IsIn dir dirs → Holds (λ n. IsDirectoryAt n dir) told) → Holds (StateHasPlace state dirs) told
has_place state dirs None free place each = tt
has_place state dirs (Some j) free place each = record { no_directory = free.0; no_other = free.1; place = place; directories = all_dirs (names (world (past j))) dirs each }

is_there : (path : Path) (stale : Bool) (told : Option Journal) → (stale ≡ true → Holds (λ n. IsFileAt n path) told) → Holds (IsThere path stale) told
is_there path true told f = f refl
is_there path false None f = tt
is_there path false (Some j) f = tt

-- ---- all of them

shown_or_none : {P : List Entry → Type 0} {o n : Option Journal} → Left P o n → (n ≡ None) ⊎ ((ts : List Entry) × P ts)
shown_or_none not_told = inl refl
shown_or_none (is_told {es = es} m p) = inr (reverse es, p)

untold : {P : List Entry → Type 0} {o n : Option Journal} → Left P o n → o ≡ None → n ≡ None
untold not_told e = refl
untold (is_told m p) e = absurd (cc)

-- the law that no log of a plan has a reserved name
abbrev pub AllAreFree : Type 0
AllAreFree = (reserved : List Path) (rules : List Rule) (sets : List SetLooks) (faults : List Fault) (ts : List Entry) (clock : Clock) (decide : Rule → LogLook → Due) → ShowsLooks reserved rules sets faults ts → AreFreeOf reserved (all_targets clock decide rules sets)

-- behind a reading and looks that left entries
placed : AllAreFree → (state : Path) (size : ℕ) (r : Remembered) (rules : Rules) (sets : List SetLooks) (clock : Clock) (mailer : Path) (decide : Rule → LogLook → Due) (marks : List Mark) (faults : List Fault) (dirs : List Path) (before read looked acted : Option Journal) (us : List Entry)
    → AreSynced (all_plans clock mailer decide rules.sets sets) marks dirs → WhereTold before IsJournal → Can before (entry.List (parent_of state) [])
    → Left (ReadsState state size (Ok (Ok r))) before read → Left (LooksCameTo (reserved_by state) rules.sets sets) read looked → LooksCameTo (reserved_by state) rules.sets sets us
    → Left (SetsDone (map steps_of_set (all_plans clock mailer decide rules.sets sets)) marks faults) looked acted → CanBegin acted state r.stale dirs
placed free state size r rules sets clock mailer decide marks faults dirs before read looked acted us synced disk there reading looks shown acts = record {
  place = has_place state dirs acted
      (on (IsFree state) (free_stays state) (free_kept reserved state (inl refl)) (said (IsFree state) (free_stays state) disk reading quiet (reading_says_free state size r)))
      (on (λ n. IsDirectoryAt n (parent_of state)) (dir_more (parent_of state)) (dir_kept reserved (parent_of state)) (lasts_quiet (λ n. IsDirectoryAt n (parent_of state)) (dir_more (parent_of state)) reading quiet there.can))
      (λ dir i. let o = of_logs dir i in stands dir o.0 o.1 o.2);
  part = is_there (state_part state) r.stale acted (λ stale.
      on (λ n. IsFileAt n (state_part state)) (file_more (state_part state)) (file_kept reserved (state_part state) (inr (inl refl)))
      (said (λ n. IsFileAt n (state_part state)) (file_more (state_part state)) disk reading quiet (reading_says_part state size r stale)));
}
  where
    reserved : List Path
    reserved = reserved_by state

    targets : List Target
    targets = all_targets clock decide rules.sets sets

    quiet : (ts : List Entry) → ReadsState state size (Ok (Ok r)) ts → AreQuiet ts
    quiet ts s = state_quiet state size s.sights ts s.shown

    quiet_looks : (ts : List Entry) → LooksCameTo (reserved_by state) rules.sets sets ts → AreQuiet ts
    quiet_looks ts s = whole_quiet rules.sets sets s.0 ts s.1

    plans_are_of : HaveLogs (groups_of clock decide rules.sets sets) (all_plans clock mailer decide rules.sets sets)
    plans_are_of = plans_have_logs rules.sets sets shown.0 us clock mailer decide shown.1

    of_logs : AreDirsOfLogs targets marks dirs
    of_logs = dirs_of_logs (groups_of clock decide rules.sets sets) (all_plans clock mailer decide rules.sets sets) marks dirs plans_are_of synced

    seen : (t : Target) → IsIn t targets → (ts : List Entry) → LooksCameTo (reserved_by state) rules.sets sets ts → IsLogSeen rules clock ts t
    seen t i ts s = log_among rules clock ts targets (targets_seen rules sets s.0 ts clock decide s.1) t i

    planned : ArePlanned targets (map steps_of_set (all_plans clock mailer decide rules.sets sets))
    planned = ready_planned (groups_of clock decide rules.sets sets) (all_plans clock mailer decide rules.sets sets) plans_are_of (targets_apart rules.sets sets shown.0 us clock decide shown.1)

    over_acts : (Q : Names → Type 0) → Stays Q → IsKeptBy (Spares reserved) Q → Holds Q looked → Holds Q acted
    over_acts Q stays kept h = lasts Q (Spares reserved) stays kept acts (λ ts d.
        acts_spare reserved targets (map steps_of_set (all_plans clock mailer decide rules.sets sets)) marks faults ts (targets_have_names rules sets shown.0 us clock decide shown.1) (free reserved rules.sets sets shown.0 us clock decide shown.1) planned d) h

    -- a directory that was seen, or of which a mark tells
    stands : (dir : Path) (t : Target) → IsIn t targets → IsDirOfLog t marks dir → Holds (λ n. IsDirectoryAt n dir) acted
    stands dir t i of = ⊎_elim
        (λ made. marked_stands (map steps_of_set (all_plans clock mailer decide rules.sets sets)) marks faults dir looked acted made acts)
        (λ says. over_acts (λ n. IsDirectoryAt n dir) (dir_more dir) (dir_kept reserved dir) (said (λ n. IsDirectoryAt n dir) (dir_more dir) (left_journal reading disk) looks quiet_looks (λ ts s. says ts (seen t i ts s))))
        (says_dir rules clock us t marks dir (targets_have_paths rules.sets sets shown.0 us clock decide shown.1 t i) (seen t i us shown) of)

    on : (Q : Names → Type 0) → Stays Q → IsKeptBy (Spares reserved) Q → Holds Q read → Holds Q acted
    on Q stays kept h = over_acts Q stays kept (lasts_quiet Q stays looks quiet_looks h)

pub state_placed : AllAreFree → (state : Path) (size : ℕ) (remembered : Remembered) (rules : Rules) (sets : List SetLooks) (clock : Clock) (mailer : Path) (decide : Rule → LogLook → Due) (marks : List Mark) (faults : List Fault) (dirs : List Path) (before read looked acted : Option Journal)
    → AreSynced (all_plans clock mailer decide rules.sets sets) marks dirs → WhereTold before IsJournal → Can before (entry.List (parent_of state) [])
    → Left (ReadsState state size (Ok (Ok remembered))) before read → Left (LooksCameTo (reserved_by state) rules.sets sets) read looked
    → Left (SetsDone (map steps_of_set (all_plans clock mailer decide rules.sets sets)) marks faults) looked acted → CanBegin acted state remembered.stale dirs
state_placed free state size r rules sets clock mailer decide marks faults dirs before read looked acted synced disk there reading looks acts =
    ⊎_elim (λ none. subst (λ told. CanBegin told state r.stale dirs) (sym (untold acts none)) (record { place = tt; part = tt }))
    (λ s. placed free state size r rules sets clock mailer decide marks faults dirs before read looked acted s.0 synced disk there reading looks s.1 acts) (shown_or_none looks)
