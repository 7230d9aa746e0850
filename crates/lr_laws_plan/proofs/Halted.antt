-- A run that ended before its plan leaves all alone.
use Rattle.std.proofs.Common.{◌≡◌, inl, inr, Bool, true, false, Option, List, [], ◌∷◌, ◌++◌, reverse, refl, sym, subst}
use Rattle.std.proofs.lemmas.List.{reverse-reverse}
use Rattle.lr_rules.specs.declared.clock.Clock.{Clock}
use Rattle.lr_rules.specs.declared.path.Path.{Path}
use Rattle.lr_rules.specs.declared.rules.Rules.{Rules}
use Rattle.lr_rules.specs.Path.{parent_of}
use Rattle.lr_host.specs.declared.entry.Entry.{Entry}
use Rattle.lr_host.specs.declared.entry.Entry.TheVariants as entry
use Rattle.lr_host.specs.declared.thing.Seen.{Seen}
use Rattle.lr_host.specs.Looks.{Sees, IsDir, IsNothing}
use Rattle.lr_host.specs.Opening.{IsJournal}
use Rattle.lr_host.specs.Quiet.{AreQuiet, ChangeNothing}
use Rattle.lr_host.specs.Told.{Each, Made, Maybe}
use Rattle.lr_host.specs.World.{Past}
use Rattle.lr_host.proofs.Quiet.{quiet_still, sees_quiet, still_both, still_in_order, then_still, none_still}
use Rattle.lr_laws.specs.Renewing.{LeavesAlone}
use Rattle.lr_plan.specs.Asked.{Asked}
use Rattle.lr_looks.specs.Shown.{ShowsSomeLooks}
use Rattle.lr_state.proofs.Quiet.{state_quiet}
use Rattle.lr_looks.specs.Reserved.{reserved_by}
use Rattle.lr_laws_looks.proofs.Quiet.{whole_quiet, part_quiet}
use Rattle.lr_run.specs.Halt as halt
use Rattle.lr_run.specs.Halt.{DirBars, Halt, Halts, LacksState, Within, SomeSeen}
use Rattle.lr_run.specs.Saw.{ShowsStateFile, by_dir, by_none}
use Rattle.lr_run.specs.Work.{entries_of}
use Rattle.lr_run.proofs.Shape.{some_quiet}
use Rattle.lr_laws_plan.specs.Left.{IsLeftAlone}
use Rattle.lr_laws_plan.specs.Rest.{LeavesSets}
use Rattle.lr_laws_plan.proofs.Left.{left_alone}
use Rattle.lr_laws_plan.proofs.Rest.{still_member}
use Rattle.lr_laws_plan.proofs.Truth.{file_quiet}

sees_still : (x : Path) (P : Option Seen → Type 0) (ts : List Entry) → Sees x P ts → ChangeNothing ts
sees_still x P ts s = quiet_still ts (sees_quiet x ts s)

maybe_still : (state : Path) (clock : Clock) (rules : Rules) (ts : List Entry) → Maybe (entry.Starts state clock.now rules) ts → ChangeNothing ts
maybe_still state clock rules ts (inl e) = none_still ts e
maybe_still state clock rules ts (inr e) = subst ChangeNothing (sym e) refl

within_still : (debug : Bool) (state : Path) (clock : Clock) (rules : Rules) (P : List Entry → Type 0) (ts : List Entry) → ((us : List Entry) → P us → ChangeNothing us) → Within debug state clock rules P ts → ChangeNothing ts
within_still true state clock rules P ts still t = then_still (Sees (parent_of state) IsDir) P ts (sees_still (parent_of state) IsDir) still t
within_still false state clock rules P ts still i =
    subst ChangeNothing (sym i.entries) (still_both i.before (entry.Starts state clock.now rules ∷ (i.between ++ entry.Ends ∷ [])) (sees_still (parent_of state) IsDir i.before i.directory)
    (still_both i.between (entry.Ends ∷ []) (still i.between i.within) refl))

seen_still : (debug : Bool) (state : Path) (clock : Clock) (rules : Rules) (dir reads looks : List Entry) → ChangeNothing dir → ChangeNothing reads → ChangeNothing looks → ChangeNothing (entries_of debug state clock rules dir reads looks [])
seen_still true state clock rules dir reads looks d r l = still_both dir (reads ++ looks) d (still_both reads looks r l)
seen_still false state clock rules dir reads looks d r l = still_both dir (entry.Starts state clock.now rules ∷ (reads ++ (looks ++ entry.Ends ∷ []))) d (still_both reads (looks ++ entry.Ends ∷ []) r (still_both looks (entry.Ends ∷ []) l refl))

file_still : (debug : Bool) (state : Path) (text : List _) (stale : Bool) (dir reads : List Entry) → ShowsStateFile debug state text stale dir reads → ChangeNothing dir
file_still debug state text stale dir reads (by_dir saw t) = sees_still (parent_of state) IsDir dir saw
file_still debug state text stale dir reads (by_none dry saw empty none) = sees_still (parent_of state) IsNothing dir saw

halt_still : (debug : Bool) (state : Path) (asked : Asked) (clock : Clock) (rules : Rules) (h : Halt) (ts : List Entry) → Halts debug state rules clock asked h ts → ChangeNothing ts
halt_still debug state asked clock rules h ts (halt.not_seen is e) = none_still ts e
halt_still debug state asked clock rules h ts (halt.no_directory is s) = sees_still (parent_of state) (DirBars debug) ts s
halt_still debug state asked clock rules h ts (halt.held acts is s) = sees_still (parent_of state) IsDir ts s
halt_still debug state asked clock rules h ts (halt.not_begun acts is t) = then_still (Sees (parent_of state) IsDir) (Maybe (entry.Starts state clock.now rules)) ts (sees_still (parent_of state) IsDir) (maybe_still state clock rules) t
halt_still debug state asked clock rules h ts (halt.unknown f is i) = within_still debug state clock rules (LacksState state f) ts (λ us l. quiet_still us (state_quiet state 65_536 l.sights us l.shown)) i
halt_still debug state asked clock rules h ts (halt.too_big saw is o) = subst ChangeNothing (sym o.entries)
    (seen_still debug state clock rules o.dir o.reads o.looks (file_still debug state saw.text saw.stale o.dir o.reads o.seen.file) (quiet_still o.reads (file_quiet debug state saw.text saw.stale o.dir o.reads o.seen.file))
    (quiet_still o.looks (whole_quiet rules.sets saw.sets saw.faults o.looks o.seen.sets.shown)))
halt_still debug state asked clock rules h ts (halt.no_memory is e) = none_still ts e
halt_still debug state asked clock rules h ts (halt.short is i) = within_still debug state clock rules (SomeSeen state rules.sets) ts (λ us s. quiet_still us (some_quiet state rules.sets us s)) i
halt_still debug state asked clock rules h ts (halt.short_anew dry is t) =
    then_still (Sees (parent_of state) IsNothing) (ShowsSomeLooks (reserved_by state) rules.sets) ts (sees_still (parent_of state) IsNothing) (λ us s. quiet_still us (part_quiet rules.sets us s)) t

module _ (debug : Bool) (state : Path) (asked : Asked) (clock : Clock) (rules : Rules) (h : Halt) (p q : Past) (es reads ts : List Entry) (made : Made p es q) (journal : IsJournal p) (joined : reverse es ≡ reads ++ ts) (quiet : AreQuiet reads) (halts : Halts debug state rules clock asked h ts) where
  all_still : ChangeNothing (reverse es)
  all_still = subst ChangeNothing (sym joined) (still_both reads ts (quiet_still reads quiet) (halt_still debug state asked clock rules h ts halts))

  pub paths_alone : (x : Path) → IsLeftAlone p q x
  paths_alone x = left_alone p q es x made journal (subst (Each (LeavesAlone x)) (sym (still_in_order es all_still)) tt)

  pub sets_alone : LeavesSets [] p q
  sets_alone s none safe steady y k key = still_member s p q (reverse es) all_still (subst (λ (us : List Entry). Made p us q) (sym (reverse-reverse es)) made) steady y k key
