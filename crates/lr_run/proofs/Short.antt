-- Each read of a run gave 65,536 bytes at most.
use Rattle.std.proofs.Common.{⊎_elim, true, false, List, [], ◌∷◌, ◌++◌, Option, Result, Ok, Err, sym, subst}
use Rattle.lr_rules.specs.declared.path.Path.{Path}
use Rattle.lr_rules.specs.declared.clock.Clock.{Clock}
use Rattle.lr_rules.specs.declared.fault.Fault.{Fault}
use Rattle.lr_rules.specs.declared.rules.Rules.{Rules}
use Rattle.lr_rules.specs.Path.{parent_of}
use Rattle.lr_host.specs.declared.entry.Entry.{Entry}
use Rattle.lr_host.specs.declared.entry.Entry.TheVariants as entry
use Rattle.lr_host.specs.declared.thing.Seen.{Seen}
use Rattle.lr_host.specs.Looks.{Sees, IsDir, IsNotDir}
use Rattle.lr_host.specs.declared.journal.Journal.{Journal}
use Rattle.lr_host.specs.Told.{Each, Left}
use Rattle.lr_host.proofs.Each.{each_append}
use Rattle.lr_host.proofs.Left.{left_as}
use Rattle.lr_host.specs.Reading.{IsShortRead}
use Rattle.lr_plan.specs.Asked.{Asked}
use Rattle.lr_plan.specs.declared.plan.Plan.{Plan}
use Rattle.lr_laws_family.proofs.Weaving.{each_in}
use Rattle.lr_run.specs.declared.answer.Ran.{Ran}
use Rattle.lr_run.specs.declared.answer.RunStop.{RunStop}
use Rattle.lr_run.specs.declared.answer.RunStop.TheVariants as stop
use Rattle.lr_run.specs.InternalAnswers.{Answers}
use Rattle.lr_run.specs.Saw.{HasShortReads}
use Rattle.lr_run.specs.Ran.{RanSo}
use Rattle.lr_looks.specs.Inside.{Inside}
use Rattle.lr_run.specs.InternalRuns.{Runs, no_directory, not_seen, not_begun, began, LacksMemory, at_first, in_looks, in_acts}
use Rattle.lr_run.proofs.Entries.{first_so, works_so, broke_so}
use Rattle.lr_run.proofs.Sighted.{ends_so}
use Rattle.lr_run.proofs.Working.{IsDoing}

does_short : (e : Entry) → IsDoing e → IsShortRead e
does_short (entry.Reads x place piece) i = absurd i
does_short _ i = tt

short_reads : (ts : List Entry) → Each IsShortRead ts → HasShortReads ts
short_reads ts all x place piece i = each_in IsShortRead ts (entry.Reads x place piece) all i

sees_short : (x : Path) (Q : Option Seen → Type 0) (ts : List Entry) → Sees x Q ts → Each IsShortRead ts
sees_short x Q ts s = subst (Each IsShortRead) (sym s.look) (tt, tt)

inside_short : (state : Path) (clock : Clock) (rules : Rules) (P : List Entry → Type 0) (ts : List Entry) → ((us : List Entry) → P us → Each IsShortRead us) → Inside state clock rules P ts → Each IsShortRead ts
inside_short state clock rules P ts f i = subst (Each IsShortRead) (sym i.entries)
    (each_append IsShortRead i.before (entry.Starts state clock.now rules ∷ (i.between ++ entry.Ends ∷ [])) (sees_short (parent_of state) IsDir i.before i.directory)
    (tt, each_append IsShortRead i.between (entry.Ends ∷ []) (f i.between i.within) (tt, tt)))

runs_short : (state : Path) (asked : Asked) (clock : Clock) (rules : Rules) (plan : Option Plan) (own : List Fault) (ts : List Entry) → Runs state asked clock rules plan own ts → Each IsShortRead ts
runs_short state asked clock rules plan own ts (no_directory lost is s) = sees_short (parent_of state) IsNotDir ts s
runs_short state asked clock rules plan own ts (not_seen lost is none) = subst (Each IsShortRead) (sym none) tt
runs_short state asked clock rules plan own ts (not_begun lost is t) = subst (Each IsShortRead) (sym t.joined) (each_append IsShortRead t.front t.back (sees_short (parent_of state) IsDir t.front t.first)
    (⊎_elim (λ none. subst (Each IsShortRead) (sym none) tt) (λ one. subst (Each IsShortRead) (sym one) (tt, tt)) t.second))
runs_short state asked clock rules plan own ts (began i) = inside_short state clock rules _ ts (works_so IsShortRead (λ x place piece short. short) does_short state rules.sets clock asked plan own) i

lacks_short : (state : Path) (asked : Asked) (clock : Clock) (rules : Rules) (ts : List Entry) → LacksMemory state asked clock rules ts → Each IsShortRead ts
lacks_short state asked clock rules ts (at_first none) = subst (Each IsShortRead) (sym none) tt
lacks_short state asked clock rules ts (in_looks i) = inside_short state clock rules _ ts (first_so IsShortRead (λ x place piece short. short) does_short state rules.sets) i
lacks_short state asked clock rules ts (in_acts i) = inside_short state clock rules _ ts (broke_so IsShortRead (λ x place piece short. short) does_short state rules.sets clock asked) i

-- whatever the answer
pub answers_short : (state : Path) (asked : Asked) (clock : Clock) (rules : Rules) (earlier : List Fault) (r : Result Ran RunStop) (ts : List Entry) → Answers state false asked clock rules earlier r ts → HasShortReads ts
answers_short state asked clock rules earlier (Ok ran) ts h = short_reads ts (runs_short state asked clock rules ran.plan h.0 ts h.2)
answers_short state asked clock rules earlier (Err stop.Held) ts h = short_reads ts (sees_short (parent_of state) IsDir ts h)
answers_short state asked clock rules earlier (Err stop.Memory) ts h = short_reads ts (lacks_short state asked clock rules ts h)

-- and so of a dry run
pub dry_short : (state : Path) (rules : Rules) (clock : Clock) (asked : Asked) (earlier : List Fault) (r : Result Ran RunStop) {o n : Option Journal} → RanSo true state rules clock asked earlier r o n → Left HasShortReads o n
dry_short state rules clock asked earlier r ran = left_as ran.shows (λ ts h. short_reads ts (ends_so IsShortRead (λ x seen. tt) (λ x names. tt) (λ x place piece short. short) state rules clock asked earlier r ran.work ts h))
