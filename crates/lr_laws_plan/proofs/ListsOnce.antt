-- A run lists a directory once, and once for each wildcard, however it ends.
use Rattle.std.proofs.Common.{◌≡◌, ◌≤◌, ◌+◌, inl, inr, ℕ, Bool, true, false, Option, List, [], ◌∷◌, ◌++◌, length, take, reverse, Result, Ok, Err, refl, sym, ◌∙◌, subst, arith}
use Rattle.std.proofs.lemmas.List.{reverse-reverse}
use Rattle.lr_rules.specs.declared.clock.Clock.{Clock}
use Rattle.lr_rules.specs.declared.fault.Fault.{Fault}
use Rattle.lr_rules.specs.declared.path.Path.{Path}
use Rattle.lr_rules.specs.declared.rule.Rule.{Rule}
use Rattle.lr_rules.specs.declared.rules.Rules.{Rules}
use Rattle.lr_rules.specs.Path.{parent_of}
use Rattle.lr_host.specs.declared.entry.Entry.{Entry}
use Rattle.lr_host.specs.declared.entry.Entry.TheVariants as entry
use Rattle.lr_host.specs.Looks.{IsDir, IsNothing}
use Rattle.lr_host.specs.Told.{Made, Maybe}
use Rattle.lr_host.specs.World.{Past}
use Rattle.lr_host.proofs.Each.{each_append, each_as}
use Rattle.lr_host.proofs.Made.{Cut}
use Rattle.lr_glob.specs.Listings.{listings_of}
use Rattle.lr_plan.specs.Asked.{Asked}
use Rattle.lr_plan.specs.declared.plan.Plan.{Plan}
use Rattle.lr_plan.specs.declared.looks.SetLooks.{SetLooks}
use Rattle.lr_plan.specs.Course.{Course}
use Rattle.lr_plan.specs.Cut.{SetsCut}
use Rattle.lr_plan.specs.Done.{SetsDone, rotated_logs}
use Rattle.lr_plan.specs.Planned.{decision}
use Rattle.lr_plan.specs.Steps.{state_steps, steps_of_plan}
use Rattle.lr_looks.specs.Shown.{ShowsLooks, ShowsSomeLooks, at_words, at_families}
use Rattle.lr_state.specs.Sights.{StateSights, ShowsState}
use Rattle.lr_looks.specs.Reserved.{reserved_by}
use Rattle.lr_run.specs.declared.answer.Ran.{Ran}
use Rattle.lr_run.specs.declared.answer.RunStop.{RunStop}
use Rattle.lr_run.specs.declared.answer.RunStop.TheVariants as stop
use Rattle.lr_run.specs.Halt as halt
use Rattle.lr_run.specs.Halt.{DirBars, Halt, Halts, LacksState, Within, SomeSeen, of_state, of_looks}
use Rattle.lr_run.specs.Ran.{AnswersWork, RunEnds, halted, came}
use Rattle.lr_run.specs.Saw.{ShowsSets, ShowsSaw, ShowsStateFile, by_dir, by_none, plan_by, text_by}
use Rattle.lr_run.specs.Work.{Work, CarriesOut, BreaksOff, IsPlanOf, run_entries, first_entries, no_acts}
use Rattle.lr_run.proofs.Seeing.{state_so}
use Rattle.lr_run.proofs.Stating.{IsWrite, IsWriting, state_writing}
use Rattle.lr_laws_plan.specs.Listings.{wildcards_of}
use Rattle.lr_laws_plan.proofs.CountedListings.{IsNoListing, AreNoListings, count_none, count_joined, none_both, none_empty}
use Rattle.lr_laws_plan.proofs.FamiliesListOnce.{families_once}
use Rattle.lr_laws_plan.proofs.Looking.{Looking, run_looks, last_entries, around_looks}
use Rattle.lr_laws_plan.proofs.LooksListNone.{sees_none}
use Rattle.lr_laws_plan.proofs.Moves.{plan_moves, cut_moves, moves_list_none}
use Rattle.lr_laws_plan.proofs.Standing.{cut_at}
use Rattle.lr_laws_plan.proofs.WordsListOnce.{asked_once, some_asked_once}

-- ---- what lists nothing

-- the reading of the state
pub state_read_none : (state : Path) (s : StateSights) (ts : List Entry) → ShowsState state 65_536 s ts → AreNoListings ts
state_read_none = state_so IsNoListing (λ x seen. tt) (λ x place piece short. tt)

file_none : (debug : Bool) (state : Path) (text : List ℕ) (stale : Bool) (dir reads : List Entry) → ShowsStateFile debug state text stale dir reads → AreNoListings dir × AreNoListings reads
file_none debug state text stale dir reads (by_dir saw t) = (sees_none (parent_of state) IsDir dir saw, state_read_none state t.sights reads t.shown)
file_none debug state text stale dir reads (by_none dry saw empty none) = (sees_none (parent_of state) IsNothing dir saw, none_empty reads none)

-- its writing
no_listing : (e : Entry) → IsWrite e → IsNoListing e
no_listing (entry.List dir names) i = absurd i
no_listing _ i = tt

pub state_written_none : (state : Path) (stale : Bool) (dirs : List Path) (text : List ℕ) (fs : List Fault) (ts : List Entry) → Course (state_steps state stale dirs text) [] fs ts → AreNoListings ts
state_written_none state stale dirs text fs ts h = each_as (IsWriting state) IsNoListing ts (λ e i. no_listing e i.0) (state_writing state stale dirs text fs ts h)

maybe_starts : (state : Path) (clock : Clock) (rules : Rules) (ts : List Entry) → Maybe (entry.Starts state clock.now rules) ts → AreNoListings ts
maybe_starts state clock rules ts (inl e) = none_empty ts e
maybe_starts state clock rules ts (inr e) = subst AreNoListings (sym e) (tt, tt)

-- the acts
module _ (state : Path) (rules : Rules) (clock : Clock) (asked : Asked) (w : Work) (planned : IsPlanOf rules.sets w.saw clock asked w.plan) where
  done_none : CarriesOut state clock w → AreNoListings w.did
  done_none out = none_both w.did
      (λ us h. moves_list_none us (plan_moves rules.sets w.saw.sets clock asked.mailer (decision w.saw.table clock.now asked.force) w.acts.marks w.acts.of_logs us (subst (λ (plan : Plan). SetsDone (steps_of_plan plan) w.acts.marks w.acts.of_logs us) planned.is h)))
      (λ us h. state_written_none state w.saw.stale w.acts.dirs (text_by w.saw clock (rotated_logs w.acts.marks)) w.acts.of_state us h) out.entries

  cut_none : BreaksOff w → AreNoListings w.did
  cut_none off = moves_list_none w.did (cut_moves rules.sets w.saw.sets clock asked.mailer (decision w.saw.table clock.now asked.force) w.acts.marks w.acts.of_logs w.did (subst (λ (plan : Plan). SetsCut (steps_of_plan plan) w.acts.marks w.acts.of_logs w.did) planned.is off.part))

  -- what a run does behind its looks
  last_none : (debug : Bool) (earlier : List Fault) (r : Result Ran RunStop) → AnswersWork debug state clock earlier w r → AreNoListings (last_entries debug w)
  last_none true earlier r a = tt
  last_none false earlier (Ok ran) a = each_append IsNoListing w.did (entry.Ends ∷ []) (done_none a.1) (tt, tt)
  last_none false earlier (Err stop.Memory) a = each_append IsNoListing w.did (entry.Ends ∷ []) (cut_none a) (tt, tt)
  last_none false earlier (Err stop.Held) a = absurd a

first_none : (debug : Bool) (state : Path) (clock : Clock) (rules : Rules) (w : Work) → AreNoListings w.dir → AreNoListings (first_entries debug state clock rules w)
first_none true state clock rules w none = none
first_none false state clock rules w none = each_append IsNoListing w.dir (entry.Starts state clock.now rules ∷ []) none (tt, tt)

-- ---- what lists a directory so often

-- entries that list nothing list the directory at most so often
none_once : (n : ℕ) (dir : Path) (ts : List Entry) → AreNoListings ts → listings_of dir ts ≤ n + 1
none_once n dir ts h = let a = count_none dir ts h in omega (arith, a)

-- nor do they add to what others list
behind_none : (n : ℕ) (dir : Path) (ts front back : List Entry) → ts ≡ front ++ back → AreNoListings front → listings_of dir back ≤ n → listings_of dir ts ≤ n
behind_none n dir ts front back e none few = let j = count_joined dir ts front back e in let a = count_none dir front none in omega (arith, j, a, few)

before_none : (n : ℕ) (dir : Path) (ts front back : List Entry) → ts ≡ front ++ back → AreNoListings back → listings_of dir front ≤ n → listings_of dir ts ≤ n
before_none n dir ts front back e none few = let j = count_joined dir ts front back e in let a = count_none dir back none in omega (arith, j, a, few)

-- the looks
looks_once : (p q : Past) (reserved : List Path) (rules : List Rule) (sets : List SetLooks) (faults : List Fault) (ts : List Entry) (dir : Path) → Made p (reverse ts) q → ShowsLooks reserved rules sets faults ts → listings_of dir ts ≤ wildcards_of rules + 1
looks_once p q reserved rules sets faults ts dir m s =
    let c : Cut p q (reverse s.entries.back) (reverse s.entries.front) = cut_at p q ts s.entries.front s.entries.back s.entries.joined m in
    let j = count_joined dir ts s.entries.front s.entries.back s.entries.joined in
    let a = asked_once p c.mid rules s.entries.first.sights s.entries.front dir c.first s.entries.first.shown in
    let b = families_once [] s.kept s.entries.second.listings s.entries.second.families.sights s.entries.back dir s.entries.second.families.shown in
    omega (arith, j, a, b)

-- a first part of them
some_looks_once : (p q : Past) (reserved : List Path) (rules : List Rule) (ts : List Entry) (dir : Path) → Made p (reverse ts) q → ShowsSomeLooks reserved rules ts → listings_of dir ts ≤ wildcards_of rules + 1
some_looks_once p q reserved rules ts dir m (at_words s) = let a = some_asked_once p q rules (length s.sights) s.sights ts dir m s.shown in omega (arith, a)
some_looks_once p q reserved rules ts dir m (at_families found of_words kept of_kept keeps t) =
    let c : Cut p q (reverse t.back) (reverse t.front) = cut_at p q ts t.front t.back t.joined m in
    let j = count_joined dir ts t.front t.back t.joined in
    let a = asked_once p c.mid rules t.first.sights t.front dir c.first t.first.shown in
    let b = families_once [] (take (length t.second.sights) kept) t.second.after t.second.sights t.back dir t.second.shown in
    omega (arith, j, a, b)

some_seen_once : (p q : Past) (state : Path) (rules : List Rule) (ts : List Entry) (dir : Path) → Made p (reverse ts) q → SomeSeen state rules ts → listings_of dir ts ≤ wildcards_of rules + 1
some_seen_once p q state rules ts dir m (of_state sights shown) = none_once (wildcards_of rules) dir ts (state_read_none state sights ts shown)
some_seen_once p q state rules ts dir m (of_looks sights remembered known t) =
    let c : Cut p q (reverse t.back) (reverse t.front) = cut_at p q ts t.front t.back t.joined m in
    behind_none (wildcards_of rules + 1) dir ts t.front t.back t.joined (state_read_none state sights t.front t.first) (some_looks_once c.mid q (reserved_by state) rules t.back dir c.second t.second)

-- ---- a run

-- what lists it so often, behind the look at the state's directory, and in a run that acts between its begin and its end
within_once : (n : ℕ) (p q : Past) (debug : Bool) (state : Path) (clock : Clock) (rules : Rules) (P : List Entry → Type 0) (ts : List Entry) (dir : Path) → ((u v : Past) (us : List Entry) → Made u (reverse us) v → P us → listings_of dir us ≤ n) → Made p (reverse ts) q
    → Within debug state clock rules P ts → listings_of dir ts ≤ n
within_once n p q true state clock rules P ts dir few m t =
    let c : Cut p q (reverse t.back) (reverse t.front) = cut_at p q ts t.front t.back t.joined m in
    behind_none n dir ts t.front t.back t.joined (sees_none (parent_of state) IsDir t.front t.first) (few c.mid q t.back c.second t.second)
within_once n p q false state clock rules P ts dir few m i =
    let c : Cut p q (reverse (starts ∷ (i.between ++ entry.Ends ∷ []))) (reverse i.before) = cut_at p q ts i.before (starts ∷ (i.between ++ entry.Ends ∷ [])) i.entries m in
    let d : Cut c.mid q (reverse (i.between ++ entry.Ends ∷ [])) (reverse (starts ∷ [])) = cut_at c.mid q (starts ∷ (i.between ++ entry.Ends ∷ [])) (starts ∷ []) (i.between ++ entry.Ends ∷ []) refl c.second in
    let e : Cut d.mid q (reverse (entry.Ends ∷ [])) (reverse i.between) = cut_at d.mid q (i.between ++ entry.Ends ∷ []) i.between (entry.Ends ∷ []) refl d.second in
    behind_none n dir ts i.before (starts ∷ (i.between ++ entry.Ends ∷ [])) i.entries (sees_none (parent_of state) IsDir i.before i.directory)
    (behind_none n dir (starts ∷ (i.between ++ entry.Ends ∷ [])) (starts ∷ []) (i.between ++ entry.Ends ∷ []) refl (tt, tt)
    (before_none n dir (i.between ++ entry.Ends ∷ []) i.between (entry.Ends ∷ []) refl (tt, tt) (few d.mid e.mid i.between e.first i.within)))
  where
    starts : Entry
    starts = entry.Starts state clock.now rules

-- the looks of a run that saw this
pub run_looks_once : (debug : Bool) (state : Path) (clock : Clock) (rules : Rules) (w : Work) (p q : Past) (es reads : List Entry) → Made p es q → reverse es ≡ reads ++ run_entries debug state clock rules w → ShowsSets state rules.sets w.saw w.looks → (dir : Path) → listings_of dir w.looks ≤ wildcards_of rules.sets + 1
run_looks_once debug state clock rules w p q es reads made joined shows dir = looks_once c.mid l.looked (reserved_by state) rules.sets w.saw.sets w.saw.faults w.looks dir c.second shows.shown
  where
    l : Looking p q (reads ++ first_entries debug state clock rules w) (w.reads ++ w.looks) (last_entries debug w)
    l = run_looks debug state clock rules w p q es reads made joined

    c : Cut l.at l.looked (reverse w.looks) (reverse w.reads)
    c = cut_at l.at l.looked (w.reads ++ w.looks) w.reads w.looks refl l.between

-- all that it left
module _ (p q : Past) (debug : Bool) (state : Path) (clock : Clock) (rules : Rules) (ts : List Entry) (made : Made p (reverse ts) q) where
  work_once : (w : Work) → ts ≡ run_entries debug state clock rules w → ShowsSaw debug state rules.sets w.saw w.dir w.reads w.looks → AreNoListings (last_entries debug w) → (dir : Path) → listings_of dir ts ≤ wildcards_of rules.sets + 1
  work_once w e shows last dir =
      behind_none n dir ts first ((w.reads ++ w.looks) ++ last_entries debug w) (e ∙ around_looks debug state clock rules w) (first_none debug state clock rules w none.0)
      (before_none n dir ((w.reads ++ w.looks) ++ last_entries debug w) (w.reads ++ w.looks) (last_entries debug w) refl last
      (behind_none n dir (w.reads ++ w.looks) w.reads w.looks refl none.1
      (run_looks_once debug state clock rules w p q (reverse ts) [] made (reverse-reverse ts ∙ e) shows.sets dir)))
    where
      n : ℕ
      n = wildcards_of rules.sets + 1

      first : List Entry
      first = first_entries debug state clock rules w

      none : AreNoListings w.dir × AreNoListings w.reads
      none = file_none debug state w.saw.text w.saw.stale w.dir w.reads shows.file

  halt_once : (asked : Asked) (h : Halt) → Halts debug state rules clock asked h ts → (dir : Path) → listings_of dir ts ≤ wildcards_of rules.sets + 1
  halt_once asked h (halt.not_seen is e) dir = none_once (wildcards_of rules.sets) dir ts (none_empty ts e)
  halt_once asked h (halt.no_directory is s) dir = none_once (wildcards_of rules.sets) dir ts (sees_none (parent_of state) (DirBars debug) ts s)
  halt_once asked h (halt.held acts is s) dir = none_once (wildcards_of rules.sets) dir ts (sees_none (parent_of state) IsDir ts s)
  halt_once asked h (halt.not_begun acts is t) dir = none_once (wildcards_of rules.sets) dir ts (none_both ts (sees_none (parent_of state) IsDir) (maybe_starts state clock rules) t)
  halt_once asked h (halt.unknown f is i) dir = within_once (wildcards_of rules.sets + 1) p q debug state clock rules (LacksState state f) ts dir (λ u v us m l. none_once (wildcards_of rules.sets) dir us (state_read_none state l.sights us l.shown)) made i
  halt_once asked h (halt.too_big saw is o) dir = work_once (record { saw = saw; plan = plan_by rules.sets saw clock asked; acts = no_acts; dir = o.dir; reads = o.reads; looks = o.looks; did = [] }) o.entries o.seen (none_last debug) dir
    where
      none_last : (b : Bool) → AreNoListings (last_entries b (record { saw = saw; plan = plan_by rules.sets saw clock asked; acts = no_acts; dir = o.dir; reads = o.reads; looks = o.looks; did = [] }))
      none_last true = tt
      none_last false = (tt, tt)
  halt_once asked h (halt.no_memory is e) dir = none_once (wildcards_of rules.sets) dir ts (none_empty ts e)
  halt_once asked h (halt.short is i) dir = within_once (wildcards_of rules.sets + 1) p q debug state clock rules (SomeSeen state rules.sets) ts dir (λ u v us m s. some_seen_once u v state rules.sets us dir m s) made i
  halt_once asked h (halt.short_anew dry is t) dir =
      let c : Cut p q (reverse t.back) (reverse t.front) = cut_at p q ts t.front t.back t.joined made in
      behind_none (wildcards_of rules.sets + 1) dir ts t.front t.back t.joined (sees_none (parent_of state) IsNothing t.front t.first) (some_looks_once c.mid q (reserved_by state) rules.sets t.back dir c.second t.second)

  ends_once : (asked : Asked) (earlier : List Fault) (r : Result Ran RunStop) (work : Option Work) → RunEnds debug state rules clock asked earlier r work ts → (dir : Path) → listings_of dir ts ≤ wildcards_of rules.sets + 1
  ends_once asked earlier r work (halted h none hs a) dir = halt_once asked h hs dir
  ends_once asked earlier r work (came w is shows a e) dir = work_once w e shows.seen (last_none state rules clock asked w shows.plan debug earlier r a) dir

pub run_once : (debug : Bool) (state : Path) (asked : Asked) (clock : Clock) (rules : Rules) (earlier : List Fault) (r : Result Ran RunStop) (work : Option Work) (p q : Past) (es : List Entry) → Made p es q → RunEnds debug state rules clock asked earlier r work (reverse es) → (dir : Path) → listings_of dir (reverse es) ≤ wildcards_of rules.sets + 1
run_once debug state asked clock rules earlier r work p q es made ends dir = ends_once p q debug state clock rules (reverse es) (subst (λ (us : List Entry). Made p us q) (sym (reverse-reverse es)) made) asked earlier r work ends dir
