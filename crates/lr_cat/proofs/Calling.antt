-- A call, from its clock on.
use Rattle.std.proofs.Common.{◌≡◌, ◌≢◌, ◌≤◌, ◌<◌, inl, inr, ◌⊎◌, ⊎_elim, ℕ, zero, suc, ℤ, Bool, false, List, [], ◌∷◌, ◌++◌, Option, Some, None, Result, Ok, Err, refl, sym, ap, ◌∙◌, subst, arith}
use Rattle.std.specs.Prelude.{All, Contains, IfErr}
use Rattle.std.proofs.lemmas.List.Elements.{All-contains}
use Rattle.lr_rules.specs.declared.path.Path.{Path}
use Rattle.lr_rules.specs.declared.clock.Clock.{Clock}
use Rattle.lr_rules.specs.declared.rules.Rules.{Rules}
use Rattle.lr_rules.specs.declared.rule.Naming.{Naming}
use Rattle.lr_rules.specs.declared.fault.Fault.{Fault}
use Rattle.lr_rules.specs.declared.fault.Fault.TheVariants as fault
use Rattle.lr_host.specs.declared.entry.Entry.{Entry}
use Rattle.lr_host.specs.declared.journal.Journal.{Journal}
use Rattle.lr_host.specs.Counted.{calls_in, RoseBy}
use Rattle.lr_host.specs.Lists.{IsIn}
use Rattle.lr_host.specs.Told.{Left, Counts, NoneFell}
use Rattle.lr_host.proofs.Counts.{calls_on}
use Rattle.lr_host.proofs.Left.{left_as, left_first, left_then}
use Rattle.lr_host.proofs.Lists.{in_from, in_to, in_append}
use Rattle.lr_conf.specs.Meaning.{Meaning}
use Rattle.lr_due.specs.declared.tz.Zone.TheVariants.{Utc}
use Rattle.lr_due.specs.declared.zone.ZoneText.{ZoneText}
use Rattle.lr_due.specs.Zone.{IsInRange, IsClockIn, IsRefusedZone}
use Rattle.lr_clock.specs.declared.clock.ClockStop.{ClockStop}
use Rattle.lr_clock.specs.declared.clock.ClockStop.TheVariants as clock_stop
use Rattle.lr_clock.specs.Clock.{ShowsClock, LacksClock, out_of_range, no_text, refused, ClockStopped, IsClockFault, is_range, is_text, is_refused}
use Rattle.lr_clock.specs.Zone.{LacksZoneMemory, at_first as zone_at_first, at_file as zone_at_file, not_file, too_big, look_failed, read_failed}
use Rattle.lr_family.specs.declared.family.Family.{Family}
use Rattle.lr_include.specs.Lacking.{LacksReading}
use Rattle.lr_include.specs.Readers.{IsConfOrCall}
use Rattle.lr_include.specs.Stages.{Reads}
use Rattle.lr_cat.specs.declared.outcome.CatOutcome.{CatOutcome}
use Rattle.lr_cat.specs.declared.outcome.CatOutcome.TheVariants as outcome
use Rattle.lr_cat.specs.declared.stop.CatStop.{CatStop}
use Rattle.lr_cat.specs.declared.stop.CatStop.TheVariants as stop
use Rattle.lr_cat.specs.declared.words.Wanted.{Wanted}
use Rattle.lr_cat.specs.Came.{Came, report_by, done_by, own_of, clock_fault, LogEnds, held, short, called, RulesEnd, given, ConfsEnd, not_read, read, CatEnds, no_clock, no_memory, behind_clock, CatShows, bad_words, wants}
use Rattle.lr_cat.specs.Cats.{Cats, StopsSo}
use Rattle.lr_cat.specs.First.{IsFound}
use Rattle.lr_cat.specs.Internal.{CameSo, IsNoClock, answer_by}
use Rattle.lr_cat.specs.Says.{HasCounted, HasFault}
use Rattle.lr_cat.specs.Stops.{StopCause, CameTo}
use Rattle.lr_cat.specs.Texts.{HasCause, PassesTexts}
use Rattle.lr_cat.specs.Words.{wanted}

-- it came to nothing, and left nothing
pub came_nowhere : (P : Option Came → List Entry → Type 0) (o : Option Journal) (x : Option (List ℕ)) → P None [] → CameSo P o o x x
came_nowhere P o x h = record { came = None; shown = left_first (P None) o h; took = refl }

pub came_as : (P Q : Option Came → List Entry → Type 0) {o k : Option Journal} {x y : Option (List ℕ)} → ((came : Option Came) (ts : List Entry) → P came ts → Q came ts) → CameSo P o k x y → CameSo Q o k x y
came_as P Q f c = record { came = c.came; shown = left_as c.shown (λ ts h. f c.came ts h); took = c.took }

pub came_behind : (P : List Entry → Type 0) (Q R : Option Came → List Entry → Type 0) {o m k : Option Journal} {x y : Option (List ℕ)} → ((came : Option Came) (ts us : List Entry) → P ts → Q came us → R came (ts ++ us)) → Left P o m → CameSo Q m k x y → CameSo R o k x y
came_behind P Q R f l c = record { came = c.came; shown = left_then l c.shown (λ ts us a b. f c.came ts us a b); took = c.took }

-- ---- behind the definition

module _ (w : Wanted) (clock : Clock) (m : Meaning) (rules : Rules) (n : Naming) where
  by_files : (how : Result Bool Fault) (out : CatOutcome) {o k : Option Journal} {x y : Option (List ℕ)} → out ≡ done_by m how → PassesTexts (Cats w clock rules n how) (own_of how) o k x y → CameSo (LogEnds w clock m rules n out) o k x y
  by_files how out is p = record {
    came = Some (record { clock = clock; meaning = m; rules = rules; naming = n; how = how; texts = p.texts });
    shown = left_as p.left (λ ts h. called how p.texts is refl h);
    took = p.took;
  }

  pub log_ends : (r : Result Bool CatStop) (out : CatOutcome) (o k : Option Journal) (x y : Option (List ℕ)) → out ≡ answer_by m.notices m.faults r → CameTo (λ how texts ts. Cats w clock rules n how texts ts) r o k x y
      → IfErr r (λ why. Left (StopsSo w clock rules why) o k) → CameSo (LogEnds w clock m rules n out) o k x y
  log_ends (Ok waits) out o k x y is p s = by_files (Ok waits) out is p
  log_ends (Err (stop.Fault f)) out o k x y is p s = by_files (Err f) out is p
  log_ends (Err stop.Held) out o k x y is p s = record { came = None; shown = left_as s (λ ts h. held is refl h); took = p }
  log_ends (Err stop.Memory) out o k x y is p s = record { came = None; shown = left_as s (λ ts h. short is refl h); took = p }

-- ---- by the counts

-- no call, and so no count
none_counted : (faults : List Fault) (a b : Counts) → calls_in faults ≡ 0 → a.faults ≤ b.faults → RoseBy (calls_in faults) a.faults b.faults
none_counted faults a b none le = omega (arith, none, le)

one_counted : (faults : List Fault) (f : Fault) (a b : Counts) (puts later : ℕ) → calls_in faults ≡ 0 → a.faults ≤ b.faults → HasCause f a b puts later → RoseBy (calls_in (faults ++ f ∷ [])) a.faults b.faults
one_counted faults f a b puts later none le h = let joined = calls_on faults (f ∷ []) in let one = by f h in omega (arith, none, le, joined, one)
  where
    by : (f : Fault) → HasCause f a b puts later → RoseBy (calls_in (f ∷ [])) a.faults b.faults
    by (fault.Call kind path) h = omega (arith, h)
    by fault.Out h = omega (arith, le)
    by (fault.NoDir path) h = omega (arith, le)
    by (fault.NotFile path) h = omega (arith, le)
    by (fault.TooLong path) h = omega (arith, le)
    by _ h = absurd h

pub answer_counted : (notices : List _) (faults : List Fault) (r : Result Bool CatStop) (out : CatOutcome) (a b : Counts) (puts later : ℕ) → out ≡ answer_by notices faults r → calls_in faults ≡ 0 → NoneFell a b → IfErr r (λ why. StopCause why a b puts later) → HasCounted out a b
answer_counted notices faults r out a b puts later is none le cause = subst (λ (z : CatOutcome). HasCounted z a b) (sym is) (by r cause)
  where
    by : (r : Result Bool CatStop) → IfErr r (λ why. StopCause why a b puts later) → HasCounted (answer_by notices faults r) a b
    by (Ok waits) c = none_counted faults a b none le.0
    by (Err (stop.Fault f)) c = one_counted faults f a b puts later none le.0 c
    by (Err stop.Held) c = c
    by (Err stop.Memory) c = tt

-- a fault that the configuration never has is the call's own
own_alone : (faults : List Fault) (f g : Fault) → (IsConfOrCall g → ⊥) → All IsConfOrCall faults → Contains (faults ++ f ∷ []) g → f ≡ g
own_alone faults f g none only has = ⊎_elim
    (λ i. absurd (none (All-contains IsConfOrCall faults g only (in_to g faults i))))
    (λ i. ⊎_elim (λ e. e) (λ z. absurd z) i)
    (in_append g faults (f ∷ []) (in_from g (faults ++ f ∷ []) has))

pub own_fault : (g : Fault) (notices : List _) (faults : List Fault) (r : Result Bool CatStop) (out : CatOutcome) (a b : Counts) (puts later : ℕ) → (IsConfOrCall g → ⊥) → out ≡ answer_by notices faults r → All IsConfOrCall faults → IfErr r (λ why. StopCause why a b puts later)
    → HasFault out g → HasCause g a b puts later
own_fault g notices faults r out a b puts later none is only cause has = by r cause (subst (λ (z : CatOutcome). HasFault z g) is has)
  where
    by : (r : Result Bool CatStop) → IfErr r (λ why. StopCause why a b puts later) → HasFault (answer_by notices faults r) g → HasCause g a b puts later
    by (Ok waits) c h = absurd (none (All-contains IsConfOrCall faults g only h))
    by (Err (stop.Fault f)) c h = subst (λ (z : Fault). HasCause z a b puts later) (own_alone faults f g none only h) c
    by (Err stop.Held) c h = absurd h
    by (Err stop.Memory) c h = absurd h

pub out_alone : IsConfOrCall fault.Out → ⊥
out_alone h = h

pub clock_alone : IsConfOrCall fault.Clock → ⊥
clock_alone h = h

pub no_words : (notices : List _) (faults : List Fault) (r : Result Bool CatStop) (out : CatOutcome) → out ≡ answer_by notices faults r → out ≢ outcome.BadWords
no_words notices faults r out is bad = by r (sym is ∙ bad)
  where
    by : (r : Result Bool CatStop) → answer_by notices faults r ≢ outcome.BadWords
    by (Ok waits) e = absurd (cc)
    by (Err (stop.Fault f)) e = absurd (cc)
    by (Err stop.Held) e = absurd (cc)
    by (Err stop.Memory) e = absurd (cc)

-- ---- behind the configuration

pub some_calls : (n : ℕ) → (n ≡ 0 → ⊥) → 0 < n
some_calls zero none = absurd (none refl)
some_calls (suc n) none = omega arith

module _ (w : Wanted) (clock : Clock) (out : CatOutcome) where
  pub found_ends : (m : Meaning) (rules : Rules) (family : Family) {o k : Option Journal} {x y : Option (List ℕ)} → IsFound rules.sets w.log (Some family) → CameSo (LogEnds w clock m rules family.naming out) o k x y → CameSo (RulesEnd w clock m rules out) o k x y
  found_ends m rules family found c = came_as (LogEnds w clock m rules family.naming out) (RulesEnd w clock m rules out)
      (λ came ts h. given found.0 found.1 found.4 (subst (λ (n : Naming). LogEnds w clock m rules n out came ts) found.3 h)) c

  pub confs_end : (m : Meaning) (rules : Rules) {o k n : Option Journal} {x y : Option (List ℕ)} → rules.sets ≡ m.rules → calls_in m.faults ≡ 0 → Left (Reads w.confs m) o k → CameSo (RulesEnd w clock m rules out) k n x y → CameSo (ConfsEnd w clock out) o n x y
  confs_end m rules same calls l c = came_behind (Reads w.confs m) (RulesEnd w clock m rules out) (ConfsEnd w clock out)
      (λ came ts us r h. read m rules same calls (record { front = ts; back = us; joined = refl; first = r; second = h })) l c

  pub confs_lack : {o k : Option Journal} (x : Option (List ℕ)) → out ≡ outcome.OutOfMemory → Left (LacksReading w.confs) o k → CameSo (ConfsEnd w clock out) o k x x
  confs_lack x is l = record { came = None; shown = left_as l (λ ts h. not_read is refl h); took = refl }

  pub confs_broke : (m : Meaning) {o k : Option Journal} (x : Option (List ℕ)) → out ≡ outcome.Done (report_by m None) false → (calls_in m.faults ≡ 0 → ⊥) → Left (Reads w.confs m) o k → CameSo (ConfsEnd w clock out) o k x x
  confs_broke m x is some l = record { came = None; shown = left_as l (λ ts h. ConfsEnd.broke_off m is refl (some_calls (calls_in m.faults) some) h); took = refl }

-- ---- the clock

pub utc_fault : (seconds : ℤ) (f : Fault) → IsClockFault Utc seconds f → (f ≡ fault.Clock) × ¬ (IsInRange seconds)
utc_fault seconds f (is_range out is) = (is, out)
utc_fault seconds f (is_text range t) = absurd t
utc_fault seconds f (is_refused text range is e no_zone) = absurd (subst IsRefusedZone is no_zone)

module _ (w : Wanted) (seconds : ℤ) (out : CatOutcome) where
  pub clock_ends : (clock : Clock) {o k n : Option Journal} {x y : Option (List ℕ)} → Left (ShowsClock Utc seconds clock) o k → CameSo (ConfsEnd w clock out) k n x y → CameSo (CatEnds w seconds out) o n x y
  clock_ends clock l c = came_behind (ShowsClock Utc seconds clock) (ConfsEnd w clock out) (CatEnds w seconds out)
      (λ came ts us s h. subst (λ (vs : List Entry). CatEnds w seconds out came (vs ++ us)) (sym s.shows.1) (behind_clock clock s.in_range (subst (λ (t : ZoneText). IsClockIn t seconds clock) s.shows.0 s.clock_is) h)) l c

  lacks_none : (f : Fault) (ts : List Entry) → LacksClock Utc seconds f ts → ts ≡ []
  lacks_none f ts (out_of_range r is e) = e
  lacks_none f ts (no_text range (not_file path is e s)) = absurd (cc)
  lacks_none f ts (no_text range (too_big path bytes is e lt s)) = absurd (cc)
  lacks_none f ts (no_text range (look_failed path is e s)) = absurd (cc)
  lacks_none f ts (no_text range (read_failed path is e s)) = absurd (cc)
  lacks_none f ts (refused text range is r s) = s.1

  clock_lacks : (f : Fault) {o k : Option Journal} (x : Option (List ℕ)) → IsNoClock (clock_stop.Fault f) out → IsClockFault Utc seconds f → Left (LacksClock Utc seconds f) o k → CameSo (CatEnds w seconds out) o k x x
  clock_lacks f x is c l = record { came = None; shown = left_as l (λ ts h. by ts (lacks_none f ts h) is); took = refl }
    where
      by : (ts : List Entry) → ts ≡ [] → IsNoClock (clock_stop.Fault f) out → CatEnds w seconds out None ts
      by ts none (inl e) = let u = utc_fault seconds f c in no_clock (e ∙ ap (λ (g : Fault). outcome.Done (record { notices = []; faults = g ∷ [] }) false) u.0) refl u.1 none
      by ts none (inr e) = no_memory e refl none

  memory_none : (ts : List Entry) → LacksZoneMemory Utc ts → ts ≡ []
  memory_none ts (zone_at_first e) = e
  memory_none ts (zone_at_file path is h) = absurd (cc)

  clock_short : {o k : Option Journal} (x : Option (List ℕ)) → out ≡ outcome.OutOfMemory → Left (LacksZoneMemory Utc) o k → CameSo (CatEnds w seconds out) o k x x
  clock_short x is l = record { came = None; shown = left_as l (λ ts h. no_memory is refl (memory_none ts h)); took = refl }

  pub clock_stops : (stop : ClockStop) (o k : Option Journal) (x : Option (List ℕ)) → IsNoClock stop out → ((f : Fault) → stop ≡ clock_stop.Fault f → IsClockFault Utc seconds f) → Left (ClockStopped Utc seconds stop) o k → CameSo (CatEnds w seconds out) o k x x
  clock_stops (clock_stop.Fault f) o k x is c l = clock_lacks f x is (c f refl) (left_as l (λ ts h. h))
  clock_stops clock_stop.Memory o k x is c l = clock_short x is (left_as l (λ ts h. h))

-- by the fault alone
abbrev pub FaultsOf : ClockStop → ℤ → Type 0
FaultsOf stop seconds = (f : Fault) → stop ≡ clock_stop.Fault f → IsClockFault Utc seconds f

pub stop_is_clock : (seconds : ℤ) (stop : ClockStop) (out : CatOutcome) → IsNoClock stop out → FaultsOf stop seconds → (out ≡ outcome.Done clock_fault false) ⊎ (out ≡ outcome.OutOfMemory)
stop_is_clock seconds (clock_stop.Fault f) out (inl e) c = inl (e ∙ ap (λ (g : Fault). outcome.Done (record { notices = []; faults = g ∷ [] }) false) (utc_fault seconds f (c f refl)).0)
stop_is_clock seconds (clock_stop.Fault f) out (inr e) c = inr e
stop_is_clock seconds clock_stop.Memory out e c = inr e

clock_counted : (out : CatOutcome) (a b : Counts) → (out ≡ outcome.Done clock_fault false) ⊎ (out ≡ outcome.OutOfMemory) → NoneFell a b → HasCounted out a b
clock_counted out a b (inl e) le = subst (λ (z : CatOutcome). HasCounted z a b) (sym e) (let l = le.0 in omega (arith, l))
clock_counted out a b (inr e) le = subst (λ (z : CatOutcome). HasCounted z a b) (sym e) tt

pub stop_counted : (seconds : ℤ) (stop : ClockStop) (out : CatOutcome) (a b : Counts) → IsNoClock stop out → FaultsOf stop seconds → NoneFell a b → HasCounted out a b
stop_counted seconds stop out a b is c le = clock_counted out a b (stop_is_clock seconds stop out is c) le

only_clock : (g : Fault) (out : CatOutcome) → (out ≡ outcome.Done clock_fault false) ⊎ (out ≡ outcome.OutOfMemory) → HasFault out g → fault.Clock ≡ g
only_clock g out (inl e) h = by (in_from g (fault.Clock ∷ []) (subst (λ (z : CatOutcome). HasFault z g) e h))
  where
    by : IsIn g (fault.Clock ∷ []) → fault.Clock ≡ g
    by (inl is) = is
    by (inr none) = absurd none
only_clock g out (inr e) h = absurd (subst (λ (z : CatOutcome). HasFault z g) e h)

pub stop_no_out : (seconds : ℤ) (stop : ClockStop) (out : CatOutcome) → IsNoClock stop out → FaultsOf stop seconds → HasFault out fault.Out → ⊥
stop_no_out seconds stop out is c h = let e = only_clock fault.Out out (stop_is_clock seconds stop out is c) h in absurd (cc)

pub stop_out_of_range : (seconds : ℤ) (stop : ClockStop) (out : CatOutcome) → IsNoClock stop out → FaultsOf stop seconds → HasFault out fault.Clock → ¬ (IsInRange seconds)
stop_out_of_range seconds (clock_stop.Fault f) out is c h = (utc_fault seconds f (c f refl)).1
stop_out_of_range seconds clock_stop.Memory out e c h = absurd (subst (λ (z : CatOutcome). HasFault z fault.Clock) e h)

pub stop_words : (stop : ClockStop) (out : CatOutcome) → IsNoClock stop out → out ≢ outcome.BadWords
stop_words (clock_stop.Fault f) out (inl e) bad = let t = sym e ∙ bad in absurd (cc)
stop_words (clock_stop.Fault f) out (inr e) bad = let t = sym e ∙ bad in absurd (cc)
stop_words clock_stop.Memory out e bad = let t = sym e ∙ bad in absurd (cc)

-- ---- the words

pub words_end : (here : Path) (words : List (List ℕ)) (seconds : ℤ) (w : Wanted) (out : CatOutcome) {o k : Option Journal} {x y : Option (List ℕ)} → wanted here words ≡ Some w → CameSo (CatEnds w seconds out) o k x y → CameSo (CatShows here words seconds out) o k x y
words_end here words seconds w out is c = came_as (CatEnds w seconds out) (CatShows here words seconds out) (λ came ts h. wants w is h) c

pub no_words_end : (here : Path) (words : List (List ℕ)) (seconds : ℤ) (out : CatOutcome) (o : Option Journal) (x : Option (List ℕ)) → out ≡ outcome.BadWords → wanted here words ≡ None → CameSo (CatShows here words seconds out) o o x x
no_words_end here words seconds out o x is none = came_nowhere (CatShows here words seconds out) o x (bad_words is refl none refl)

pub short_words_end : (here : Path) (words : List (List ℕ)) (seconds : ℤ) (out : CatOutcome) (o : Option Journal) (x : Option (List ℕ)) → out ≡ outcome.OutOfMemory → CameSo (CatShows here words seconds out) o o x x
short_words_end here words seconds out o x is = came_nowhere (CatShows here words seconds out) o x (CatShows.no_words is refl refl)

-- the seconds as the code has them
pub at_seconds : (w : Wanted) (out : CatOutcome) (s seconds : ℤ) {o k : Option Journal} {x y : Option (List ℕ)} → s ≡ seconds → CameSo (CatEnds w s out) o k x y → CameSo (CatEnds w seconds out) o k x y
at_seconds w out s seconds {o = o} {k = k} {x = x} {y = y} is c = subst (λ (z : ℤ). CameSo (CatEnds w z out) o k x y) is c

pub out_at : (s seconds : ℤ) → s ≡ seconds → ¬ (IsInRange s) → ¬ (IsInRange seconds)
out_at s seconds is none range = none (subst IsInRange (sym is) range)
