-- Each set stays safe over a run that rotates its logs behind all its looks.
use Rattle.std.proofs.Common.{◌≡◌, ◌≢◌, ◌⊎◌, inl, inr, ⊎_elim, false, refl, sym, ◌∙◌, ap, subst, ℤ, Option, Some, None, List, [], ◌∷◌, ◌++◌, reverse, append-nil}
use Rattle.std.specs.Prelude.{codes, filter}
use Rattle.std.proofs.lemmas.List.{reverse-reverse}
use Rattle.lr_rules.specs.declared.clock.Clock.{Clock}
use Rattle.lr_rules.specs.declared.path.Path.{Path}
use Rattle.lr_rules.specs.declared.rule.Way.{Way}
use Rattle.lr_rules.specs.declared.rule.Way.TheVariants.{Rename, RenameCopy}
use Rattle.lr_rules.specs.declared.rules.Rules.{Rules}
use Rattle.lr_rules.specs.Match.{RuleGives}
use Rattle.lr_rules.specs.Names.{IsName, Meet}
use Rattle.lr_host.specs.declared.entry.Entry.{Entry}
use Rattle.lr_host.specs.declared.entry.Entry.TheVariants as entry
use Rattle.lr_host.specs.declared.journal.Journal.{Journal}
use Rattle.lr_host.specs.Fits.{Fits, IsFileAt}
use Rattle.lr_host.specs.Lists.{IsIn}
use Rattle.lr_host.specs.Looks.{Sees, IsFile}
use Rattle.lr_host.specs.Opening.{IsJournal}
use Rattle.lr_host.specs.Quiet.{is_disk_change, AreQuiet, here as at_once, looked}
use Rattle.lr_host.specs.Runs.{rules_of, SomeRule, StoodAtStart}
use Rattle.lr_host.specs.Safe.{IsSafe}
use Rattle.lr_host.specs.Sets.{LogSet, IsUnplaced}
use Rattle.lr_host.specs.Steady.{IsKeyless, IsSteadyBy, IsSteady, NoneAttached}
use Rattle.lr_host.specs.Steps.{is_change}
use Rattle.lr_host.specs.Told.{Each, IsTools, Made, Left, not_told, is_told}
use Rattle.lr_host.specs.World.{Past, ◌▸◌, past, world, names}
use Rattle.lr_host.proofs.Each.{each_as}
use Rattle.lr_host.proofs.Quiet.{since_of, made_quiet, still_reverse, quiet_still}
use Rattle.lr_host.proofs.Steady.{none_attached_by, steady_before_by}
use Rattle.lr_laws.specs.Rotation.{IsAside}
use Rattle.lr_laws.proofs.Calls.{aside_walked}
use Rattle.lr_laws.specs.Forward.{IsForwardFor}
use Rattle.lr_laws.specs.Stays.{KeepsSafeBy, KeepsSafeWhere}
use Rattle.lr_laws.proofs.Moments.{for_quiet}
use Rattle.lr_laws_family.specs.Weave.{Among, FirstWoven}
use Rattle.lr_laws_rotations.proofs.Moments.{saw_file}
use Rattle.lr_laws_rotations.proofs.Over.{first_aside}
use Rattle.lr_laws_family.proofs.Weaving.{weave_as}
use Rattle.lr_laws_rotations.proofs.Weaving.{IsApart, IsApartOrMakes}
use Rattle.lr_laws_rotations.specs.AllTurns.{IsOfState, IsOfSome, StandsBetween}
use Rattle.lr_laws_rotations.specs.Target.{Target, GoesBy, target_entries}
use Rattle.lr_laws_rotations.proofs.AsideSafety.{aside_safe}
use Rattle.lr_laws_rotations.proofs.CallsFit.{log_paths}
use Rattle.lr_laws_rotations.proofs.Given.{gives, no_meet, naming_same, goes_by, by_rule}
use Rattle.lr_laws_rotations.proofs.LeftAlone.{apart_left}
use Rattle.lr_laws_rotations.proofs.Safety.{Here, find, Looked, looked as looked_at, Begun, begun, unbegun_safe}
use Rattle.lr_laws_rotations.specs.BesideSets.{LiesBeside, IsBesideSet}
use Rattle.lr_laws_rotations.proofs.Beside.{CopiesOutside, none_copies, any_beside, state_beside, between_beside}
use Rattle.lr_laws_rotations.proofs.OwnSafety.{own_safe}
use Rattle.lr_laws_rotations.proofs.Reached.{IsKnownFor, taken_at, aside_copies}
use Rattle.lr_laws_rotations.proofs.Way.{IsRenaming}
use Rattle.lr_laws_rotations.proofs.DatedWeaving.{apart_of, beside_apart}
use Rattle.lr_laws_rotations.specs.Runs.{AllTurnsBy, MayTurnAllBy, not_yet, started, IsWholeRunBy}
use Rattle.lr_laws_rotations.specs.Seen.{IsLogSeen, AreLogsSeen}
use Rattle.lr_laws_rotations.proofs.LogSeen.{has_dir, any_names, have_names, log_among}

-- ---- behind the looks

-- the state's entries lie beside
state_lies : (way : Way) (s : LogSet) (state : Path) (now : ℤ) (rules : Rules) (v : Past) → Here way s state now rules v → (e : Entry) → IsOfState state e → LiesBeside s e
state_lies way s state now rules v here e o = state_beside s state (here.steady.state state here.state_is) (here.steady.new_state state here.state_is) e o

module _ (clock : Clock) (way : Way) (s : LogSet) (state : Path) (rules : Rules) (u v : Past) (looks : List Entry) (quiet : AreQuiet looks) (m : Made u (reverse looks) v) (begun_u : (x : Path) → StoodAtStart x u → IsFileAt (names (world u)) x) (here : Here way s state clock.now.seconds rules v) (none_at : NoneAttached s v) where
  in_order : reverse (reverse looks) ≡ looks
  in_order = reverse-reverse looks

  file_of : (t : Target) → IsLogSeen rules clock looks t → IsFileAt (names (world v)) t.log
  file_of t l = saw_file u v (reverse looks) t.log m (subst AreQuiet (sym in_order) quiet) (subst (Among (Sees t.log IsFile)) (sym in_order) l.log_seen)

  no_meeting : (t : Target) → IsLogSeen rules clock looks t → t.log ≢ s.log → Meet s.log s.naming t.log t.naming → ⊥
  no_meeting t l other meet = no_meet way s u v rules.sets looks t quiet m begun_u here.journal here.steady here.rules_are l.given (file_of t l) other meet

  -- what is done to other logs lies beside
  some_beside : (ts : List Target) → AreLogsSeen rules clock looks ts → ((t : Target) → IsIn t ts → t.log ≢ s.log) → (e : Entry) → IsOfSome ts e → LiesBeside s e
  some_beside [] seen ne e h = absurd h
  some_beside (t ∷ ts) seen ne e (inl h) = any_beside s t e (any_names rules clock looks t seen.0) (no_meeting t seen.0 (ne t (inl refl))) h
  some_beside (t ∷ ts) seen ne e (inr h) = some_beside ts seen.1 (λ x i. ne x (inr i)) e h

  given_of : (t : Target) (l : IsLogSeen rules clock looks t) → RuleGives l.given.rule t.log
  given_of t l = gives u v rules.sets looks t quiet m l.given

  -- the set's own log has its naming
  own_naming : (t : Target) → IsLogSeen rules clock looks t → t.log ≡ s.log → s.naming ≡ t.naming
  own_naming t l same = naming_same way s v rules.sets looks t here.steady here.rules_are l.given (given_of t l) (sym same)

  between : (t : Target) (ts : List Target) → IsLogSeen rules clock looks t → AreLogsSeen rules clock looks ts → t.log ≡ s.log → CopiesOutside s t → (e : Entry) → StandsBetween state t ts e → IsBesideSet s e
  between t ts l seen same out e h = between_beside s state (here.steady.state state here.state_is) (here.steady.new_state state here.state_is) t ts e same (sym (own_naming t l same)) (has_dir t looks l.dir) out (have_names rules clock looks ts seen)
      (λ x i. no_meeting x (log_among rules clock looks ts seen x i)) h

  -- the set's own log goes the way of the set
  own_way : (t : Target) → IsLogSeen rules clock looks t → t.log ≡ s.log → GoesBy way t
  own_way t l same = goes_by way s v rules.sets looks t here.steady here.rules_are l.given (given_of t l) (sym same)

  -- ---- behind all acts

  rule_of : (t : Target) (l : IsLogSeen rules clock looks t) → t.log ≡ s.log → SomeRule (rules_of v) s.log (λ r. (r.count ≡ t.count) × (r.maxage ≡ t.maxage))
  rule_of t l same = subst (λ (x : Path). SomeRule (rules_of v) x (λ r. (r.count ≡ t.count) × (r.maxage ≡ t.maxage))) same
      (by_rule (λ r. (r.count ≡ t.count) × (r.maxage ≡ t.maxage)) v rules.sets looks t here.rules_are l.given (given_of t l) (l.given.count_is, l.given.maxage_is))

  acts_safe : IsRenaming way → (ts : List Target) → AreLogsSeen rules clock looks ts → (acts : List Entry) (q : Past) → IsForwardFor clock s v → Each (λ e. IsOfSome ts e ⊎ IsOfState state e) (filter is_change acts)
      → ((t : Target) → IsIn t ts → FirstWoven (StandsBetween state t ts) (target_entries t) (filter is_change acts)) → Made v (reverse acts) q → NoneAttached s q → IsSafe s q
  acts_safe renaming ts seen acts q forward all each mq none_q = ⊎_elim own others (find s ts)
    where
      -- what stands between its steps lies beside
      woven_in : (t : Target) → IsIn t ts → IsLogSeen rules clock looks t → t.log ≡ s.log → CopiesOutside s t → FirstWoven (IsApartOrMakes s) (target_entries t) (filter is_change acts)
      woven_in t i l same out = let w = each t i in
          record { made = w.made; first = w.first; woven = weave_as (StandsBetween state t ts) (IsApartOrMakes s) w.made (filter is_change acts) (λ e b. beside_apart s e (between t ts l seen same out e b)) w.woven }

      renamed : (t : Target) → IsIn t ts → (l : IsLogSeen rules clock looks t) → t.log ≡ s.log → IsUnplaced s t.ready.log → t.job ≡ None → IsSafe s q
      renamed t i l same at none = own_safe clock way s state rules u v looks quiet m here none_at forward t l same (own_naming t l same) at (rule_of t l same) none acts q (woven_in t i l same (none_copies s t none)) mq none_q

      by_way : (w : Way) → IsRenaming w → (t : Target) → IsIn t ts → (l : IsLogSeen rules clock looks t) → t.log ≡ s.log → GoesBy w t → IsSafe s q
      by_way Rename r t i l same (stays, none) = renamed t i l same (inl (stays.first_is ∙ same)) none
      by_way RenameCopy r t i l same (asked, inr taken) = renamed t i l same (taken_at s t (any_names rules clock looks t l) same (own_naming t l same) asked taken) taken.no_job
      by_way RenameCopy r t i l same (asked, inl a) =
          aside_safe clock way s state rules u v looks quiet m here none_at forward t l same (own_naming t l same) asked a (rule_of t l same) acts q
          (woven_in t i l same (aside_copies s t (any_names rules clock looks t l) same (own_naming t l same) a)) mq none_q
      by_way _ r t i l same g = absurd r

      own : ((t : Target) × IsIn t ts × (t.log ≡ s.log)) → IsSafe s q
      own f = let l = log_among rules clock looks ts seen f.0 f.1 in by_way way renaming f.0 f.1 l f.2 (own_way f.0 l f.2)

      aside : ((t : Target) → IsIn t ts → t.log ≢ s.log) → (e : Entry) → IsOfSome ts e ⊎ IsOfState state e → IsAside s e
      aside ne e (inl o) = (some_beside ts seen ne e o).0
      aside ne e (inr o) = (state_lies way s state clock.now.seconds rules v here e o).0

      others : ((t : Target) → IsIn t ts → t.log ≢ s.log) → IsSafe s q
      others ne = aside_walked s v q (reverse acts) here.journal here.safe mq
          (first_aside s (filter is_change acts) acts v q ([], sym (append-nil (filter is_change acts))) (each_as (λ e. IsOfSome ts e ⊎ IsOfState state e) (IsAside s) (filter is_change acts) (aside ne) all) mq) none_q

-- ---- the whole run

-- moments don't go ahead while nothing is changed
forward_on : (clock : Clock) (s : LogSet) (p q : Past) (looks : List Entry) → AreQuiet looks → Made p (reverse looks) q → NoneAttached s q → IsForwardFor clock s p → IsForwardFor clock s q
forward_on clock s p q looks quiet m none forward = for_quiet clock s p q (made_quiet (IsKeyless s) p q (reverse looks) (since_of (IsKeyless s) p q (reverse looks) m none) m (still_reverse looks (quiet_still looks quiet))) forward

tail_safe : (clock : Clock) (way : Way) → IsRenaming way → (s : LogSet) (u q : Past) (state : Path) (rules : Rules) (tail : List Entry) → AllTurnsBy state clock rules tail → Made (u ▸ entry.Starts state clock.now rules) (reverse tail) q
    → IsJournal (u ▸ entry.Starts state clock.now rules) → IsSafe s (u ▸ entry.Starts state clock.now rules) → IsForwardFor clock s (u ▸ entry.Starts state clock.now rules) → IsSteadyBy way s q → IsSafe s q
tail_safe clock way renaming s u q state rules tail t m journal safe forward st =
    let k = looked_at way s u q state clock.now rules tail t.looks t.acts t.joined t.quiet m journal safe st in
    acts_safe clock way s state rules (u ▸ entry.Starts state clock.now rules) k.mid t.looks t.quiet k.first (λ x h. h) k.here k.none renaming t.targets t.seen t.acts q
    (forward_on clock s (u ▸ entry.Starts state clock.now rules) k.mid t.looks t.quiet k.first k.none forward) t.all t.each k.second (none_attached_by way s q st)

-- nor over the start of the run
forward_begun : (clock : Clock) (s : LogSet) (p at : Past) (front : List Entry) (start : Entry) → AreQuiet front → Made p (reverse front) at → IsTools start → Fits (world at) start → is_disk_change start ≡ false → NoneAttached s at → IsForwardFor clock s p → IsForwardFor clock s (at ▸ start)
forward_begun clock s p at front start quiet ahead tools fits nothing none forward = for_quiet clock s at (at ▸ start) (looked at_once tools fits nothing) (forward_on clock s p at front quiet ahead none forward)

run_safe : (clock : Clock) (way : Way) → IsRenaming way → (s : LogSet) (p q : Past) (es : List Entry) → IsForwardFor clock s p → IsJournal p → IsSafe s p → Made p es q → IsWholeRunBy clock (reverse es) → IsSteadyBy way s q → IsSafe s q
run_safe clock way renaming s p q es forward journal safe m run st = go run.goes_on
  where
    go : MayTurnAllBy clock run.rest → IsSafe s q
    go (not_yet none) = unbegun_safe way s p q es run.front run.rest run.joined none run.quiet journal safe m st
    go (started state rules tail is tail_is) =
        let b = begun way s p q es run.front tail state clock.now rules (run.joined ∙ ap (λ (xs : List Entry). run.front ++ xs) is) run.quiet journal safe m st in
        let none = (none_attached_by way s (b.at ▸ entry.Starts state clock.now rules) (steady_before_by way s (b.at ▸ entry.Starts state clock.now rules) q (reverse tail) b.behind st)).0 in
        tail_safe clock way renaming s b.at q state rules tail tail_is b.behind b.journal b.safe (forward_begun clock s p b.at run.front (entry.Starts state clock.now rules) run.quiet b.ahead tt b.journal.1 refl none forward) st

-- in each of the two ways
pub all_safe_by : (way : Way) → IsRenaming way → (clock : Clock) (o n : Option Journal) → Left (IsWholeRunBy clock) o n → KeepsSafeBy way (IsForwardFor clock) o n
all_safe_by way renaming clock o n not_told = tt
all_safe_by way renaming clock o n (is_told {j = j} {k = k} {es = es} m run) = λ s forward journal safe st. run_safe clock way renaming s (past j) (past k) es forward journal safe m run st

pub all_safe : (clock : Clock) (o n : Option Journal) → Left (IsWholeRunBy clock) o n → KeepsSafeWhere (IsForwardFor clock) o n
all_safe clock o n l = all_safe_by Rename tt clock o n l

pub all_safe_aside : (clock : Clock) (o n : Option Journal) → Left (IsWholeRunBy clock) o n → KeepsSafeBy RenameCopy (IsForwardFor clock) o n
all_safe_aside clock o n l = all_safe_by RenameCopy tt clock o n l

-- ---- the logs of a run, seen from a set

module _ (clock : Clock) (way : Way) (s : LogSet) (p q : Past) (es front tail looks acts : List Entry) (state : Path) (rules : Rules) (joined : reverse es ≡ front ++ entry.Starts state clock.now rules ∷ tail) (quiet : AreQuiet front) (parts : tail ≡ looks ++ acts) (still : AreQuiet looks) (journal : IsJournal p)
    (safe : IsSafe s p) (m : Made p es q) (st : IsSteadyBy way s q) where
  begins : Begun s p q front tail state clock.now rules
  begins = begun way s p q es front tail state clock.now rules joined quiet journal safe m st

  looks_behind : Looked way s state clock.now.seconds rules (begins.at ▸ entry.Starts state clock.now rules) q looks acts
  looks_behind = looked_at way s begins.at q state clock.now rules tail looks acts parts still begins.behind begins.journal begins.safe st

  pub known_targets : (ts : List Target) → AreLogsSeen rules clock looks ts → (t : Target) → IsIn t ts → IsKnownFor s t
  known_targets ts seen t i =
      let l = log_among rules clock looks ts seen t i in
      record {
        names = any_names rules clock looks t l;
        apart = no_meeting clock way s state rules (begins.at ▸ entry.Starts state clock.now rules) looks_behind.mid looks still looks_behind.first (λ x h. h) looks_behind.here looks_behind.none t l;
        naming = own_naming clock way s state rules (begins.at ▸ entry.Starts state clock.now rules) looks_behind.mid looks still looks_behind.first (λ x h. h) looks_behind.here looks_behind.none t l;
        paths = log_paths rules clock looks t l;
      }

  -- the state's part file has no name of the set
  pub part_apart : IsName s.log s.naming (state ++ codes ".tmp") → ⊥
  part_apart = looks_behind.here.steady.new_state state looks_behind.here.state_is

-- ---- sets of other logs

-- where none of the logs is the set's, each change lies apart of it
acts_apart : (clock : Clock) (s : LogSet) (u q : Past) (state : Path) (rules : Rules) (tail : List Entry) (t : AllTurnsBy state clock rules tail) → Made (u ▸ entry.Starts state clock.now rules) (reverse tail) q
    → IsJournal (u ▸ entry.Starts state clock.now rules) → IsSafe s (u ▸ entry.Starts state clock.now rules) → IsSteady s q → ((x : Target) → IsIn x t.targets → x.log ≢ s.log) → Each (IsApart s) (filter is_change t.acts)
acts_apart clock s u q state rules tail t m journal safe st ne = each_as (λ e. IsOfSome t.targets e ⊎ IsOfState state e) (IsApart s) (filter is_change t.acts) apart t.all
  where
    k : Looked Rename s state clock.now.seconds rules (u ▸ entry.Starts state clock.now rules) q t.looks t.acts
    k = looked_at Rename s u q state clock.now rules tail t.looks t.acts t.joined t.quiet m journal safe st

    apart : (e : Entry) → IsOfSome t.targets e ⊎ IsOfState state e → IsApart s e
    apart e (inl o) = let b = some_beside clock Rename s state rules (u ▸ entry.Starts state clock.now rules) k.mid t.looks t.quiet k.first (λ x h. h) k.here k.none t.targets t.seen ne e o in apart_of s e b.0 b.1
    apart e (inr o) = let b = state_lies Rename s state clock.now.seconds rules k.mid k.here e o in apart_of s e b.0 b.1

pub others_are_left : (clock : Clock) (s : LogSet) (u q : Past) (state : Path) (rules : Rules) (tail : List Entry) (t : AllTurnsBy state clock rules tail) → Made (u ▸ entry.Starts state clock.now rules) (reverse tail) q
    → IsJournal (u ▸ entry.Starts state clock.now rules) → IsSafe s (u ▸ entry.Starts state clock.now rules) → IsSteady s q → ((x : Target) → IsIn x t.targets → x.log ≢ s.log) → (y : Path) (k : ℤ) → s.key y ≡ Some k → names (world q) y ≡ names (world u) y
others_are_left clock s u q state rules tail t m journal safe st ne y k key =
    apart_left s (u ▸ entry.Starts state clock.now rules) q tail t.looks t.acts t.joined t.quiet (acts_apart clock s u q state rules tail t m journal safe st ne) m (none_attached_by Rename s q st) y k key
