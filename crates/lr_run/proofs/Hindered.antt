-- A log that can't be rotated since a member has the name that it would get: the member was seen, and the acts spare it.
use Rattle.std.proofs.Common.{◌≡◌, ◌≢◌, inl, inr, ⊎_elim, ℕ, suc, ◌+◌, Bool, true, false, cond, not, ◌&&◌, Option, Some, None, List, [], ◌∷◌, ◌++◌, map, reverse, slice_get, refl, sym, ap, ◌∙◌, subst}
use Rattle.std.specs.List.{list_any}
use Rattle.std.specs.Option.{is_some}
use Rattle.std.proofs.lemmas.Bool.{and_left, and_right}
use Rattle.std.specs.Prelude.{ℤ, filter, codes}
use Rattle.std.proofs.lemmas.List.Elements.{All-contains}
use Rattle.lr_rules.specs.declared.clock.Clock.{Clock}
use Rattle.lr_rules.specs.declared.fault.Fault.{Fault}
use Rattle.lr_rules.specs.declared.fault.Fault.TheVariants as fault
use Rattle.lr_rules.specs.declared.path.Path.{Path}
use Rattle.lr_rules.specs.declared.rule.Count.{Count}
use Rattle.lr_rules.specs.declared.rule.Format.{Format}
use Rattle.lr_rules.specs.declared.rule.Naming.{Naming}
use Rattle.lr_rules.specs.declared.rule.Rule.{Rule}
use Rattle.lr_rules.specs.declared.rules.Rules.{Rules}
use Rattle.lr_rules.specs.Names.{IsOwnName}
use Rattle.lr_stamps.specs.Dated.{clock_seconds}
use Rattle.lr_host.specs.declared.entry.Entry.{Entry}
use Rattle.lr_host.specs.declared.entry.Entry.TheVariants as entry
use Rattle.lr_host.specs.declared.thing.Thing.TheVariants as thing
use Rattle.lr_host.specs.declared.journal.Journal.{Journal}
use Rattle.lr_host.specs.Lists.{IsIn}
use Rattle.lr_host.specs.Quiet.{AreQuiet}
use Rattle.lr_host.specs.Steps.{is_change}
use Rattle.lr_host.specs.Told.{Each, Made, Left, Then}
use Rattle.lr_host.specs.World.{Past, past, world, names}
use Rattle.lr_host.proofs.Each.{each_append}
use Rattle.lr_host.proofs.Left.{left_as, left_first}
use Rattle.lr_host.proofs.Lists.{in_append, in_back, in_to, of_flat}
use Rattle.lr_host.proofs.Quiet.{quiet_still, still_in_order}
use Rattle.lr_due.specs.declared.answer.Due.{Due}
use Rattle.lr_due.specs.declared.answer.Due.TheVariants as due
use Rattle.lr_family.specs.declared.stand.Member.{Member}
use Rattle.lr_family.specs.declared.stand.Stand.{Stand}
use Rattle.lr_family.specs.Parts.{IsDated}
use Rattle.lr_family.specs.Places.{IsPlaceOf}
use Rattle.lr_family.proofs.Placed.{dated_at}
use Rattle.lr_family.specs.Looks.{WasSeen}
use Rattle.lr_family.proofs.Names.{member_own}
use Rattle.lr_chain.specs.Hindrances.{is_stamp, fault_at, too_high, taken_fault, stamp_hindrances, keeps_all, number_hindrances, name_hindrances, what_hinders}
use Rattle.lr_chain.specs.Ready.{is_highest, highest_path}
use Rattle.lr_plan.specs.declared.looks.LogLook.{LogLook}
use Rattle.lr_plan.specs.declared.looks.SetLooks.{SetLooks}
use Rattle.lr_plan.specs.declared.mark.Mark.{Mark}
use Rattle.lr_plan.specs.Course.{Course}
use Rattle.lr_plan.specs.Done.{SetsDone}
use Rattle.lr_plan.specs.Planned.{is_made, dir_is_log, makes_dir, empty_stand, stand_for, due_faults, where_due, log_faults, all_faults, all_plans}
use Rattle.lr_laws_looks.proofs.Hindrances.{faults_so, free_of_members}
use Rattle.lr_plan.specs.Steps.{steps_of_set, state_steps}
use Rattle.lr_acts.specs.Named.{PathIsNamed}
use Rattle.lr_acts.specs.Taken.{SparesPath, WasTaken}
use Rattle.lr_acts.proofs.Taking.{taken_now, taken_before}
use Rattle.lr_looks.specs.declared.standing.Standing.{Standing}
use Rattle.lr_looks.specs.Families.{LookedLog, looked_at, looked_of}
use Rattle.lr_looks.specs.Found.{FoundLog}
use Rattle.lr_looks.specs.Sets.{looked_in}
use Rattle.lr_looks.specs.Shown.{ShowsLooks}
use Rattle.lr_laws_rotations.specs.AllTurns.{IsOf, IsOfSome, IsOfState}
use Rattle.lr_laws_rotations.specs.Target.{Target}
use Rattle.lr_laws_family.specs.Shown.{Shown}
use Rattle.lr_laws_family.proofs.Stood.{file_stands}
use Rattle.lr_laws_rotations.specs.Apart.{HasNames, TargetsHaveNames}
use Rattle.lr_laws_acts.proofs.Parting.{done_some}
use Rattle.lr_laws_acts.proofs.Planning.{ready_planned}
use Rattle.lr_looks.specs.Reserved.{reserved_by}
use Rattle.lr_laws_looks.specs.Targets.{groups_of, all_targets}
use Rattle.lr_laws_looks.proofs.Apart.{OffLooked, kept_off, looked_pairs, targets_apart}
use Rattle.lr_laws_looks.proofs.Coming.{Comes, comes_from, was_looked, in_looked}
use Rattle.lr_laws_looks.proofs.Elements.{pairs_two}
use Rattle.lr_laws_looks.proofs.Kept.{kept_has_none}
use Rattle.lr_laws_looks.proofs.SeenListed.{WasShown, all_shown}
use Rattle.lr_laws_looks.proofs.Quiet.{whole_quiet}
use Rattle.lr_laws_looks.proofs.Ready.{plans_have_logs}
use Rattle.lr_laws_looks.proofs.Seen.{targets_have_names}
use Rattle.lr_run.proofs.Owned.{unlinked_own}
use Rattle.lr_run.proofs.Stating.{state_writing, changes_of_state}

-- ---- the member that has the name

-- the fault of a path that is taken is no other
no_high : (x y : Path) → fault.TooHigh x ≡ fault.Taken y → ⊥
no_high x y e = cc

no_dir : (x y : Path) → fault.NoDir x ≡ fault.Taken y → ⊥
no_dir x y e = cc

same_path : (x y : Path) → fault.Taken x ≡ fault.Taken y → x ≡ y
same_path x y e = cc

-- the name that a log with dates would get is this member's
record IsBarred (n : Naming) (stand : Stand) (path : Path) : Type 0 where
  there : stand.there ≡ true
  member : Member
  among : IsIn member stand.members
  path_is : member.path ≡ path

in_high : (path : Path) (seconds : ℤ) (serial : ℕ) (ms : List Member) → IsIn (fault.Taken path) (fault_at too_high seconds serial ms) → ⊥
in_high path seconds serial [] i = i
in_high path seconds serial (m ∷ ms) i = go (is_stamp seconds serial m.place) (λ k. in_high path seconds serial ms k) i
  where
    go : (b : Bool) → (IsIn (fault.Taken path) (fault_at too_high seconds serial ms) → ⊥) → IsIn (fault.Taken path) (cond b (fault.TooHigh m.path ∷ []) (fault_at too_high seconds serial ms)) → ⊥
    go true further (inl e) = no_high m.path path e
    go true further (inr none) = none
    go false further i = further i

in_taken : (path : Path) (seconds : ℤ) (serial : ℕ) (ms : List Member) → IsIn (fault.Taken path) (fault_at taken_fault seconds serial ms) → (m : Member) × IsIn m ms × (m.path ≡ path)
in_taken path seconds serial [] i = absurd i
in_taken path seconds serial (m ∷ ms) i = go (is_stamp seconds serial m.place) (λ k. in_taken path seconds serial ms k) i
  where
    go : (b : Bool) → (IsIn (fault.Taken path) (fault_at taken_fault seconds serial ms) → (x : Member) × IsIn x ms × (x.path ≡ path)) → IsIn (fault.Taken path) (cond b (fault.Taken m.path ∷ []) (fault_at taken_fault seconds serial ms)) → (x : Member) × IsIn x (m ∷ ms) × (x.path ≡ path)
    go true further (inl e) = (m, inl refl, same_path m.path path e)
    go true further (inr none) = absurd none
    go false further i = let r = further i in (r.0, inr r.1, r.2)

-- numbers hinder as none can be higher
in_numbers : (n : Naming) (c : Count) (path : Path) (ms : List Member) → IsIn (fault.Taken path) (number_hindrances n c ms) → ⊥
in_numbers n c path ms i = go (keeps_all c && list_any (is_highest n) ms) i
  where
    go : (b : Bool) → IsIn (fault.Taken path) (cond b (fault.TooHigh (highest_path n) ∷ []) []) → ⊥
    go true (inl e) = no_high (highest_path n) path e
    go true (inr none) = none
    go false none = none

in_stamps : (format : Format) (path : Path) (seconds : ℤ) (ms : List Member) → IsIn (fault.Taken path) (stamp_hindrances format seconds ms) → (m : Member) × IsIn m ms × (m.path ≡ path)
in_stamps format path seconds ms i = go format.serial i
  where
    go : (b : Bool) → IsIn (fault.Taken path) (cond b (fault_at too_high seconds 4294967295 ms) (fault_at taken_fault seconds 0 ms)) → (m : Member) × IsIn m ms × (m.path ≡ path)
    go true i = absurd (in_high path seconds 4294967295 ms i)
    go false i = in_taken path seconds 0 ms i

in_names : (d : Option Format) (n : Naming) (c : Count) (clock : Clock) (path : Path) (ms : List Member) → IsIn (fault.Taken path) (name_hindrances d n c clock ms)
    → ((format : Format) × (d ≡ Some format)) × ((m : Member) × IsIn m ms × (m.path ≡ path))
in_names None n c clock path ms i = absurd (in_numbers n c path ms i)
in_names (Some format) n c clock path ms i = ((format, refl), in_stamps format path (clock_seconds n.dated clock) ms i)

-- so the log is one with dates, and a member has the name
in_hindrances : (n : Naming) (c : Count) (clock : Clock) (stand : Stand) (path : Path) → IsIn (fault.Taken path) (what_hinders n c clock stand) → ((format : Format) × (n.dated ≡ Some format)) × IsBarred n stand path
in_hindrances n c clock stand path i = go stand.there refl i
  where
    go : (b : Bool) → stand.there ≡ b → IsIn (fault.Taken path) (cond b (name_hindrances n.dated n c clock stand.members) (fault.NoDir n.dir ∷ [])) → ((format : Format) × (n.dated ≡ Some format)) × IsBarred n stand path
    go true is i = let r = in_names n.dated n c clock path stand.members i in (r.0, record { there = is; member = r.1.0; among = r.1.1; path_is = r.1.2 })
    go false is (inl e) = absurd (no_dir n.dir path e)
    go false is (inr none) = absurd none

-- of dates no count matters
same_hindrances : (format : Format) (n : Naming) (c k : Count) (clock : Clock) (stand : Stand) → n.dated ≡ Some format → what_hinders n c clock stand ≡ what_hinders n k clock stand
same_hindrances format n c k clock stand dated = ap (λ (fs : List Fault). cond stand.there fs (fault.NoDir n.dir ∷ [])) (go n.dated dated)
  where
    go : (d : Option Format) → d ≡ Some format → name_hindrances d n c clock stand.members ≡ name_hindrances d n k clock stand.members
    go None none = absurd (cc)
    go (Some f) is = refl

-- a directory that is there isn't made
pub stands_as_seen : (rule : Rule) (look : LogLook) → look.stand.there ≡ true → stand_for rule look ≡ look.stand
stands_as_seen rule look there = ap (λ (b : Bool). cond b empty_stand look.stand)
    (and_right (is_made rule.createolddir) (not look.stand.there && (look.stand.parent && not (dir_is_log look.family.naming look.path))) (and_left (not look.stand.there) (look.stand.parent && not (dir_is_log look.family.naming look.path)) (ap not there)))

-- nothing is taken in one that was just made
barred_as_seen : (makes : Bool) (n : Naming) (stand : Stand) (path : Path) → IsBarred n (cond makes empty_stand stand) path → IsBarred n stand path
barred_as_seen true n stand path b = absurd b.among
barred_as_seen false n stand path b = b

-- ---- which log it is

-- The fault is that of one of the looks.
record IsHindered (clock : Clock) (rules : List Rule) (sets : List SetLooks) (path : Path) : Type 0 where
  place : ℕ
  rule : Rule
  set : SetLooks
  look : LogLook
  at_set : slice_get sets place ≡ Some set
  among : IsIn look set.logs
  fault_in : IsIn (fault.Taken path) (what_hinders look.family.naming rule.count clock (stand_for rule look))

in_due : (d : Due) (fs : List Fault) (f : Fault) → IsIn f (where_due d fs) → IsIn f fs
in_due (due.Yes why) fs f i = i
in_due (due.No why) fs f i = absurd i

hindered_by : (clock : Clock) (decide : Rule → LogLook → Due) (rules : List Rule) (sets : List SetLooks) (path : Path) → IsIn (fault.Taken path) (all_faults clock decide rules sets) → IsHindered clock rules sets path
hindered_by clock decide [] [] path i = absurd i
hindered_by clock decide [] (set ∷ sets) path i = absurd i
hindered_by clock decide (rule ∷ rules) [] path i = absurd i
hindered_by clock decide (rule ∷ rules) (set ∷ sets) path i = ⊎_elim own (λ b. further (hindered_by clock decide rules sets path b)) (in_append (fault.Taken path) (log_faults clock rule (decide rule) set.logs) (all_faults clock decide rules sets) i)
  where
    -- neither another thing nor a log that is taken up is such a fault
    by_members : (look : LogLook) → IsIn (fault.Taken path) (due_faults clock rule look) → IsIn (fault.Taken path) (what_hinders look.family.naming rule.count clock (stand_for rule look))
    by_members look = faults_so (λ fs. IsIn (fault.Taken path) fs → IsIn (fault.Taken path) (what_hinders look.family.naming rule.count clock (stand_for rule look))) clock rule look
        (λ i. absurd i) (λ seen is i. ⊎_elim (λ e. absurd (cc)) (λ none. absurd none) i) (λ i. ⊎_elim (λ e. absurd (cc)) (λ none. absurd none) i) (λ i. i)

    own : IsIn (fault.Taken path) (log_faults clock rule (decide rule) set.logs) → IsHindered clock (rule ∷ rules) (set ∷ sets) path
    own a =
        let r = of_flat (λ (look : LogLook). where_due (decide rule look) (due_faults clock rule look)) set.logs (fault.Taken path) a in
        record { place = 0; rule = rule; set = set; look = r.0; at_set = refl; among = r.1; fault_in = by_members r.0 (in_due (decide rule r.0) (due_faults clock rule r.0) (fault.Taken path) r.2) }

    further : IsHindered clock rules sets path → IsHindered clock (rule ∷ rules) (set ∷ sets) path
    further h = record { place = suc h.place; rule = h.rule; set = h.set; look = h.look; at_set = h.at_set; among = h.among; fault_in = h.fault_in }

-- ---- what the acts spare

-- an entry that changes nothing unlinks nothing
calm_spares : (path : Path) (e : Entry) → is_change e ≡ false → SparesPath path e
calm_spares path (entry.Unlinks x) h = absurd (cc)
calm_spares path _ h = tt

all_spare : (path : Path) (R : Entry → Type 0) → ((e : Entry) → R e → SparesPath path e) → (ts : List Entry) → Each R (filter is_change ts) → Each (SparesPath path) ts
all_spare path R spare [] a = tt
all_spare path R spare (e ∷ ts) a = go (is_change e) refl (λ b. all_spare path R spare ts b) a
  where
    go : (b : Bool) → is_change e ≡ b → (Each R (filter is_change ts) → Each (SparesPath path) ts) → Each R (cond b (e ∷ filter is_change ts) (filter is_change ts)) → SparesPath path e × Each (SparesPath path) ts
    go true h rest a = (spare e a.0, rest a.1)
    go false h rest a = (calm_spares path e h, rest a)

-- an unlink of the path is on own names of the log that is rotated
unlinks_own : (t : Target) (path : Path) (e : Entry) → HasNames t → (IsOwnName t.log t.naming path → ⊥) → IsOf t e → SparesPath path e
unlinks_own t path (entry.Unlinks x) h none i = λ same. none (subst (IsOwnName t.log t.naming) same (unlinked_own t h x i))
unlinks_own t path _ h none i = tt

some_spare : (path : Path) (ts : List Target) → TargetsHaveNames ts → ((t : Target) → IsIn t ts → IsOwnName t.log t.naming path → ⊥) → (e : Entry) → IsOfSome ts e → SparesPath path e
some_spare path [] h none e i = absurd i
some_spare path (t ∷ ts) h none e (inl i) = unlinks_own t path e h.0 (none t (inl refl)) i
some_spare path (t ∷ ts) h none e (inr i) = some_spare path ts h.1 (λ u j. none u (inr j)) e i

state_spares : (state path : Path) → path ≢ state → path ≢ state ++ codes ".tmp" → (e : Entry) → IsOfState state e → SparesPath path e
state_spares state path other part (entry.Unlinks x) (inl is) = λ same. other (sym same ∙ is)
state_spares state path other part (entry.Unlinks x) (inr is) = λ same. part (sym same ∙ is)
state_spares state path other part _ h = tt

-- ---- the member

module _ (state : Path) (rules : Rules) (sets : List SetLooks) (faults : List Fault) (looks : List Entry) (clock : Clock) (decide : Rule → LogLook → Due) (s : ShowsLooks (reserved_by state) rules.sets sets faults looks) (path : Path) (h : IsHindered clock rules.sets sets path) where
  abbrev n : Naming
  n = h.look.family.naming

  abbrev x : LookedLog
  x = looked_in (0 + h.place) h.look

  hindered : ((f : Format) × (n.dated ≡ Some f)) × IsBarred n (stand_for h.rule h.look) path
  hindered = in_hindrances n h.rule.count clock (stand_for h.rule h.look) path h.fault_in

  format : (f : Format) × (n.dated ≡ Some f)
  format = hindered.0

  barred : IsBarred n h.look.stand path
  barred = barred_as_seen (makes_dir h.rule h.look) n h.look.stand path hindered.1

  fault_of_stand : IsIn (fault.Taken path) (what_hinders n h.rule.count clock h.look.stand)
  fault_of_stand = subst (λ (stand : Stand). IsIn (fault.Taken path) (what_hinders n h.rule.count clock stand)) (stands_as_seen h.rule h.look barred.there) h.fault_in

  looked : IsIn x s.looked
  looked = was_looked 0 h.place s.looked sets h.set h.look s.by_sets h.at_set h.among

  in_sights : IsIn x (looked_of s.kept s.entries.second.families.sights)
  in_sights = subst (IsIn x) s.entries.second.families.looked_are looked

  shown : Shown n h.look.stand.members looks
  shown =
      let w : WasShown n h.look.stand looks = all_shown looks s.kept s.entries.second.listings s.entries.second.families.sights s.entries.back (λ e i. subst (IsIn e) (sym s.entries.joined) (in_back e s.entries.front s.entries.back i)) s.entries.second.families.shown x in_sights in
      (w.0 barred.there).1

  -- it was seen, a file
  member_seen : (m : Member) × (m.path ≡ path) × WasSeen looks m
  member_seen = (barred.member, barred.path_is, All-contains (WasSeen looks) h.look.stand.members barred.member shown.files (in_to barred.member h.look.stand.members barred.among))

  -- its path is that of a dated member of the log, which was kept
  day : IsDated n path
  day = subst (IsDated n) barred.path_is (dated_at n barred.member.place barred.member.path (ap is_some format.1) (All-contains (λ m. IsPlaceOf n m.place m.path) h.look.stand.members barred.member shown.named (in_to barred.member h.look.stand.members barred.among)))

  own : IsOwnName h.look.path n path
  own = member_own h.look.path n path (inr day)

  kept : (f : FoundLog) × IsIn f s.kept × ((w : Standing) × (x ≡ looked_at f w.stand w.tmp))
  kept = in_looked s.kept s.entries.second.families.sights x in_sights

  day_kept : IsDated kept.0.log.naming path
  day_kept = subst (λ (y : LookedLog). IsDated y.naming path) kept.2.1 day

  own_kept : IsOwnName kept.0.log.path kept.0.log.naming path
  own_kept = member_own kept.0.log.path kept.0.log.naming path (inr day_kept)

  no_reserved : (y : Path) → IsIn y (reserved_by state) → path ≢ y
  no_reserved y i same = kept_has_none rules.sets sets faults looks s kept.0 kept.1 y i (inl (subst (IsOwnName kept.0.log.path kept.0.log.naming) same own_kept))

  -- it is no name of a log that is rotated
  no_name : (t : Target) → IsIn t (all_targets clock decide rules.sets sets) → IsOwnName t.log t.naming path → ⊥
  no_name t one mine = ⊎_elim same (λ off. ⊎_elim (λ (a : OffLooked y x). a.1 (path, inl (mine_of, inl own))) (λ (b : OffLooked x y). b.1 (path, inl (own, inl mine_of))) off)
      (pairs_two OffLooked (looked_of s.kept s.entries.second.families.sights) (looked_pairs s.kept s.entries.second.families.sights (kept_off rules.sets sets faults looks s)) y x in_y in_sights)
    where
      c : Comes clock rules.sets sets t
      c = comes_from clock decide rules.sets sets t one

      y : LookedLog
      y = looked_in (0 + c.place) c.look

      in_y : IsIn y (looked_of s.kept s.entries.second.families.sights)
      in_y = subst (IsIn y) s.entries.second.families.looked_are (was_looked 0 c.place s.looked sets c.set c.look s.by_sets c.at_set c.among)

      mine_of : IsOwnName y.path y.naming path
      mine_of = subst (λ (u : Target). IsOwnName u.log u.naming path) c.is mine

      -- nothing hinders a log that is rotated
      same : y ≡ x → ⊥
      same is =
          let m : Naming = c.look.family.naming in
          let dated : m.dated ≡ Some format.0 = ap (λ (z : LookedLog). z.naming.dated) is ∙ format.1 in
          let moved : IsIn (fault.Taken path) (what_hinders m h.rule.count clock c.look.stand) = subst (λ (z : LookedLog). IsIn (fault.Taken path) (what_hinders z.naming h.rule.count clock z.stand)) (sym is) fault_of_stand in
          let there = (in_hindrances m h.rule.count clock c.look.stand path moved).1.there in
          let standing_so = subst (λ (stand : Stand). IsIn (fault.Taken path) (what_hinders m h.rule.count clock stand)) (sym (stands_as_seen c.rule c.look there)) moved in
          let none : IsIn (fault.Taken path) [] = subst (IsIn (fault.Taken path)) (same_hindrances format.0 m h.rule.count c.rule.count clock (stand_for c.rule c.look) dated ∙ free_of_members clock c.rule c.look c.free) standing_so in none

  -- so the acts spare it
  acts_spare : (mailer : Path) (stale : Bool) (dirs : List Path) (text : List ℕ) (marks : List Mark) (of_plan of_state : List Fault) (ts : List Entry)
      → Then (SetsDone (map steps_of_set (all_plans clock mailer decide rules.sets sets)) marks of_plan) (Course (state_steps state stale dirs text) [] of_state) ts → Each (SparesPath path) ts
  acts_spare mailer stale dirs text marks of_plan of_state ts a = subst (Each (SparesPath path)) (sym a.joined) (each_append (SparesPath path) a.front a.back
      (all_spare path (IsOfSome targets) (some_spare path targets (targets_have_names rules sets faults looks clock decide s) no_name) a.front
      (done_some targets (map steps_of_set (all_plans clock mailer decide rules.sets sets)) marks of_plan a.front
      (ready_planned (groups_of clock decide rules.sets sets) (all_plans clock mailer decide rules.sets sets) (plans_have_logs rules.sets sets faults looks clock mailer decide s) (targets_apart rules.sets sets faults looks clock decide s)) a.first))
      (all_spare path (IsOfState state) (state_spares state path (no_reserved state (inl refl)) (no_reserved (state ++ codes ".tmp") (inr (inl refl)))) a.back
      (changes_of_state state a.back (state_writing state stale dirs text of_state a.back a.second))))
    where
      targets : List Target
      targets = all_targets clock decide rules.sets sets

-- ---- behind the looks

file_named : (m : Past) (x : Path) (id : ℕ) → names (world m) x ≡ thing.File id → names (world m) x ≢ thing.Nothing
file_named m x id is none = let clash : thing.File id ≡ thing.Nothing = sym is ∙ none in cc

-- what the plan tells as taken was named behind the looks, and no act unlinked it
pub plan_taken : (state : Path) (rules : Rules) (sets : List SetLooks) (faults : List Fault) (looks : List Entry) (clock : Clock) (mailer : Path) (decide : Rule → LogLook → Due) (stale : Bool) (dirs : List Path) (text : List ℕ) (marks : List Mark) (of_plan of_state : List Fault) (j k : Journal) (es : List Entry) {n : Option Journal}
    → Made (past j) es (past k) → looks ≡ reverse es → ShowsLooks (reserved_by state) rules.sets sets faults looks
    → Left (Then (SetsDone (map steps_of_set (all_plans clock mailer decide rules.sets sets)) marks of_plan) (Course (state_steps state stale dirs text) [] of_state)) (Some k) n
    → (path : Path) → IsIn (fault.Taken path) (all_faults clock decide rules.sets sets) → WasTaken path (Some k) n
plan_taken state rules sets faults looks clock mailer decide stale dirs text marks of_plan of_state j k es made is s acts path i =
    taken_before path (taken_now path (left_first (λ ts. ts ≡ []) (Some k) refl) named) (left_as acts (λ ts a. acts_spare state rules sets faults looks clock decide s path h mailer stale dirs text marks of_plan of_state ts a))
  where
    h : IsHindered clock rules.sets sets path
    h = hindered_by clock decide rules.sets sets path i

    seen : (m : Member) × (m.path ≡ path) × WasSeen looks m
    seen = member_seen state rules sets faults looks clock decide s path h

    named : PathIsNamed path (Some k)
    named =
        let file = file_stands (past j) (past k) es made (still_in_order es (quiet_still (reverse es) (subst AreQuiet is (whole_quiet rules.sets sets faults looks s)))) seen.0.path (seen.0.seen, seen.2.0, subst (IsIn (entry.Look seen.0.path (Some seen.0.seen))) is seen.2.1) in
        subst (λ (x : Path). PathIsNamed x (Some k)) seen.1 (file_named (past k) seen.0.path file.0 file.1)
