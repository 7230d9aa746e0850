-- Each log that a plan rotates was seen, with its members.
use Rattle.std.proofs.Common.{◌≡◌, ◌≢◌, inl, inr, ℕ, ◌+◌, ◌&&◌, ◌||◌, bytes_eq, Bool, true, false, not, if◌then◌else◌, true≢false, List, [], ◌∷◌, ◌++◌, Option, Some, None, slice_get, refl, sym, ap, ◌∙◌, subst, arith}
use Rattle.std.specs.List.{list_any}
use Rattle.std.proofs.lemmas.Bool.{and_parts, not-true, or_left, or_right}
use Rattle.std.proofs.lemmas.Slice.Eq.{bytes_eq-Decides}
use Rattle.lr_rules.specs.declared.clock.Clock.{Clock}
use Rattle.lr_rules.specs.declared.fault.Fault.{Fault}
use Rattle.lr_rules.specs.declared.path.Path.{Path}
use Rattle.lr_rules.specs.declared.rule.Naming.{Naming}
use Rattle.lr_rules.specs.declared.rule.Rule.{Rule}
use Rattle.lr_rules.specs.declared.rule.Way.{Way}
use Rattle.lr_rules.specs.declared.rule.Way.TheVariants as way
use Rattle.lr_rules.specs.declared.rules.Rules.{Rules}
use Rattle.lr_rules.specs.Names.{aside_path, is_aside, naming_of}
use Rattle.lr_rules.specs.Limits.{is_format, or_none, meets_limits}
use Rattle.lr_rules.specs.Path.{path_fault, parent_of}
use Rattle.lr_due.specs.declared.answer.Due.{Due}
use Rattle.lr_host.specs.declared.entry.Entry.{Entry}
use Rattle.lr_host.specs.declared.entry.Entry.TheVariants as entry
use Rattle.lr_host.specs.declared.thing.Kind.TheVariants as kind
use Rattle.lr_host.specs.declared.thing.Seen.{Seen}
use Rattle.lr_host.specs.Lists.{IsIn}
use Rattle.lr_host.specs.Looks.{Sees, IsFile, is_dir}
use Rattle.lr_host.proofs.Lists.{in_to, in_front, in_back}
use Rattle.lr_host.proofs.Looking.{dir_kind}
use Rattle.lr_family.specs.Kin.{IsKin}
use Rattle.lr_family.specs.Parts.{part_of}
use Rattle.lr_glob.proofs.Seeking.{found_were_seen}
use Rattle.lr_family.proofs.Rising.{none_fall}
use Rattle.lr_kept.specs.declared.choice.Choice.TheVariants.{Kept}
use Rattle.lr_kept.proofs.Elements.{same_read}
use Rattle.lr_chain.specs.Hindrances.{what_hinders}
use Rattle.lr_copy.specs.declared.job.Job.{Job}
use Rattle.lr_plan.specs.declared.looks.LogLook.{LogLook}
use Rattle.lr_plan.specs.declared.looks.SetLooks.{SetLooks}
use Rattle.lr_plan.specs.Planned.{is_made, rule_mode, dir_is_log, makes_dir, empty_stand, stand_for, with_stand, standing, ready_for, job_by, hindrances, takes_up, aside_by}
use Rattle.lr_looks.specs.Asked.{CanAsk}
use Rattle.lr_looks.specs.Families.{LookedLog}
use Rattle.lr_looks.specs.Choices.{kept_of}
use Rattle.lr_looks.specs.Found.{FoundLog, HasLogPath, HaveLogPaths}
use Rattle.lr_looks.specs.Sets.{looked_in}
use Rattle.lr_looks.specs.Shown.{ShowsLooks}
use Rattle.lr_looks.proofs.Kindred.{kin_of}
use Rattle.lr_laws_rotations.specs.Target.{Target, IsDirSeenBy, IsWaySeen, GoesBy, GivesLog}
use Rattle.lr_laws_family.specs.Weave.{Among}
use Rattle.lr_laws_family.specs.Members.{IsFamily}
use Rattle.lr_laws_family.specs.Shown.{SawDir, no_dir, Shown}
use Rattle.lr_laws_family.proofs.DatedNames.{no_member}
use Rattle.lr_laws_rotations.specs.Apart.{TargetsHaveNames}
use Rattle.lr_laws_rotations.specs.Seen.{IsLogSeen, AreLogsSeen}
use Rattle.lr_laws_rotations.proofs.LogSeen.{have_names}
use Rattle.lr_laws_looks.specs.Targets.{target_of, all_targets}
use Rattle.lr_laws_looks.proofs.Elements.{in_list}
use Rattle.lr_laws_looks.proofs.Apart.{kept_at}
use Rattle.lr_laws_looks.proofs.Aside.{SawAside, all_aside}
use Rattle.lr_laws_looks.proofs.Coming.{asks_so, Comes, comes_from, was_looked, in_kept, IsFrom, came_from}
use Rattle.lr_laws_looks.proofs.Directory.{dir_apart}
use Rattle.lr_laws_looks.proofs.Gives.{all_in, gives_kept}
use Rattle.lr_laws_looks.proofs.Hindrances.{there_of, free_of_members, nothing_aside, file_aside}
use Rattle.lr_laws_looks.proofs.SeenListed.{SawParent, WasShown, all_shown}
use Rattle.lr_laws_looks.proofs.Ready.{by_copy, begins_at, goes_by_rule, target_job, ready_by_clock}

-- ---- the family

-- the log and the naming that its rule gives it are a family
is_family : (rule : Rule) (f : FoundLog) → CanAsk rule → HasLogPath f → naming_of rule f.log.path ≡ f.log.naming → IsFamily f.log.path f.log.naming
is_family rule f can fit is = subst (IsFamily f.log.path) is (record {
  kin = kin;
  format = format;
  dir = subst (λ (m : Naming). path_fault m.dir ≡ None) (sym is) fit.dir;
  apart = no_member rule f.log.path format kin;
})
  where
    format : or_none is_format rule.dated ≡ true
    format = subst (λ (m : Naming). or_none is_format m.dated ≡ true) (sym is) fit.format

    kin : IsKin f.log.path (naming_of rule f.log.path)
    kin = kin_of rule f.log.path can fit.path fit.size fit.last

pub log_path : (found : List FoundLog) (f : FoundLog) → HaveLogPaths found → IsIn f found → HasLogPath f
log_path [] f h i = absurd i
log_path (g ∷ gs) f h (inl e) = subst HasLogPath e h.0
log_path (g ∷ gs) f h (inr i) = log_path gs f h.1 i

-- a log that was looked at whole
module _ {reserved : List Path} (rules : Rules) (sets : List SetLooks) (faults : List Fault) (ts : List Entry) (x : LookedLog) (s : ShowsLooks reserved rules.sets sets faults ts) (looked : IsIn x s.looked) where
  abbrev came_so : (o : IsFrom rules.sets s.entries.front s.found x) × IsIn o.found (kept_of s.found s.keeps.choices)
  came_so = came_from rules.sets sets faults ts s x looked

  abbrev of : IsFrom rules.sets s.entries.front s.found x
  of = came_so.0

  of_rule : IsIn of.by_word.word.rule rules.sets
  of_rule = in_list rules.sets x.set of.by_word.word.rule of.at

  can : CanAsk of.by_word.word.rule
  can = all_in meets_limits rules.sets of.by_word.word.rule rules.limits of_rule

  by_rule : naming_of of.by_word.word.rule of.found.log.path ≡ of.found.log.naming
  by_rule = ap (λ (g : FoundLog). naming_of of.by_word.word.rule g.log.path) of.by_word.is ∙ sym (ap (λ (g : FoundLog). g.log.naming) of.by_word.is)

  fits : HasLogPath of.found
  fits = log_path s.found of.found s.paths (in_kept s.found s.keeps.choices of.found came_so.1)

  rule_dated : x.naming.dated ≡ of.by_word.word.rule.dated
  rule_dated = ap (λ (n : Naming). n.dated) (sym of.naming_is ∙ sym by_rule)

  looked_format : or_none is_format x.naming.dated ≡ true
  looked_format = subst (λ (n : Naming). or_none is_format n.dated ≡ true) of.naming_is fits.format

  pub looked_family : IsFamily x.path x.naming
  looked_family = subst (λ (p : Path). IsFamily p x.naming) of.path_is (subst (IsFamily of.found.log.path) of.naming_is (is_family of.by_word.word.rule of.found can fits by_rule))

-- ---- the look at the log

among_one : (e : Entry) (ts : List Entry) → IsIn e ts → (before after : List Entry) × (ts ≡ before ++ (e ∷ after))
among_one e [] i = absurd i
among_one e (x ∷ xs) (inl is) = ([], xs, ap (λ (y : Entry). y ∷ xs) is)
among_one e (x ∷ xs) (inr i) = let r = among_one e xs i in (x ∷ r.0, r.1, ap (λ (ys : List Entry). x ∷ ys) r.2)

sees_file : (log : Path) (seen : Seen) (ts : List Entry) → seen.kind ≡ kind.File → IsIn (entry.Look log (Some seen)) ts → Among (Sees log IsFile) ts
sees_file log seen ts file i =
    let r = among_one (entry.Look log (Some seen)) ts i in
    record { before = r.0; part = entry.Look log (Some seen) ∷ []; after = r.1; joined = r.2; is = record { seen = Some seen; is = file; look = refl } }

-- ---- an old part file

has_in : (x : Path) (xs : List Path) → list_any (bytes_eq x) xs ≡ true → IsIn x xs
has_in x [] h = absurd (cc)
has_in x (y ∷ ys) h = go (λ k. has_in x ys k) (bytes_eq x y) refl h
  where
    go : (list_any (bytes_eq x) ys ≡ true → IsIn x ys) → (b : Bool) → bytes_eq x y ≡ b → (b || list_any (bytes_eq x) ys) ≡ true → IsIn x (y ∷ ys)
    go further true e h = inl (sym ((bytes_eq-Decides x y).0 e))
    go further false e h = inr (further h)

-- one that goes before the copy stood as the rotation begins
stale_stands : (clock : Clock) (rule : Rule) (look : LogLook) (job : Job) → (target_of clock rule look).job ≡ Some job → job.stale ≡ true → IsIn job.part (stand_for rule look).parts
stale_stands clock rule look job is stale = let by = by_copy rule.way (standing rule look) (ready_for clock rule look).target job is in
    subst (λ (j : Job). IsIn j.part (stand_for rule look).parts) by.is (has_in (part_of (ready_for clock rule look).target) (stand_for rule look).parts (ap (λ (j : Job). j.stale) by.is ∙ stale))

-- ---- what stands as the rotation begins

-- A directory that is made was missing, in a directory that was there; and its path is neither the log's nor that where the log waits.
record IsToMake (look : LogLook) : Type 0 where
  gone : look.stand.there ≡ false
  parent : look.stand.parent ≡ true
  other : look.family.naming.dir ≢ look.path
  beside : look.family.naming.aside ≡ true → look.family.naming.dir ≢ aside_path look.path

to_make : (rule : Rule) (look : LogLook) → makes_dir rule look ≡ true → IsToMake look
to_make rule look is =
    let asked = and_parts (is_made rule.createolddir) _ is in
    let missing = and_parts (not look.stand.there) _ asked.1 in
    let where_ = and_parts look.stand.parent _ missing.1 in
    let n = look.family.naming in
    let apart : dir_is_log n look.path ≡ false = not-true _ where_.1 in
    record {
      gone = not-true look.stand.there missing.0;
      parent = where_.0;
      other = λ e. true≢false (sym (or_left (bytes_eq n.dir look.path) (n.aside && bytes_eq n.dir (aside_path look.path)) ((bytes_eq-Decides n.dir look.path).1 e)) ∙ apart);
      beside = λ on e. true≢false (sym (or_right (bytes_eq n.dir look.path) (n.aside && bytes_eq n.dir (aside_path look.path)) (ap (λ b. b && bytes_eq n.dir (aside_path look.path)) on ∙ (bytes_eq-Decides n.dir (aside_path look.path)).1 e)) ∙ apart);
    }

-- a directory that is missing has no member
none_shown : (n : Naming) (ts : List Entry) → IsIn (entry.Look n.dir None) ts → Shown n [] ts
none_shown n ts gone = record {
  newest_first = none_fall;
  named = λ at m lt. absurd (omega (arith, lt));
  files = λ at m lt. absurd (omega (arith, lt));
  others = λ x is none. no_dir gone;
}

-- the parent was seen where it is there
parent_seen : (dir : Path) (parent : Bool) (ts : List Entry) → SawParent dir parent ts → parent ≡ true → SawDir (parent_of dir) ts
parent_seen dir parent ts saw there = go saw.0 (saw.1 ∙ there) saw.2
  where
    go : (o : Option Seen) → is_dir o ≡ true → IsIn (entry.Look (parent_of dir) o) ts → SawDir (parent_of dir) ts
    go None is i = absurd (cc)
    go (Some seen) is i = (seen, dir_kind seen.kind is, i)

none_stale : (look : LogLook) (way : Way) (target : Path) (job : Job) → job_by way (with_stand empty_stand look) target ≡ Some job → job.stale ≡ false
none_stale look way target job is = let by = by_copy way (with_stand empty_stand look) target job is in sym (ap (λ (j : Job). j.stale) by.is)

module _ (rule : Rule) (look : LogLook) (ts : List Entry) (shown : WasShown look.family.naming look.stand ts) where
  -- the members that stand as the rotation begins were seen
  stand_shown : (made : Bool) → makes_dir rule look ≡ made → (if made then empty_stand else look.stand).there ≡ true → Shown look.family.naming (if made then empty_stand else look.stand).members ts
  stand_shown false is there = (shown.0 there).1
  stand_shown true is there = none_shown look.family.naming ts (shown.2 (to_make rule look is).gone).look

  -- a part file that stands then stood
  part_stood : (made : Bool) (x : Path) → IsIn x (if made then empty_stand else look.stand).parts → IsIn x look.stand.parts
  part_stood false x i = i
  part_stood true x i = absurd i

  -- the directory was seen, or it was missing and is made
  dir_seen : (target : Path) → or_none is_format look.family.naming.dated ≡ true → (made : Bool) → makes_dir rule look ≡ made → (if made then empty_stand else look.stand).there ≡ true
      → IsDirSeenBy (if made then Some (look.family.naming.dir, rule_mode rule.createolddir) else None) look.path look.family.naming (if made then empty_stand else look.stand).members (job_by rule.way (with_stand (if made then empty_stand else look.stand) look) target) ts
  dir_seen target format false is there = (shown.0 there).0
  dir_seen target format true is there =
      let m = to_make rule look is in
      let missing = shown.2 m.gone in
      record {
        dir_is = refl;
        apart = dir_apart look.path look.family.naming format m.other m.beside;
        gone = missing.look;
        parent = parent_seen look.family.naming.dir look.stand.parent ts missing.parent m.parent;
        no_members = refl;
        not_stale = λ job is_job. none_stale look rule.way target job is_job;
      }

-- ---- the way of the log

-- where the rule's way sets logs aside, the look there is among these
look_aside : (aside : Bool) (log : Path) (tmp : Option Seen) (ts : List Entry) → aside ≡ true → SawAside aside log tmp ts → IsIn (entry.Look (aside_path log) tmp) ts
look_aside true log tmp ts on saw = saw
look_aside false log tmp ts off saw = absurd (cc)

-- only that way names a path to set the log aside to
by_way : (w : Way) (log : Path) (tmp : Option Seen) (path : Path) → aside_by w log tmp ≡ Some path → is_aside w ≡ true
by_way way.Rename log tmp path is = absurd (cc)
by_way way.Copy log tmp path is = absurd (cc)
by_way way.CopyTruncate log tmp path is = absurd (cc)
by_way way.RenameCopy log tmp path is = refl

module _ (clock : Clock) (rule : Rule) (look : LogLook) (ts : List Entry) (asks : look.family.naming.aside ≡ is_aside rule.way) (beside : SawAside look.family.naming.aside look.path look.tmp ts) where
  -- a file was seen where the log's file stands at first
  first_seen : (b : Bool) → takes_up rule.way look.tmp ≡ b → Among (Sees look.path IsFile) ts → Among (Sees (if b then aside_path look.path else look.path) IsFile) ts
  first_seen false up log = log
  first_seen true up log =
      let f = file_aside rule look up in
      sees_file (aside_path look.path) f.1.0 ts f.1.2 (subst (λ (o : Option Seen). IsIn (entry.Look (aside_path look.path) o) ts) f.1.1
      (look_aside look.family.naming.aside look.path look.tmp ts (asks ∙ ap is_aside f.0) beside))

  way_was_seen : Among (Sees look.path IsFile) ts → hindrances clock rule look ≡ [] → IsWaySeen (target_of clock rule look) ts
  way_was_seen log free = record {
    first = subst (λ (p : Path). Among (Sees p IsFile) ts) (sym (begins_at clock rule look)) (first_seen (takes_up rule.way look.tmp) refl log);
    free = λ path is. let none = nothing_aside clock rule look path free is in
        subst (λ (p : Path). IsIn (entry.Look p None) ts) (sym none.1) (subst (λ (o : Option Seen). IsIn (entry.Look (aside_path look.path) o) ts) none.0
        (look_aside look.family.naming.aside look.path look.tmp ts (asks ∙ by_way rule.way look.path look.tmp path is) beside));
  }

-- ---- one log, and all

target_seen : {reserved : List Path} (rules : Rules) (sets : List SetLooks) (faults : List Fault) (ts : List Entry) (clock : Clock) (t : Target) → (s : ShowsLooks reserved rules.sets sets faults ts) → Comes clock rules.sets sets t → IsLogSeen rules clock ts t
target_seen rules sets faults ts clock t s c = subst (IsLogSeen rules clock ts) (sym c.is) (record {
  path = subst (λ (p : Path). path_fault p ≡ None) o.path_is (fits rules sets faults ts x s looked).path;
  given = record {
    rule = o.by_word.word.rule;
    word = o.by_word.word.text;
    among = in_to o.by_word.word.rule rules.sets (of_rule rules sets faults ts x s looked);
    has = in_to o.by_word.word.text o.by_word.word.rule.words o.has;
    given = record {
      before = [];
      part = s.entries.front;
      after = s.entries.back;
      joined = s.entries.joined;
      is = subst (λ (p : Path). GivesLog rules.sets o.by_word.word.rule o.by_word.word.text p s.entries.front) o.path_is (gives_kept rules sets faults ts s at.0 o.found at.1 at.2 o.by_word);
    };
    naming_is = ap (naming_of o.by_word.word.rule) (sym o.path_is) ∙ (by_rule rules sets faults ts x s looked ∙ o.naming_is);
    count_is = ap (λ (r : Rule). r.count) (sym same);
    maxage_is = ap (λ (r : Rule). r.maxage) (sym same);
    way_is = subst (λ (r : Rule). GoesBy r.way (target_of clock c.rule c.look)) same (goes_by_rule clock c.rule c.look asks);
  };
  family = looked_family rules sets faults ts x s looked;
  log_seen = log_seen;
  way_seen = way_was_seen clock c.rule c.look ts asks beside log_seen c.free;
  seen = stand_shown c.rule c.look ts shown (makes_dir c.rule c.look) refl there;
  free = free;
  ready = ready_by_clock clock c.rule c.look;
  dir = dir_seen c.rule c.look ts shown (ready_for clock c.rule c.look).target (looked_format rules sets faults ts x s looked) (makes_dir c.rule c.look) refl there;
  job = λ job is. (target_job clock c.rule c.look job is, λ stale. let old = shown.1 job.part (part_stood c.rule c.look ts shown (makes_dir c.rule c.look) job.part (stale_stands clock c.rule c.look job is stale)) in sees_file job.part old.0 ts old.1 old.2);
})
  where
    x : LookedLog
    x = looked_in (0 + c.place) c.look

    looked : IsIn x s.looked
    looked = was_looked 0 c.place s.looked sets c.set c.look s.by_sets c.at_set c.among

    o : IsFrom rules.sets s.entries.front s.found x
    o = of rules sets faults ts x s looked

    -- the log stands at this place among those that were found, and is kept
    at : (k : ℕ) × (slice_get s.found k ≡ Some o.found) × (slice_get s.keeps.choices k ≡ Some Kept)
    at = kept_at s.found s.keeps.choices o.found (came_so rules sets faults ts x s looked).1

    shown : WasShown x.naming x.stand ts
    shown = all_shown ts s.kept s.entries.second.listings s.entries.second.families.sights s.entries.back (λ e i. subst (IsIn e) (sym s.entries.joined) (in_back e s.entries.front s.entries.back i)) s.entries.second.families.shown
        x (subst (IsIn x) s.entries.second.families.looked_are looked)

    free : what_hinders c.look.family.naming c.rule.count clock (stand_for c.rule c.look) ≡ []
    free = free_of_members clock c.rule c.look c.free

    there : (stand_for c.rule c.look).there ≡ true
    there = there_of c.look.family.naming c.rule.count clock (stand_for c.rule c.look) free

    none_more : (n : ℕ) → 0 + n ≡ n
    none_more n = omega arith

    same : c.rule ≡ o.by_word.word.rule
    same = same_read rules.sets c.place c.rule o.by_word.word.rule c.at_rule (subst (λ (n : ℕ). slice_get rules.sets n ≡ Some o.by_word.word.rule) (none_more c.place) o.at)

    -- its naming is that of the rule's way
    asks : c.look.family.naming.aside ≡ is_aside c.rule.way
    asks = asks_so rules.sets sets faults ts s c.place c.rule c.set c.look c.at_rule c.at_set c.among

    beside : SawAside c.look.family.naming.aside c.look.path c.look.tmp ts
    beside = all_aside ts [] s.kept s.entries.second.listings s.entries.second.families.sights s.entries.back (λ e i. subst (IsIn e) (sym s.entries.joined) (in_back e s.entries.front s.entries.back i)) s.entries.second.families.shown
        x (subst (IsIn x) s.entries.second.families.looked_are looked)

    -- a look of its word saw it
    look : IsIn (entry.Look o.found.log.path (Some o.found.seen)) ts
    look =
        let b = o.by_word in
        let e : Entry = entry.Look o.found.log.path (Some o.found.seen) in
        subst (IsIn e) (sym s.entries.joined) (in_front e s.entries.front s.entries.back
        (subst (IsIn e) (sym b.shown.joined) (in_back e b.shown.before (b.shown.part ++ b.shown.after) (in_front e b.shown.part b.shown.after
        (subst (λ (g : FoundLog). IsIn (entry.Look g.log.path (Some g.seen)) b.shown.part) (sym b.is) (found_were_seen b.word.text b.room b.matches b.shown.part b.shown.is b.one b.has))))))

    log_seen : Among (Sees x.path IsFile) ts
    log_seen = sees_file x.path o.found.seen ts o.file (subst (λ (p : Path). IsIn (entry.Look p (Some o.found.seen)) ts) o.path_is look)

each_seen : (rules : Rules) (clock : Clock) (ts : List Entry) (us : List Target) → ((t : Target) → IsIn t us → IsLogSeen rules clock ts t) → AreLogsSeen rules clock ts us
each_seen rules clock ts [] h = tt
each_seen rules clock ts (u ∷ us) h = (h u (inl refl), each_seen rules clock ts us (λ t i. h t (inr i)))

pub targets_seen : {reserved : List Path} (rules : Rules) (sets : List SetLooks) (faults : List Fault) (ts : List Entry) (clock : Clock) (decide : Rule → LogLook → Due) → ShowsLooks reserved rules.sets sets faults ts → AreLogsSeen rules clock ts (all_targets clock decide rules.sets sets)
targets_seen rules sets faults ts clock decide s = each_seen rules clock ts (all_targets clock decide rules.sets sets) (λ t i. target_seen rules sets faults ts clock t s (comes_from clock decide rules.sets sets t i))

pub targets_have_names : {reserved : List Path} (rules : Rules) (sets : List SetLooks) (faults : List Fault) (ts : List Entry) (clock : Clock) (decide : Rule → LogLook → Due) → ShowsLooks reserved rules.sets sets faults ts → TargetsHaveNames (all_targets clock decide rules.sets sets)
targets_have_names rules sets faults ts clock decide s = have_names rules clock ts (all_targets clock decide rules.sets sets) (targets_seen rules sets faults ts clock decide s)

-- each log of a plan has a path that is one
pub targets_have_paths : {reserved : List Path} (rules : List Rule) (sets : List SetLooks) (faults : List Fault) (ts : List Entry) (clock : Clock) (decide : Rule → LogLook → Due) → ShowsLooks reserved rules sets faults ts → (t : Target) → IsIn t (all_targets clock decide rules sets) → path_fault t.log ≡ None
targets_have_paths rules sets faults ts clock decide s t i = subst (λ (u : Target). path_fault u.log ≡ None) (sym c.is) (subst (λ (x : Path). path_fault x ≡ None) came.0.path_is (log_path s.found came.0.found s.paths (in_kept s.found s.keeps.choices came.0.found came.1)).path)
  where
    c : Comes clock rules sets t
    c = comes_from clock decide rules sets t i

    x : LookedLog
    x = looked_in (0 + c.place) c.look

    came : (o : IsFrom rules s.entries.front s.found x) × IsIn o.found (kept_of s.found s.keeps.choices)
    came = came_from rules sets faults ts s x (was_looked 0 c.place s.looked sets c.set c.look s.by_sets c.at_set c.among)
