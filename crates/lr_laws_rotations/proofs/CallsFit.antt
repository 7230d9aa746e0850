-- The calls of a rotation fit behind looks that showed the log and its members, whatever writers did.
use Rattle.std.proofs.Common.{◌≡◌, ◌≢◌, Bool, true, false, cond, ◌||◌, bytes_eq, refl, sym, ◌∙◌, ap, subst, append_assoc, List, [], ◌∷◌, ◌++◌, map, reverse, Option, Some, None, ℕ}
use Rattle.std.specs.Prelude.{All}
use Rattle.std.proofs.lemmas.List.Elements.{All-head, All-tail}
use Rattle.std.proofs.lemmas.Slice.Eq.{bytes_eq-Decides}
use Rattle.lr_rules.specs.declared.clock.Clock.{Clock}
use Rattle.lr_rules.specs.declared.path.Path.{Path}
use Rattle.lr_rules.specs.declared.rule.Count.{Count}
use Rattle.lr_rules.specs.declared.rule.Format.{Format}
use Rattle.lr_rules.specs.declared.rule.Make.{Make}
use Rattle.lr_rules.specs.declared.rule.Naming.{Naming}
use Rattle.lr_rules.specs.declared.rules.Rules.{Rules}
use Rattle.lr_rules.specs.Names.{IsOwnName, aside_path}
use Rattle.lr_rules.specs.Path.{parent_of}
use Rattle.lr_rules.proofs.Beside.{parent_same, beside_other}
use Rattle.lr_rules.proofs.Bools.{not_both}
use Rattle.lr_host.specs.declared.thing.Thing.{Thing}
use Rattle.lr_host.specs.declared.thing.Thing.TheVariants as thing
use Rattle.lr_host.specs.declared.entry.Entry.{Entry}
use Rattle.lr_host.specs.declared.entry.Entry.TheVariants as entry
use Rattle.lr_host.specs.declared.journal.Journal.{Journal}
use Rattle.lr_host.specs.Fits.{IsFileAt, IsDirectoryAt}
use Rattle.lr_host.specs.Lists.{IsIn}
use Rattle.lr_host.specs.Opening.{IsJournal}
use Rattle.lr_host.specs.Quiet.{AreQuiet, ChangeNothing}
use Rattle.lr_host.specs.Steps.{FitAll}
use Rattle.lr_host.specs.Told.{Each, Made, Left, not_told, is_told, CanCall, WhereTold}
use Rattle.lr_host.specs.World.{Past, past, world, Names, names, put}
use Rattle.lr_host.proofs.Names.{put_here, put_other, put_directory}
use Rattle.lr_host.proofs.Lists.{from_reverse}
use Rattle.lr_host.proofs.Looked.{seen_none}
use Rattle.lr_host.proofs.Made.{made_journal}
use Rattle.lr_host.proofs.More.{not_more}
use Rattle.lr_host.proofs.Quiet.{IsAny, Moment, moment, quiet_more, quiet_still, since_any, still_in_order}
use Rattle.lr_family.specs.declared.stand.Member.{Member}
use Rattle.lr_family.specs.Parts.{IsMember}
use Rattle.lr_family.specs.Spots.{path_at}
use Rattle.lr_family.proofs.Names.{member_own}
use Rattle.lr_scripts.specs.declared.removal.Removal.{Removal}
use Rattle.lr_copy.specs.declared.job.Job.{Job}
use Rattle.lr_copy.specs.Fits.{ArePaths, CopyHasPlace, IsStale}
use Rattle.lr_chain.specs.declared.ready.Move.{Move}
use Rattle.lr_chain.specs.declared.ready.Ready.{Ready}
use Rattle.lr_chain.specs.DatedReady.{removal_of}
use Rattle.lr_chain.specs.DatedRotation.{Ranked}
use Rattle.lr_chain.specs.Prepared.{ready_by, ready_of}
use Rattle.lr_chain.specs.Ready.{move_step, removal_at, dir_calls}
use Rattle.lr_chain.specs.Rotation.{is_left}
use Rattle.lr_laws_family.specs.Members.{IsFamily, IsNoMember}
use Rattle.lr_laws_family.specs.Shown.{SawFile, SawDir}
use Rattle.lr_laws_family.proofs.Fed.{IsTurn}
use Rattle.lr_laws_family.proofs.OrMade.{Spares}
use Rattle.lr_laws_family.proofs.Stood.{file_stands}
use Rattle.lr_laws_family.proofs.These.{these_spare}
use Rattle.lr_laws_rotations.specs.Calls.{after_call, FitCalls, CanCalls, copy_calls}
use Rattle.lr_laws_rotations.proofs.Alike.{IsLike, like_self, AreLike, Reads, fit_like, afters, fit_first, fit_rest, fit_both, fit_calls}
use Rattle.lr_laws_rotations.proofs.CopyFits.{copy_fits, copied_to, copied_other}
use Rattle.lr_laws_rotations.proofs.SeenFits.{seen_fits}
use Rattle.lr_laws_rotations.proofs.Moments.{saw_one, saw_file}
use Rattle.lr_laws_rotations.specs.Steps.{unlinks, bare_steps}
use Rattle.lr_laws_rotations.specs.Apart.{HasNames}
use Rattle.lr_laws_rotations.specs.TargetCalls.{transfer_calls, calls_of}
use Rattle.lr_laws_rotations.specs.Rotation.{removal_paths}
use Rattle.lr_laws_rotations.specs.Seen.{IsLogSeen}
use Rattle.lr_laws_rotations.specs.Target.{Target, source_by, IsMissingDir, IsDirSeenBy, IsJob}
use Rattle.lr_laws_rotations.proofs.Directories.{dir_now, log_dir, missing_free}
use Rattle.lr_laws_rotations.proofs.LogSeen.{any_names}
use Rattle.lr_laws_rotations.proofs.Own.{target_member, family_members, named_own}
use Rattle.lr_laws_rotations.proofs.PartFile.{member_parent, job_no_member, job_no_dir, job_paths, part_no_first}
use Rattle.lr_laws_rotations.proofs.Way.{aside_is, stays_first, first_apart, first_own, aside_apart, aside_own, family_at}
use Rattle.lr_laws_rotations.proofs.Rotating.{steps_turn, unlinks_turn, moves_turn}

-- ---- calls that leave a path alone

after_spared : (n : Names) (e : Entry) (y : Path) → Spares y e → after_call n e y ≡ n y
after_spared n (entry.Renames from to) y s = put_other (put n from thing.Nothing) to y (n from) s.1 ∙ put_other n from y thing.Nothing s.0
after_spared n (entry.Makes x mode) y s = put_other n x y (thing.File 0) s
after_spared n (entry.MakesDir x mode) y s = put_other n x y thing.Directory s
after_spared n (entry.Unlinks x) y s = put_other n x y thing.Nothing s
after_spared n (entry.Appends x bytes) y s = refl
after_spared n (entry.Truncates x) y s = refl
after_spared n _ y s = absurd s

spared : (n : Names) (es : List Entry) (y : Path) → Each (Spares y) es → afters n es y ≡ n y
spared n [] y a = refl
spared n (e ∷ es) y a = spared (after_call n e) es y a.1 ∙ after_spared n e y a.0

-- ---- where no member stood

-- nothing is unlinked first, nothing is moved, and nothing is unlinked at the end but the log under its new name
abbrev IsBare : Ready → Type 0
IsBare r = (unlinks r.leftovers ≡ []) × (map move_step r.moves ≡ []) × ((b : Bool) × (unlinks r.retire ≡ cond b (entry.Unlinks r.target ∷ []) []))

bare_by : (d : Option Format) (log : Path) (n : Naming) (c : Count) (maxage : Option ℕ) (clock : Clock) (anew : Make) → IsBare (ready_by d log n c maxage clock anew [])
bare_by None log n c maxage clock anew = (refl, refl, (is_left c 0, go (is_left c 0)))
  where
    go : (b : Bool) → unlinks (map (removal_at n) (cond b (0 ∷ []) [])) ≡ cond b (entry.Unlinks (path_at n 0) ∷ []) []
    go true = refl
    go false = refl
bare_by (Some format) log n c maxage clock anew = (refl, refl, (is_left c 0 || false, go _ (is_left c 0 || false)))
  where
    go : (m : Ranked) (b : Bool) → unlinks (map removal_of (reverse (cond b (m ∷ []) []))) ≡ cond b (entry.Unlinks m.path ∷ []) []
    go m true = refl
    go m false = refl

bare : (t : Target) → HasNames t → t.stand.members ≡ [] → IsBare t.ready
bare t h none = subst IsBare (sym (h.ready ∙ ap (λ (ms : List Member). ready_of t.ready.log t.naming t.count t.maxage h.clock t.ready.make ms) none)) (bare_by t.naming.dated t.ready.log t.naming t.count t.maxage h.clock t.ready.make)

-- ---- what depends on members alone, or leaves others alone

module _ (n : Naming) where
  reads_of : (rs : List Removal) → All (IsMember n) (removal_paths rs) → Each (Reads (IsMember n)) (unlinks rs)
  reads_of [] a = tt
  reads_of (r ∷ rs) a = (All-head (IsMember n) r.path (removal_paths rs) a, reads_of rs (All-tail (IsMember n) r.path (removal_paths rs) a))

  pub unlinks_spare : (x : Path) → IsNoMember n x → (rs : List Removal) → All (IsMember n) (removal_paths rs) → Each (Spares x) (unlinks rs)
  unlinks_spare x out [] a = tt
  unlinks_spare x out (r ∷ rs) a = (these_spare (IsMember n) x (entry.Unlinks r.path) out (All-head (IsMember n) r.path (removal_paths rs) a), unlinks_spare x out rs (All-tail (IsMember n) r.path (removal_paths rs) a))

  abbrev MovesMember : Move → Type 0
  MovesMember m = IsMember n m.from × IsMember n m.to

  pub moves_spare : (x : Path) → IsNoMember n x → (ms : List Move) → All MovesMember ms → Each (Spares x) (map move_step ms)
  moves_spare x out [] a = tt
  moves_spare x out (m ∷ ms) a = (these_spare (IsMember n) x (move_step m) out (All-head MovesMember m ms a), moves_spare x out ms (All-tail MovesMember m ms a))

-- ---- what brings the log to its final path

-- the log's rename, what reads the file that was the log, and what goes then
abbrev R : Target → Entry
R t = entry.Renames t.ready.log t.ready.target

abbrev M : Target → Entry
M t = entry.Reads t.ready.target 0 []

abbrev U : Target → List Entry
U t = unlinks t.ready.retire

-- The log can be set aside: where it goes to there is neither a directory nor another thing, in a directory; and neither it nor the
-- part file of its copy has that path.
record CanWait (t : Target) (job : Job) (path : Path) (n : Names) : Type 0 where
  no_directory : n path ≢ thing.Directory
  no_other : n path ≢ thing.Other
  in_directory : IsDirectoryAt n (parent_of path)
  apart : t.ready.log ≢ path
  first_part : job.part ≢ t.ready.log

-- Where the log's rename fits, and behind it what goes.
module _ (t : Target) (h : HasNames t) (shifted : Names) (can_turn : CanCall shifted (R t)) (behind_turn : FitCalls (after_call shifted (R t)) (U t)) where
  moved_target : after_call shifted (R t) t.ready.target ≡ thing.File can_turn.0.0
  moved_target = put_here (put shifted t.ready.log thing.Nothing) t.ready.target t.ready.target (shifted t.ready.log) refl ∙ can_turn.0.1

  by_rename : FitCalls shifted (R t ∷ M t ∷ U t)
  by_rename = (can_turn, ((can_turn.0.0, moved_target), behind_turn))

  -- ---- of a log that is copied

  module _ (job : Job) (is : t.job ≡ Some job) (stays : t.aside ≡ None) (paths : ArePaths job) (stale : IsStale job shifted) where
    shape : IsJob t job
    shape = h.job job is

    from_is : job.from ≡ t.ready.log
    from_is = shape.from_is ∙ ap (λ (a : Option Path). source_by a t.ready.log) stays

    place : CopyHasPlace job shifted
    place = record {
      log = subst (λ (x : Path). IsFileAt shifted x) (sym from_is) can_turn.0;
      directory = subst (λ (x : Path). IsDirectoryAt shifted x) (ap parent_of (sym shape.to_is) ∙ sym paths.dir_is) can_turn.3;
      no_directory = λ e. can_turn.1 (ap shifted (sym shape.to_is) ∙ e);
      no_other = λ e. can_turn.2 (ap shifted (sym shape.to_is) ∙ e);
    }

    apart_dir : job.part ≢ job.dir
    apart_dir = job_no_dir t job h.family (target_member t h) shape

    -- the members are as behind the rename
    like : AreLike (IsMember t.naming) (after_call shifted (R t)) (afters shifted (copy_calls job))
    like y o = at (bytes_eq job.to y) refl
      where
        at : (b : Bool) → bytes_eq job.to y ≡ b → IsLike (after_call shifted (R t) y) (afters shifted (copy_calls job) y)
        at true e =
            let same : job.to ≡ y = (bytes_eq-Decides job.to y).0 e in
            let by_rename : after_call shifted (R t) y ≡ thing.File can_turn.0.0 = ap (after_call shifted (R t)) (sym same ∙ shape.to_is) ∙ moved_target in
            let by_copy : afters shifted (copy_calls job) y ≡ thing.File 0 = ap (afters shifted (copy_calls job)) (sym same) ∙ copied_to job paths apart_dir shifted place in
            subst (λ v. IsLike v (afters shifted (copy_calls job) y)) (sym by_rename) (0, by_copy)
        at false e =
            let other : y ≢ job.to = λ is. (let yes : bytes_eq job.to y ≡ true = (bytes_eq-Decides job.to y).1 (sym is) in cc) in
            let by_rename : after_call shifted (R t) y ≡ shifted y =
            put_other (put shifted t.ready.log thing.Nothing) t.ready.target y (shifted t.ready.log) (λ is. other (is ∙ sym shape.to_is))
            ∙ put_other shifted t.ready.log y thing.Nothing (λ is. first_apart t h (subst (IsMember t.naming) is o)) in
            let by_copy : afters shifted (copy_calls job) y ≡ shifted y = copied_other job paths apart_dir shifted place y (λ is. job_no_member t job h.family (target_member t h) shape (subst (IsMember t.naming) is o)) other in
            subst (λ v. IsLike v (afters shifted (copy_calls job) y)) (sym by_rename) (subst (IsLike (shifted y)) (sym by_copy) (like_self (shifted y)))

    by_copy : FitCalls shifted (copy_calls job ++ M t ∷ U t)
    by_copy =
        fit_both shifted (copy_calls job) (M t ∷ U t) (copy_fits job paths apart_dir shifted place stale) (
          (0, ap (afters shifted (copy_calls job)) (sym shape.to_is) ∙ copied_to job paths apart_dir shifted place),
          fit_like (IsMember t.naming) (after_call shifted (R t)) (afters shifted (copy_calls job)) (U t) (reads_of t.naming t.ready.retire (family_members t h).gone) like behind_turn,
        )

  -- ---- of a log that is set aside

  module _ (job : Job) (is : t.job ≡ Some job) (path : Path) (aside : t.aside ≡ Some path) (paths : ArePaths job) (stale : IsStale job shifted) (wait : CanWait t job path shifted) where
    abbrev aside_shape : IsJob t job
    aside_shape = h.job job is

    aside_from : job.from ≡ path
    aside_from = aside_shape.from_is ∙ ap (λ (a : Option Path). source_by a t.ready.log) aside

    -- behind its rename to there
    abbrev turned : Names
    turned = after_call shifted (entry.Renames t.ready.log path)

    turned_other : (y : Path) → y ≢ t.ready.log → y ≢ path → turned y ≡ shifted y
    turned_other y a b = put_other (put shifted t.ready.log thing.Nothing) path y (shifted t.ready.log) b ∙ put_other shifted t.ready.log y thing.Nothing a

    waits : turned path ≡ thing.File can_turn.0.0
    waits = put_here (put shifted t.ready.log thing.Nothing) path path (shifted t.ready.log) refl ∙ can_turn.0.1

    no_path : IsNoMember t.naming path
    no_path = aside_apart t h path aside

    to_member : IsMember t.naming job.to
    to_member = subst (IsMember t.naming) (sym aside_shape.to_is) (target_member t h)

    member_stays : (y : Path) → IsMember t.naming y → turned y ≡ shifted y
    member_stays y o = turned_other y (λ e. first_apart t h (subst (IsMember t.naming) e o)) (λ e. no_path (subst (IsMember t.naming) e o))

    directory : IsDirectoryAt shifted job.dir
    directory = subst (λ (x : Path). IsDirectoryAt shifted x) (ap parent_of (sym aside_shape.to_is) ∙ sym paths.dir_is) can_turn.3

    file_no_directory : (id : ℕ) → thing.File id ≢ thing.Directory
    file_no_directory id e = cc

    directory_stays : turned job.dir ≡ thing.Directory
    directory_stays = turned_other job.dir (λ e. file_no_directory can_turn.0.0 (sym can_turn.0.1 ∙ (ap shifted (sym e) ∙ directory))) (λ e. wait.no_directory (ap shifted (sym e) ∙ directory)) ∙ directory

    part_apart : job.part ≢ path
    part_apart e = paths.part_apart (e ∙ sym aside_from)

    aside_place : CopyHasPlace job turned
    aside_place = record {
      log = subst (λ (x : Path). IsFileAt turned x) (sym aside_from) (can_turn.0.0, waits);
      directory = directory_stays;
      no_directory = λ e. can_turn.1 (ap shifted (sym aside_shape.to_is) ∙ (sym (member_stays job.to to_member) ∙ e));
      no_other = λ e. can_turn.2 (ap shifted (sym aside_shape.to_is) ∙ (sym (member_stays job.to to_member) ∙ e));
    }

    stale_then : IsStale job turned
    stale_then old = let file = stale old in (file.0, turned_other job.part wait.first_part part_apart ∙ file.1)

    aside_apart_dir : job.part ≢ job.dir
    aside_apart_dir = job_no_dir t job h.family (target_member t h) aside_shape

    -- behind the copy
    abbrev copied : Names
    copied = afters turned (copy_calls job)

    waits_still : copied path ≡ thing.File can_turn.0.0
    waits_still = copied_other job paths aside_apart_dir turned aside_place path (λ e. part_apart (sym e)) (λ e. no_path (subst (IsMember t.naming) (sym e) to_member)) ∙ waits

    -- and behind the unlink
    abbrev gone : Names
    gone = put copied path thing.Nothing

    to_gone : gone job.to ≡ thing.File 0
    to_gone = put_other copied path job.to thing.Nothing (λ e. no_path (subst (IsMember t.naming) e to_member)) ∙ copied_to job paths aside_apart_dir turned aside_place

    member_gone : (y : Path) → IsMember t.naming y → y ≢ job.to → gone y ≡ shifted y
    member_gone y o other = put_other copied path y thing.Nothing (λ e. no_path (subst (IsMember t.naming) e o))
        ∙ (copied_other job paths aside_apart_dir turned aside_place y (λ e. job_no_member t job h.family (target_member t h) aside_shape (subst (IsMember t.naming) e o)) other ∙ member_stays y o)

    -- the members are as behind the rename to the final path
    like_gone : AreLike (IsMember t.naming) (after_call shifted (R t)) (put (afters (after_call shifted (entry.Renames t.ready.log path)) (copy_calls job)) path thing.Nothing)
    like_gone y o = at (bytes_eq job.to y) refl
      where
        at : (b : Bool) → bytes_eq job.to y ≡ b → IsLike (after_call shifted (R t) y) (gone y)
        at true e =
            let same : job.to ≡ y = (bytes_eq-Decides job.to y).0 e in
            let by_rename : after_call shifted (R t) y ≡ thing.File can_turn.0.0 = ap (after_call shifted (R t)) (sym same ∙ aside_shape.to_is) ∙ moved_target in
            let by_copy : gone y ≡ thing.File 0 = ap gone (sym same) ∙ to_gone in
            subst (λ v. IsLike v (gone y)) (sym by_rename) (0, by_copy)
        at false e =
            let other : y ≢ job.to = λ is. (let yes : bytes_eq job.to y ≡ true = (bytes_eq-Decides job.to y).1 (sym is) in cc) in
            let by_rename : after_call shifted (R t) y ≡ shifted y =
            put_other (put shifted t.ready.log thing.Nothing) t.ready.target y (shifted t.ready.log) (λ is. other (is ∙ sym aside_shape.to_is))
            ∙ put_other shifted t.ready.log y thing.Nothing (λ is. first_apart t h (subst (IsMember t.naming) is o)) in
            subst (λ v. IsLike v (gone y)) (sym by_rename) (subst (IsLike (shifted y)) (sym (member_gone y o other)) (like_self (shifted y)))

    behind_gone : FitCalls gone (M t ∷ U t)
    behind_gone = ((0, ap gone (sym aside_shape.to_is) ∙ to_gone), fit_like (IsMember t.naming) (after_call shifted (R t)) gone (U t) (reads_of t.naming t.ready.retire (family_members t h).gone) like_gone behind_turn)

    behind_aside : FitCalls turned ((copy_calls job ++ entry.Unlinks path ∷ []) ++ M t ∷ U t)
    behind_aside = subst (FitCalls turned) (sym (append_assoc (copy_calls job) (entry.Unlinks path ∷ []) (M t ∷ U t)))
        (fit_both turned (copy_calls job) (entry.Unlinks path ∷ M t ∷ U t) (copy_fits job paths aside_apart_dir turned aside_place stale_then) ((can_turn.0.0, waits_still), behind_gone))

    by_aside : FitCalls shifted (transfer_calls t.ready (Some job) (Some path) ++ M t ∷ U t)
    by_aside = (directory, ((can_turn.0, wait.no_directory, wait.no_other, wait.in_directory, wait.apart), behind_aside))

  -- each of them
  transfer_fits : (j : Option Job) (a : Option Path) → t.job ≡ j → t.aside ≡ a → ((job : Job) → t.job ≡ Some job → ArePaths job × IsStale job shifted)
      → ((job : Job) (path : Path) → t.job ≡ Some job → t.aside ≡ Some path → CanWait t job path shifted) → FitCalls shifted (transfer_calls t.ready j a ++ M t ∷ U t)
  transfer_fits None a none aside copied waits = by_rename
  transfer_fits (Some job) None is aside copied waits = let c = copied job is in by_copy job is aside c.0 c.1
  transfer_fits (Some job) (Some path) is aside copied waits = let c = copied job is in by_aside job is path aside c.0 c.1 (waits job path is aside)

-- ---- the whole

-- the paths of a copy
pub log_paths : (rules : Rules) (clock : Clock) (looks : List Entry) (t : Target) → IsLogSeen rules clock looks t → (job : Job) → t.job ≡ Some job → ArePaths job
log_paths rules clock looks t l job is = let h = any_names rules clock looks t l in job_paths t job l.family (target_member t h) (l.job job is).0 h l.given.rule l.given.naming_is

-- a directory stays where calls fit that rename and unlink alone
directory_lasts : (n : Names) (es : List Entry) (d : Path) → Each IsTurn es → FitCalls n es → IsDirectoryAt n d → IsDirectoryAt (afters n es) d
directory_lasts n [] d turns fit is = is
directory_lasts n (e ∷ es) d turns fit is = directory_lasts (after_call n e) es d turns.1 fit.1 (one e turns.0 fit.0)
  where
    no_file : (id : ℕ) → thing.File id ≡ thing.Directory → ⊥
    no_file id e = cc

    one : (e : Entry) → IsTurn e → CanCall n e → IsDirectoryAt (after_call n e) d
    one (entry.Renames from to) turn can = put_other (put n from thing.Nothing) to d (n from) (λ e. can.1 (ap n (sym e) ∙ is)) ∙ (put_other n from d thing.Nothing (λ e. no_file can.0.0 (sym can.0.1 ∙ (ap n (sym e) ∙ is))) ∙ is)
    one (entry.Unlinks x) turn can = put_other n x d thing.Nothing (λ e. no_file can.0 (sym can.1 ∙ (ap n (sym e) ∙ is))) ∙ is
    one _ turn can = absurd turn

module _ (rules : Rules) (clock : Clock) (t : Target) (p q : Past) (es : List Entry) (journal : IsJournal p) (m : Made p es q) (quiet : AreQuiet (reverse es)) (l : IsLogSeen rules clock (reverse es) t) where
  abbrev now : Names
  now = names (world q)

  abbrev h : HasNames t
  h = any_names rules clock (reverse es) t l

  -- from the log's way on
  abbrev back : Option Job → Option Path → List Entry
  back j a = transfer_calls t.ready j a ++ M t ∷ U t

  saw_first : SawFile t.ready.log (reverse es)
  saw_first = saw_one t.ready.log (reverse es) l.way_seen.first

  first_family : IsFamily t.ready.log t.naming
  first_family = family_at t.log t.naming t.ready.log l.family (first_apart t h)

  still : ChangeNothing es
  still = still_in_order es (quiet_still (reverse es) quiet)

  abbrev E : List Entry
  E = unlinks t.ready.leftovers

  abbrev S : List Entry
  S = map move_step t.ready.moves

  -- ---- where the log waits

  waiting_is : (path : Path) → t.aside ≡ Some path → path ≡ aside_path t.log
  waiting_is path aside = (aside_is t path h.way aside).1

  -- nothing stood there, so neither a directory nor another thing stands there now
  waiting_now : (path : Path) → t.aside ≡ Some path → (now path ≢ thing.Directory) × (now path ≢ thing.Other)
  waiting_now path aside = (
    not_more (names (world at.at)) now path thing.Directory (quiet_more IsAny at.at q at.until) (λ g e. cc) (neither (names (world at.at) path) (seen_none (world at.at) (names (world at.at) path) at.fits)).0,
    not_more (names (world at.at)) now path thing.Other (quiet_more IsAny at.at q at.until) (λ g e. cc) (neither (names (world at.at) path) (seen_none (world at.at) (names (world at.at) path) at.fits)).1,
  )
    where
      at : Moment IsAny p q (entry.Look path None)
      at = moment IsAny p q (entry.Look path None) es (since_any p q es m) m still (from_reverse (entry.Look path None) es (l.way_seen.free path aside))

      neither : (u : Thing) → u ≡ thing.Nothing → (u ≢ thing.Directory) × (u ≢ thing.Other)
      neither u e = ((λ d. cc), (λ d. cc))

  -- it is in the log's directory
  waiting_dir : (path : Path) → t.aside ≡ Some path → IsDirectoryAt now (parent_of path)
  waiting_dir path aside = subst (λ (x : Path). IsDirectoryAt now x) (sym (ap parent_of (waiting_is path aside) ∙ parent_same t.log))
      (log_dir t q l.path (made_journal p q es m journal) (saw_file p q es t.log m quiet l.log_seen))

  waiting_apart : (path : Path) → t.aside ≡ Some path → t.ready.log ≢ path
  waiting_apart path aside e = beside_other t.log (sym (stays_first t path h.way aside) ∙ (e ∙ waiting_is path aside))

  part_apart_now : (job : Job) → t.job ≡ Some job → job.part ≢ t.ready.log
  part_apart_now job is = part_no_first t job l.family (target_member t h) (l.job job is).0 h l.given.rule l.given.naming_is

  -- ---- in the directory that was seen

  module _ (saw : SawDir t.naming.dir (reverse es)) where
    -- the steps of what is ready fit
    own_fits : FitAll now (reverse (bare_steps t.ready))
    own_fits = subst (λ (r : Ready). FitAll now (reverse (bare_steps r))) (sym h.ready)
        (seen_fits clock t.ready.log t.naming t.count t.maxage t.ready.make t.stand p q es first_family h.start h.count m still saw_first saw l.seen l.free)

    by_steps : FitCalls now (E ++ (S ++ R t ∷ U t))
    by_steps = fit_calls now (bare_steps t.ready) (steps_turn t) own_fits

    -- behind the leftovers, and behind the moves
    abbrev left : Names
    left = afters now E

    abbrev shifted : Names
    shifted = afters left S

    behind_left : FitCalls left (S ++ R t ∷ U t)
    behind_left = fit_rest now E (S ++ R t ∷ U t) by_steps

    turn_fits : FitCalls shifted (R t ∷ U t)
    turn_fits = fit_rest left S (R t ∷ U t) behind_left

    -- the leftovers and the moves leave the part file alone
    part_left : (job : Job) → t.job ≡ Some job → shifted job.part ≡ now job.part
    part_left job is =
        let out = job_no_member t job l.family (target_member t h) (l.job job is).0 in
        spared left S job.part (moves_spare t.naming job.part out t.ready.moves (family_members t h).moves) ∙ spared now E job.part (unlinks_spare t.naming job.part out t.ready.leftovers (family_members t h).early)

    stale : (job : Job) → t.job ≡ Some job → IsStale job shifted
    stale job is old = let file = saw_file p q es job.part m quiet ((l.job job is).1 old) in (file.0, part_left job is ∙ file.1)

    -- they leave alone where it waits
    path_left : (path : Path) → t.aside ≡ Some path → shifted path ≡ now path
    path_left path aside =
        let out = aside_apart t h path aside in
        spared left S path (moves_spare t.naming path out t.ready.moves (family_members t h).moves) ∙ spared now E path (unlinks_spare t.naming path out t.ready.leftovers (family_members t h).early)

    -- and each directory
    directory_left : (dir : Path) → IsDirectoryAt now dir → IsDirectoryAt shifted dir
    directory_left dir is = directory_lasts left S dir (moves_turn t.ready.moves) (fit_first left S (R t ∷ U t) behind_left)
        (directory_lasts now E dir (unlinks_turn t.ready.leftovers) (fit_first now E (S ++ R t ∷ U t) by_steps) is)

    can_wait : (job : Job) (path : Path) → t.job ≡ Some job → t.aside ≡ Some path → CanWait t job path shifted
    can_wait job path is aside = record {
      no_directory = λ e. (waiting_now path aside).0 (sym (path_left path aside) ∙ e);
      no_other = λ e. (waiting_now path aside).1 (sym (path_left path aside) ∙ e);
      in_directory = directory_left (parent_of path) (waiting_dir path aside);
      apart = waiting_apart path aside;
      first_part = part_apart_now job is;
    }

    seen_dir_fits : (j : Option Job) (a : Option Path) → t.job ≡ j → t.aside ≡ a → FitCalls now (E ++ (S ++ back j a))
    seen_dir_fits j a is aside =
        fit_both now E (S ++ back j a) (fit_first now E (S ++ R t ∷ U t) by_steps)
        (fit_both left S (back j a) (fit_first left S (R t ∷ U t) behind_left) (transfer_fits t h shifted turn_fits.0 turn_fits.1 j a is aside (λ job has. (log_paths rules clock (reverse es) t l job has, stale job has)) can_wait))

  -- ---- in the directory that is made

  module _ (dir : Path) (mode : Option ℕ) (missing : IsMissingDir t.log t.naming t.stand.members t.job (reverse es) dir) where
    abbrev made : Names
    made = put now dir thing.Directory

    made_other : (x : Path) → IsOwnName t.log t.naming x → put (names (world q)) dir thing.Directory x ≡ names (world q) x
    made_other x own = put_other now dir x thing.Directory (λ e. missing.apart (subst (IsOwnName t.log t.naming) e own))

    log_file : IsFileAt made t.ready.log
    log_file = let f = file_stands p q es m still t.ready.log saw_first in (f.0, made_other t.ready.log (named_own t.log t.naming t.ready.log (first_own t h)) ∙ f.1)

    target_same : made t.ready.target ≡ now t.ready.target
    target_same = made_other t.ready.target (member_own t.log t.naming t.ready.target (target_member t h))

    free : (now t.ready.target ≢ thing.Directory) × (now t.ready.target ≢ thing.Other)
    free = missing_free t.log t.naming t.ready.target p q es l.family (target_member t h) journal m quiet (subst (λ (d : Path). IsIn (entry.Look d None) (reverse es)) missing.dir_is missing.gone)

    can_turn : CanCall made (R t)
    can_turn = (
      log_file,
      λ e. free.0 (sym target_same ∙ e),
      λ e. free.1 (sym target_same ∙ e),
      put_here now dir (parent_of t.ready.target) thing.Directory (member_parent t.log t.naming l.family t.ready.target (target_member t h) ∙ sym missing.dir_is),
      λ e. first_apart t h (subst (IsMember t.naming) (sym e) (target_member t h)),
    )

    -- no member stood
    none : IsBare t.ready
    none = bare t h missing.no_members

    goes : (b : Bool) → FitCalls (after_call made (R t)) (cond b (entry.Unlinks t.ready.target ∷ []) [])
    goes true = ((log_file.0, put_here (put made t.ready.log thing.Nothing) t.ready.target t.ready.target (made t.ready.log) refl ∙ log_file.1), tt)
    goes false = tt

    behind_made : FitCalls (after_call made (R t)) (U t)
    behind_made = subst (FitCalls (after_call made (R t))) (sym none.2.1) (goes none.2.0)

    not_stale : (job : Job) → t.job ≡ Some job → IsStale job made
    not_stale job is old = absurd (not_both job.stale old (missing.not_stale job is))

    waiting_same : (path : Path) → t.aside ≡ Some path → made path ≡ now path
    waiting_same path aside = made_other path (named_own t.log t.naming path (aside_own t h path aside))

    can_wait_made : (job : Job) (path : Path) → t.job ≡ Some job → t.aside ≡ Some path → CanWait t job path made
    can_wait_made job path is aside = record {
      no_directory = λ e. (waiting_now path aside).0 (sym (waiting_same path aside) ∙ e);
      no_other = λ e. (waiting_now path aside).1 (sym (waiting_same path aside) ∙ e);
      in_directory = put_directory now dir (parent_of path) (waiting_dir path aside);
      apart = waiting_apart path aside;
      first_part = part_apart_now job is;
    }

    made_fits : (j : Option Job) (a : Option Path) → t.job ≡ j → t.aside ≡ a → FitCalls now (E ++ (entry.MakesDir dir mode ∷ (S ++ back j a)))
    made_fits j a is aside =
        subst (λ (ls : List Entry). FitCalls now (ls ++ (entry.MakesDir dir mode ∷ (S ++ back j a)))) (sym none.0)
        (subst (λ (ms : List Entry). FitCalls now (entry.MakesDir dir mode ∷ (ms ++ back j a))) (sym none.1)
        (dir_now p q es (parent_of dir) m quiet missing.parent, transfer_fits t h made can_turn behind_made j a is aside (λ job has. (log_paths rules clock (reverse es) t l job has, not_stale job has)) can_wait_made))

  pub log_fits : FitCalls (names (world q)) (calls_of t)
  log_fits = go t.ready.dir refl l.dir
    where
      go : (d : Option (Path × Option ℕ)) → t.ready.dir ≡ d → IsDirSeenBy d t.log t.naming t.stand.members t.job (reverse es) → FitCalls now (calls_of t)
      go None is saw = subst (λ (d : Option (Path × Option ℕ)). FitCalls now (E ++ (dir_calls d ++ (S ++ back t.job t.aside)))) (sym is) (seen_dir_fits saw t.job t.aside refl refl)
      go (Some (dir, mode)) is missing = subst (λ (d : Option (Path × Option ℕ)). FitCalls now (E ++ (dir_calls d ++ (S ++ back t.job t.aside)))) (sym is) (made_fits dir mode missing t.job t.aside refl refl)

pub log_can : (rules : Rules) (clock : Clock) (t : Target) (o m : Option Journal) → WhereTold o IsJournal → Left (λ ts. AreQuiet ts × IsLogSeen rules clock ts t) o m → CanCalls m (calls_of t)
log_can rules clock t o m disk not_told = record { can = tt }
log_can rules clock t o m disk (is_told {j = j} {k = k} {es = es} made h) = record { can = log_fits rules clock t (past j) (past k) es disk made h.0 h.1 }
