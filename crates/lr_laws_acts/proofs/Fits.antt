-- The steps of logs that don't meet fit, wherever those before them ended.
use Rattle.std.proofs.Common.{◌≡◌, ◌⊎◌, inl, inr, ⊎_elim, ℕ, Bool, true, false, cond, bytes_eq, refl, sym, ◌∙◌, ap, subst, Option, Some, None, List, [], ◌∷◌, ◌++◌, map, reverse, append_assoc, append-nil}
use Rattle.std.specs.Prelude.{pos, filter}
use Rattle.std.proofs.lemmas.List.{reverse-reverse}
use Rattle.std.proofs.lemmas.List.Concat.{flat_map-append}
use Rattle.std.proofs.lemmas.Slice.Eq.{bytes_eq-Decides}
use Rattle.lr_rules.specs.declared.path.Path.{Path}
use Rattle.lr_rules.specs.declared.fault.Ended.TheVariants as ended
use Rattle.lr_rules.specs.declared.fault.Fault.{Fault}
use Rattle.lr_rules.specs.declared.fault.Phase.{Phase}
use Rattle.lr_rules.specs.declared.fault.Phase.TheVariants as phase
use Rattle.lr_rules.specs.declared.rule.Make.{Make}
use Rattle.lr_rules.specs.declared.rule.Make.TheVariants as make
use Rattle.lr_rules.specs.Names.{IsOwnName, Meet}
use Rattle.lr_rules.specs.Path.{parent_of}
use Rattle.lr_host.specs.declared.thing.Seen.{Seen}
use Rattle.lr_host.specs.declared.thing.Thing.TheVariants as thing
use Rattle.lr_host.specs.declared.entry.Entry.{Entry}
use Rattle.lr_host.specs.declared.entry.Entry.TheVariants as entry
use Rattle.lr_host.specs.declared.journal.Journal.{Journal}
use Rattle.lr_host.specs.World.{Past, ◌▸◌, past, world, put, Names, names}
use Rattle.lr_host.specs.Fits.{MaybeFileAt, IsDirectoryAt}
use Rattle.lr_host.specs.Lists.{IsIn}
use Rattle.lr_host.specs.Looks.{IsDir}
use Rattle.lr_host.specs.Told.{Each, Then, Made, at_first, by_writer, by_tool, Left, not_told, is_told, CanCall, Can}
use Rattle.lr_host.specs.Steps.{is_naming, CanAll}
use Rattle.lr_host.proofs.More.{IsMoreAt, more_at_on, wrote_names}
use Rattle.lr_host.proofs.Names.{put_other}
use Rattle.lr_host.proofs.Each.{filter_reverse, each_append, each_as, each_reverse, each_first, each_last}
use Rattle.lr_host.proofs.Left.{left_first, left_then, can_as, still_step}
use Rattle.lr_host.proofs.Known.{ever_says}
use Rattle.lr_host.proofs.Looked.{file_no_dir, seen_dir}
use Rattle.lr_host.proofs.Quiet.{IsAny}
use Rattle.lr_scripts.specs.declared.command.Command.{Command}
use Rattle.lr_scripts.specs.declared.removal.Removal.{Removal}
use Rattle.lr_scripts.specs.Programs.{runs}
use Rattle.lr_copy.specs.declared.job.Job.{Job}
use Rattle.lr_copy.specs.Copying.{clearing}
use Rattle.lr_copy.proofs.Pieces.{all_name_none}
use Rattle.lr_chain.specs.declared.ready.Move.{Move}
use Rattle.lr_chain.specs.declared.ready.Ready.{Ready}
use Rattle.lr_chain.specs.Ready.{move_step, dir_calls}
use Rattle.lr_laws_rotations.specs.Calls.{after_call, FitCalls, CanCalls, copy_calls}
use Rattle.lr_laws_rotations.specs.AllTurns.{AlsoDoes}
use Rattle.lr_laws_rotations.specs.TargetCalls.{calls_of}
use Rattle.lr_laws_rotations.specs.Steps.{unlinks}
use Rattle.lr_laws_rotations.specs.Target.{Target, source_of, transfer_of, target_entries, IsJob}
use Rattle.lr_laws_rotations.specs.Own.{ChangesOwn}
use Rattle.lr_laws_rotations.specs.Apart.{HasNames}
use Rattle.lr_laws_rotations.proofs.Own.{named_own, own_paths}
use Rattle.lr_laws_rotations.proofs.Way.{source_own}
use Rattle.lr_laws_family.specs.Weave.{IsFirstOf}
use Rattle.lr_laws_rotations.proofs.Alike.{IsLike, like_self, AreLike, more_like, put_like, Reads, can_like, after_like, fit_like, each_anywhere, calls_as, calls_made, calls_still}
use Rattle.lr_laws_family.proofs.Fed.{IsTurn}
use Rattle.lr_laws_rotations.proofs.Others.{rotation_turns}
use Rattle.lr_plan.specs.declared.mark.Mark.{Mark}
use Rattle.lr_plan.specs.declared.plan.LogPlan.{LogPlan}
use Rattle.lr_plan.specs.declared.step.Step.{Step}
use Rattle.lr_plan.specs.declared.step.Step.TheVariants as step
use Rattle.lr_plan.specs.Outcomes.{Succeeds}
use Rattle.lr_plan.specs.Steps as steps
use Rattle.lr_plan.specs.Steps.{program, removal, removals, directory, move, step_if, copy, transfer, anew, made_anew, finishing, steps_of_log}
use Rattle.lr_plan.specs.Asking.{asks, CanMake, CanEach}
use Rattle.lr_plan.specs.Course.{Course}
use Rattle.lr_laws_acts.specs.Fitting.{IsFit, AreFit, NoneMeets, DontMeet, ReadsNothing, ReadsThis, ReadThemselves, ReadsOwn, ReadOwn}
use Rattle.lr_laws_acts.specs.Planned.{IsReadyFor, AreReadyFor}
use Rattle.lr_laws_acts.proofs.Lasting.{dir_walk, makes_later}
use Rattle.lr_laws_acts.specs.Parts.{takes_name, MakesOnly, changes_by}
use Rattle.lr_laws_acts.proofs.Parting.{Begun, course_first}
use Rattle.lr_laws_acts.proofs.Halves.{own_calls, letting_calls, front_calls, removing_calls, back_calls, call_halves}
use Rattle.lr_laws_acts.proofs.Planning.{calls_of_step, calls_by, log_is, front_asks, finishing_asks, removals_ask, log_plain, program_none, program_asks, program_plain}

-- ---- entries that change other paths

abbrev pub Avoids : (Path → Type 0) → Entry → Type 0
Avoids X (entry.Renames from to) = (X from → ⊥) × (X to → ⊥)
Avoids X (entry.Unlinks x) = X x → ⊥
Avoids X (entry.MakesDir x mode) = X x → ⊥
Avoids X _ = ⊥

avoided : (X : Path → Type 0) (q : Past) (e : Entry) (y : Path) → Avoids X e → X y → names (world (q ▸ e)) y ≡ names (world q) y
avoided X q (entry.Renames from to) y a i =
    put_other (put (names (world q)) from thing.Nothing) to y (names (world q) from) (λ same. a.1 (subst X same i)) ∙ put_other (names (world q)) from y thing.Nothing (λ same. a.0 (subst X same i))
avoided X q (entry.Unlinks x) y a i = put_other (names (world q)) x y thing.Nothing (λ same. a (subst X same i))
avoided X q (entry.MakesDir x mode) y a i = put_other (names (world q)) x y thing.Directory (λ same. a (subst X same i))
avoided X q _ y a i = absurd a

more_made : (X : Path → Type 0) (p q : Past) (es : List Entry) → Made p es q → Each (Avoids X) (filter is_naming es) → (y : Path) → X y → IsMoreAt y (names (world p)) (names (world q))
more_made X p _ _ at_first a y i = inl refl
more_made X p _ es (by_writer {q = q} {e = e} m w f) a y i = more_at_on (names (world p)) (names (world q)) (names (world (q ▸ e))) y (more_made X p q es m a y i) (wrote_names q e y w)
more_made X p _ _ (by_tool {es = es} {q = q} {e = e} m t f) a y i = go (λ b. more_made X p q es m b y i) (is_naming e) refl a
  where
    go : (Each (Avoids X) (filter is_naming es) → IsMoreAt y (names (world p)) (names (world q))) → (b : Bool) → is_naming e ≡ b → Each (Avoids X) (cond b (e ∷ filter is_naming es) (filter is_naming es)) → IsMoreAt y (names (world p)) (names (world (q ▸ e)))
    go further true h a = more_at_on (names (world p)) (names (world q)) (names (world (q ▸ e))) y (further a.1) (inl (avoided X q e y a.0 i))
    go further false h a = more_at_on (names (world p)) (names (world q)) (names (world (q ▸ e))) y (further a) (still_step q e t f h y)

-- by the entries that take names, and what is made besides
pub naming_avoids : (X : Path → Type 0) (P : Entry → Type 0) (ts : List Entry) → Each (Avoids X) (filter takes_name ts) → Each (MakesOnly P) ts → ((y : Path) (mode : Option ℕ) → P (entry.MakesDir y mode) → X y → ⊥) → Each (Avoids X) (filter is_naming ts)
naming_avoids X P [] a m f = tt
naming_avoids X P (entry.Renames from to ∷ ts) a m f = (a.0, naming_avoids X P ts a.1 m.1 f)
naming_avoids X P (entry.Unlinks x ∷ ts) a m f = (a.0, naming_avoids X P ts a.1 m.1 f)
naming_avoids X P (entry.MakesDir x mode ∷ ts) a m f = (f x mode m.0, naming_avoids X P ts a m.1 f)
naming_avoids X P (_ ∷ ts) a m f = naming_avoids X P ts a m.1 f

abbrev pub Never : Entry → Type 0
Never e = ⊥

-- where nothing is made, and no name goes
pub none_named : (ts : List Entry) → filter takes_name ts ≡ [] → Each (MakesOnly Never) ts → filter is_naming ts ≡ []
none_named [] n m = refl
none_named (entry.Renames from to ∷ ts) n m = absurd (cc)
none_named (entry.Unlinks x ∷ ts) n m = absurd (cc)
none_named (entry.MakesDir x mode ∷ ts) n m = absurd m.0
none_named (_ ∷ ts) n m = none_named ts n m.1

-- ---- what a call asks of the paths that it names

-- It is a call of a rotation but the making of a directory, and the paths that it names as files have X. Of directories nothing is said, since each stands whatever is called.
abbrev pub Asks : (Path → Type 0) → Entry → Type 0
Asks X (entry.Reads x from piece) = X x
Asks X (entry.Renames from to) = X from × X to
Asks X (entry.Makes x mode) = Unit {0}
Asks X (entry.Appends x piece) = X x
Asks X (entry.Truncates x) = X x
Asks X (entry.Unlinks x) = X x
Asks X (entry.SyncsFile x) = X x
Asks X (entry.SyncsDir x) = Unit {0}
Asks X _ = ⊥

-- the path has X, or is a directory
abbrev OrDirectory : (Path → Type 0) → Names → Path → Type 0
OrDirectory X n y = X y ⊎ IsDirectoryAt n y

-- a directory behind such a call was one before it
dir_first : (X : Path → Type 0) (n : Names) (e : Entry) (d : Path) → Asks X e → CanCall n e → IsDirectoryAt (after_call n e) d → IsDirectoryAt n d
dir_first X n (entry.Renames from to) d a can h = go (bytes_eq to d) (bytes_eq from d) h
  where
    go : (b c : Bool) → cond b (n from) (cond c thing.Nothing (n d)) ≡ thing.Directory → n d ≡ thing.Directory
    go true c e = absurd (file_no_dir (n from) can.0.0 can.0.1 e)
    go false true e = absurd (cc)
    go false false e = e
dir_first X n (entry.Makes x mode) d a can h = go (bytes_eq x d) h
  where
    go : (b : Bool) → cond b (thing.File 0) (n d) ≡ thing.Directory → n d ≡ thing.Directory
    go true e = absurd (cc)
    go false e = e
dir_first X n (entry.Unlinks x) d a can h = go (bytes_eq x d) h
  where
    go : (b : Bool) → cond b thing.Nothing (n d) ≡ thing.Directory → n d ≡ thing.Directory
    go true e = absurd (cc)
    go false e = e
dir_first X n (entry.Reads x from piece) d a can h = h
dir_first X n (entry.Appends x piece) d a can h = h
dir_first X n (entry.Truncates x) d a can h = h
dir_first X n (entry.SyncsFile x) d a can h = h
dir_first X n (entry.SyncsDir x) d a can h = h
dir_first X n _ d a can h = absurd a

-- a call that fits depends on such paths and directories alone
call_reads : (X : Path → Type 0) (m n : Names) (e : Entry) → ((d : Path) → IsDirectoryAt n d → IsDirectoryAt m d) → Asks X e → CanCall n e → Reads (OrDirectory X m) e
call_reads X m n (entry.Reads x from piece) f a can = inl a
call_reads X m n (entry.Renames from to) f a can = (inl a.0, inl a.1, inr (f (parent_of to) can.3))
call_reads X m n (entry.Makes x mode) f a can = inr (f (parent_of x) can)
call_reads X m n (entry.Appends x piece) f a can = inl a
call_reads X m n (entry.Truncates x) f a can = inl a
call_reads X m n (entry.Unlinks x) f a can = inl a
call_reads X m n (entry.SyncsFile x) f a can = inl a
call_reads X m n (entry.SyncsDir x) f a can = inr (f x can)
call_reads X m n _ f a can = absurd a

-- or it makes a directory
abbrev pub AsksFor : (Path → Type 0) → Entry → Type 0
AsksFor X (entry.MakesDir x mode) = Unit {0}
AsksFor X e = Asks X e

pub asks_for : (X : Path → Type 0) (es : List Entry) → Each (Asks X) es → Each (AsksFor X) es
asks_for X es a = each_as (Asks X) (AsksFor X) es (λ e h. one e h) a
  where
    one : (e : Entry) → Asks X e → AsksFor X e
    one (entry.MakesDir x mode) h = tt
    one e h = h

reads_for : (X : Path → Type 0) (n : Names) (e : Entry) → AsksFor X e → CanCall n e → Reads (OrDirectory X n) e
reads_for X n (entry.MakesDir x mode) a can = inr can
reads_for X n e a can = call_reads X n n e (λ d h. h) a can

-- behind such a call the second names are like the first at these paths, and at the directories
like_after : (X : Path → Type 0) (n n' : Names) (e : Entry) → AsksFor X e → CanCall n e → AreLike (OrDirectory X n) n n' → AreLike (OrDirectory X (after_call n e)) (after_call n e) (after_call n' e)
like_after X n n' (entry.MakesDir x mode) a can l = λ y i. ⊎_elim (λ own. put_like n n' x thing.Directory thing.Directory y refl (l y (inl own))) (λ dir. at_dir y (bytes_eq x y) dir) i
  where
    at_dir : (y : Path) (b : Bool) → cond b thing.Directory (n y) ≡ thing.Directory → IsLike (cond b thing.Directory (n y)) (cond b thing.Directory (n' y))
    at_dir y true e = refl
    at_dir y false e = l y (inr e)
like_after X n n' e a can l = λ y i. after_like (OrDirectory X n) n n' e (reads_for X n e a can) l y (⊎_elim (λ own. inl own) (λ dir. inr (dir_first X n e y a can dir)) i)

calls_far : (X : Path → Type 0) (n n' : Names) (es : List Entry) → Each (AsksFor X) es → AreLike (OrDirectory X n) n n' → FitCalls n es → FitCalls n' es
calls_far X n n' [] a l fit = tt
calls_far X n n' (e ∷ es) a l fit = (can_like (OrDirectory X n) n n' e (reads_for X n e a.0 fit.0) l fit.0, calls_far X (after_call n e) (after_call n' e) es a.1 (like_after X n n' e a.0 fit.0 l) fit.1)

-- what fits goes on fitting over calls that leave its paths alone
pub can_far : (X : Path → Type 0) (calls : List Entry) {P : List Entry → Type 0} {o m : Option Journal} → Each (AsksFor X) calls → CanCalls o calls → Left P o m → ((ts : List Entry) → P ts → Each (Avoids X) (filter is_naming ts)) → CanCalls m calls
can_far X calls ask can not_told f = record { can = tt }
can_far X calls ask can (is_told {j = j} {k = k} {es = es} m h) f = record { can = calls_far X here there calls ask like can.can }
  where
    here : Names
    here = names (world (past j))

    there : Names
    there = names (world (past k))

    avoids : Each (Avoids X) (filter is_naming es)
    avoids = subst (Each (Avoids X)) (ap (filter is_naming) (reverse-reverse es)) (subst (Each (Avoids X)) (sym (filter_reverse is_naming (reverse es))) (each_reverse (Avoids X) (filter is_naming (reverse es)) (f (reverse es) h)))

    like : AreLike (OrDirectory X here) here there
    like y (inl i) = more_like here there y (more_made X (past j) (past k) es m avoids y i)
    like y (inr dir) = subst (λ t. IsLike t (there y)) (sym dir) (dir_walk (past j) (past k) es y m dir)

-- ---- the calls of a rotation

-- of what two conditions hold a third holds
each_two : (P Q R : Entry → Type 0) (es : List Entry) → ((e : Entry) → P e → Q e → R e) → Each P es → Each Q es → Each R es
each_two P Q R [] f a b = tt
each_two P Q R (e ∷ es) f a b = (f e a.0 b.0, each_two P Q R es f a.1 b.1)

-- the names of the log's family
abbrev pub NamesOf : Target → Path → Type 0
NamesOf t y = IsOwnName t.log t.naming y

-- so a rename or an unlink of the rotation asks of those alone
turn_asks : (t : Target) (e : Entry) → IsTurn e → ChangesOwn t.log t.naming e → Asks (NamesOf t) e
turn_asks t (entry.Renames from to) turn own = (own from (inl refl), own to (inr (inl refl)))
turn_asks t (entry.Unlinks x) turn own = own x (inl refl)
turn_asks t _ turn own = absurd turn

module _ (t : Target) (h : HasNames t) where
  -- all its renames and unlinks
  turns_ask : Each (Asks (NamesOf t)) (target_entries t)
  turns_ask = each_two IsTurn (ChangesOwn t.log t.naming) (Asks (NamesOf t)) (target_entries t) (λ e turn own. turn_asks t e turn own) (rotation_turns t) (own_paths t h)

  -- those behind the leftovers' removals
  behind_leftovers : Each (Asks (NamesOf t)) (map move_step t.ready.moves ++ (transfer_of t.ready t.job t.aside ++ unlinks t.ready.retire))
  behind_leftovers = each_last (Asks (NamesOf t)) (unlinks t.ready.leftovers) (map move_step t.ready.moves ++ (transfer_of t.ready t.job t.aside ++ unlinks t.ready.retire)) turns_ask

  -- and those behind the moves
  behind_moves : Each (Asks (NamesOf t)) (transfer_of t.ready t.job t.aside ++ unlinks t.ready.retire)
  behind_moves = each_last (Asks (NamesOf t)) (map move_step t.ready.moves) (transfer_of t.ready t.job t.aside ++ unlinks t.ready.retire) behind_leftovers

  -- the calls of a copy, too; and its final path is one of the names
  copy_asks : (job : Job) (rest : List Entry) → t.job ≡ Some job → Each (Asks (NamesOf t)) (clearing job ++ entry.Renames job.part job.to ∷ rest) → Each (Asks (NamesOf t)) (copy_calls job) × NamesOf t t.ready.target
  copy_asks job rest is a = (
    each_append (Asks (NamesOf t)) (clearing job) (made job.cut) (each_first (Asks (NamesOf t)) (clearing job) (entry.Renames job.part job.to ∷ rest) a) (tt, (source, (moved.0, (moved.0, (moved, (tt, emptied job.cut)))))),
    subst (NamesOf t) shape.to_is moved.1,
  )
    where
      shape : IsJob t job
      shape = h.job job is

      source : NamesOf t job.from
      source = subst (NamesOf t) (sym shape.from_is) (named_own t.log t.naming (source_of t) (source_own t h))

      moved : NamesOf t job.part × NamesOf t job.to
      moved = (each_last (Asks (NamesOf t)) (clearing job) (entry.Renames job.part job.to ∷ rest) a).0

      made : Bool → List Entry
      made c = entry.Makes job.part job.mode ∷ entry.Reads job.from 0 [] ∷ entry.Appends job.part [] ∷ entry.SyncsFile job.part ∷ entry.Renames job.part job.to ∷ entry.SyncsDir job.dir ∷ cond c (entry.Truncates job.from ∷ []) []

      emptied : (c : Bool) → Each (Asks (NamesOf t)) (cond c (entry.Truncates job.from ∷ []) [])
      emptied true = (source, tt)
      emptied false = tt

  -- So do those of the log's own way, and of the copy of what waited.
  record WayAsks (j : Option Job) (a : Option Path) : Type 0 where
    own : Each (Asks (NamesOf t)) (own_calls t.ready j a)
    letting : Each (Asks (NamesOf t)) (letting_calls j a)
    target : NamesOf t t.ready.target

  way_asks : (j : Option Job) (a : Option Path) → t.job ≡ j → Each (Asks (NamesOf t)) (transfer_of t.ready j a) → WayAsks j a
  way_asks None a is asks = record { own = asks; letting = tt; target = asks.0.1 }
  way_asks (Some job) None is asks = let copied = copy_asks job [] is asks in record { own = copied.0; letting = tt; target = copied.1 }
  way_asks (Some job) (Some path) is asks =
      let copied = copy_asks job (entry.Unlinks path ∷ []) is asks.1 in record {
        own = (tt, (asks.0, tt));
        letting = each_append (Asks (NamesOf t)) (copy_calls job) (entry.Unlinks path ∷ []) copied.0 (asks.0.1, tt);
        target = copied.1;
      }

  -- by the job that there is, if any
  own_way_asks : WayAsks t.job t.aside
  own_way_asks = way_asks t.job t.aside refl (each_first (Asks (NamesOf t)) (transfer_of t.ready t.job t.aside) (unlinks t.ready.retire) behind_moves)

  -- so do the read of the final path and the removals behind it
  pub back_asks : Each (Asks (NamesOf t)) (back_calls t)
  back_asks = each_append (Asks (NamesOf t)) (letting_calls t.job t.aside) (removing_calls t) own_way_asks.letting
      (own_way_asks.target, each_last (Asks (NamesOf t)) (transfer_of t.ready t.job t.aside) (unlinks t.ready.retire) behind_moves)

  -- the calls before the scripts may make a directory besides
  front_ask : Each (AsksFor (NamesOf t)) (front_calls t)
  front_ask =
      each_append (AsksFor (NamesOf t)) (unlinks t.ready.leftovers) (dir_calls t.ready.dir ++ (map move_step t.ready.moves ++ own_calls t.ready t.job t.aside))
      (asks_for (NamesOf t) (unlinks t.ready.leftovers) (each_first (Asks (NamesOf t)) (unlinks t.ready.leftovers) (map move_step t.ready.moves ++ (transfer_of t.ready t.job t.aside ++ unlinks t.ready.retire)) turns_ask))
      (each_append (AsksFor (NamesOf t)) (dir_calls t.ready.dir) (map move_step t.ready.moves ++ own_calls t.ready t.job t.aside) (dir_asks t.ready.dir)
      (asks_for (NamesOf t) (map move_step t.ready.moves ++ own_calls t.ready t.job t.aside)
      (each_append (Asks (NamesOf t)) (map move_step t.ready.moves) (own_calls t.ready t.job t.aside)
      (each_first (Asks (NamesOf t)) (map move_step t.ready.moves) (transfer_of t.ready t.job t.aside ++ unlinks t.ready.retire) behind_leftovers) own_way_asks.own)))
    where
      dir_asks : (d : Option (Path × Option ℕ)) → Each (AsksFor (NamesOf t)) (dir_calls d)
      dir_asks None = tt
      dir_asks (Some (dir, mode)) = (tt, tt)

  -- all calls of the rotation
  calls_ask : Each (AsksFor (NamesOf t)) (calls_of t)
  calls_ask = subst (Each (AsksFor (NamesOf t))) (call_halves t) (each_append (AsksFor (NamesOf t)) (front_calls t) (back_calls t) front_ask (asks_for (NamesOf t) (back_calls t) back_asks))

-- what one rotation changes is no name of a set that it doesn't meet
far : (x t : Target) (e : Entry) → (Meet x.log x.naming t.log t.naming → ⊥) → IsTurn e → ChangesOwn t.log t.naming e → Avoids (NamesOf x) e
far x t (entry.Renames from to) apart turn own = (λ i. apart (from, inl (i, inl (own from (inl refl)))), λ i. apart (to, inl (i, inl (own to (inr (inl refl))))))
far x t (entry.Unlinks y) apart turn own = λ i. apart (y, inl (i, inl (own y (inl refl))))
far x t _ apart turn own = absurd turn

pub rotation_far : {o : Option Journal} (x t : Target) → IsFit o t → (Meet x.log x.naming t.log t.naming → ⊥) → Each (Avoids (NamesOf x)) (target_entries t)
rotation_far x t fit apart = each_two IsTurn (ChangesOwn t.log t.naming) (Avoids (NamesOf x)) (target_entries t) (λ e turn own. far x t e apart turn own) (rotation_turns t) (own_paths t fit.names)

-- nor is the directory that it makes
pub made_far : (x t : Target) → HasNames t → (Meet x.log x.naming t.log t.naming → ⊥) → (y : Path) (mode : Option ℕ) → AlsoDoes t (entry.MakesDir y mode) → NamesOf x y → ⊥
made_far x t h apart y mode made i = apart (y, inl (i, inr (h.dir y made.0 made.1).0))

-- ---- what goes on fitting

pub fit_later : (x : Target) {P : List Entry → Type 0} {o m : Option Journal} → IsFit o x → Left P o m → ((ts : List Entry) → P ts → Each (Avoids (NamesOf x)) (filter is_naming ts)) → IsFit m x
fit_later x fit left f = record { names = fit.names; fits = can_far (NamesOf x) (calls_of x) (calls_ask x fit.names) fit.fits left f; anew = makes_later x.log None left fit.anew }

begun_far : {o : Option Journal} (x t : Target) (ts : List Entry) → IsFit o t → (Meet x.log x.naming t.log t.naming → ⊥) → Begun (AlsoDoes t) (target_entries t) ts → Each (Avoids (NamesOf x)) (filter is_naming ts)
begun_far x t ts fit apart b = naming_avoids (NamesOf x) (AlsoDoes t) ts (each_first (Avoids (NamesOf x)) (filter takes_name ts) b.first.0 (subst (Each (Avoids (NamesOf x))) b.first.1 (rotation_far x t fit apart))) b.only (made_far x t fit.names apart)

all_later : (t : Target) (xs : List Target) {P : List Entry → Type 0} {o m : Option Journal} → IsFit o t → NoneMeets t xs → AreFit o xs → Left P o m → ((ts : List Entry) → P ts → Begun (AlsoDoes t) (target_entries t) ts) → AreFit m xs
all_later t [] fit none fits left f = tt
all_later t (x ∷ xs) fit none fits left f = (fit_later x fits.0 left (λ ts p. begun_far x t ts fit none.0 (f ts p)), all_later t xs fit none.1 fits.1 left f)

pub unchanged : (xs : List Target) {P : List Entry → Type 0} {o m : Option Journal} → AreFit o xs → Left P o m → ((ts : List Entry) → P ts → filter is_naming ts ≡ []) → AreFit m xs
unchanged [] fits left f = tt
unchanged (x ∷ xs) fits left f = (fit_later x fits.0 left (λ ts p. subst (Each (Avoids (NamesOf x))) (sym (f ts p)) tt), unchanged xs fits.1 left f)

-- ---- one list of steps

-- what a program reads: no file, or the one that the next call unlinks
abbrev pub IsRead : Option Path → List Entry → Type 0
IsRead None es = Unit {0}
IsRead (Some file) [] = ⊥
IsRead (Some file) (entry.Unlinks path ∷ es) = path ≡ file
IsRead (Some file) (_ ∷ es) = ⊥

-- A step of a rotation, among them the making of a directory, the making of a log in a directory that stands, or a program that reads no file but the one that is unlinked next; these calls come behind it.
abbrev pub IsBareStep : Option Journal → Step → List Entry → Type 0
IsBareStep o (step.Runs p on command) es = IsRead command.input es
IsBareStep o (step.Creates path mode) es = Can o (entry.Makes path mode)
IsBareStep o (step.Appends path text) es = ⊥
IsBareStep o _ es = Unit {0}

abbrev pub AreBareSteps : Option Journal → List Step → Type 0
AreBareSteps o [] = Unit {0}
AreBareSteps o (s ∷ ss) = IsBareStep o s (calls_by ss) × AreBareSteps o ss

bare_one : (s : Step) (es : List Entry) {P : List Entry → Type 0} {o m : Option Journal} → Left P o m → IsBareStep o s es → IsBareStep m s es
bare_one (step.Creates path mode) es left i = makes_later path mode left i
bare_one (step.Runs p on command) es left i = i
bare_one (step.Appends path text) es left i = i
bare_one _ es left i = tt

-- so they are later on
bare_later : (ss : List Step) {P : List Entry → Type 0} {o m : Option Journal} → Left P o m → AreBareSteps o ss → AreBareSteps m ss
bare_later [] left bare = tt
bare_later (s ∷ ss) left bare = (bare_one s (calls_by ss) left bare.0, bare_later ss left bare.1)

-- and where more calls come behind them
read_more : (input : Option Path) (xs es : List Entry) → IsRead input xs → IsRead input (xs ++ es)
read_more None xs es i = tt
read_more (Some file) [] es i = absurd i
read_more (Some file) (entry.Unlinks path ∷ xs) es i = i
read_more (Some file) (_ ∷ xs) es i = absurd i

bare_more : (o : Option Journal) (s : Step) (xs es : List Entry) → IsBareStep o s xs → IsBareStep o s (xs ++ es)
bare_more o (step.Runs p on command) xs es i = read_more command.input xs es i
bare_more o (step.Creates path mode) xs es i = i
bare_more o (step.Appends path text) xs es i = i
bare_more o _ xs es i = tt

none_asked : (o : Option Journal) → CanAll o []
none_asked None = record { can = tt }
none_asked (Some j) = record { can = tt }

none_called : (o : Option Journal) → CanCalls o []
none_called None = record { can = tt }
none_called (Some j) = record { can = tt }

makes_asked : (path : Path) (mode : Option ℕ) (o : Option Journal) → Can o (entry.Makes path mode) → CanAll o (entry.Makes path mode ∷ [])
makes_asked path mode None c = record { can = tt }
makes_asked path mode (Some j) c = record { can = (tt, c.can) }

read_fits : (n : Names) (input : Option Path) (es : List Entry) → IsRead input es → FitCalls n es → MaybeFileAt n input
read_fits n None es i fit = tt
read_fits n (Some file) [] i fit = absurd i
read_fits n (Some file) (entry.Unlinks path ∷ es) i fit = subst (λ (x : Path). MaybeFileAt n (Some x)) i fit.0
read_fits n (Some file) (_ ∷ es) i fit = absurd i

run_asked : (command : Command) (es : List Entry) (o : Option Journal) → IsRead command.input es → CanCalls o es → CanAll o (runs command (ended.Exit (pos 0)) ∷ [])
run_asked command es None i c = record { can = tt }
run_asked command es (Some j) i c = record { can = (tt, read_fits (names (world (past j))) command.input es i c.can) }

one_asked : (e : Entry) (es : List Entry) (o : Option Journal) → CanCalls o (e ∷ es) → CanAll o (e ∷ [])
one_asked e es None c = record { can = tt }
one_asked e es (Some j) c = record { can = (tt, c.can.0) }

bytes_asked : (from to : Path) (es : List Entry) (o : Option Journal) → CanCalls o (entry.Reads from 0 [] ∷ entry.Appends to [] ∷ es) → CanAll o (entry.Reads from 0 [] ∷ entry.Appends to [] ∷ [])
bytes_asked from to es None c = record { can = tt }
bytes_asked from to es (Some j) c = record { can = ((tt, c.can.0), c.can.1.0) }

-- it fits
asked : (s : Step) (es : List Entry) (o : Option Journal) → IsBareStep o s es → CanCalls o (calls_of_step s ++ es) → CanAll o (asks s)
asked (step.Runs p on command) es o bare c = run_asked command es o bare c
asked (step.Removes path) es o bare c = one_asked (entry.Unlinks path) es o c
asked (step.MakesDir path mode) es o bare c = one_asked (entry.MakesDir path mode) es o c
asked (step.Renames from to) es o bare c = one_asked (entry.Renames from to) es o c
asked (step.Creates path mode) es o bare c = makes_asked path mode o bare
asked (step.Takes path mode) es o bare c = one_asked (entry.Makes path mode) es o c
asked (step.Copies from to limit) es o bare c = bytes_asked from to es o c
asked (step.SyncsFile path) es o bare c = one_asked (entry.SyncsFile path) es o c
asked (step.SyncsDir path) es o bare c = one_asked (entry.SyncsDir path) es o c
asked (step.Truncates path) es o bare c = one_asked (entry.Truncates path) es o c
asked (step.Rotated log) es o bare c = none_asked o
asked _ es o bare c = absurd bare

-- a directory was made, or one was seen
saw_dir : (path : Path) (o : Option Seen) {j m : Option Journal} → IsDir o → Left (λ ts. ts ≡ entry.Look path o ∷ []) j m → Can m (entry.SyncsDir path)
saw_dir path None d left = absurd d
saw_dir path (Some seen) d left = ever_says {e = entry.Look path (Some seen)} {e' = entry.SyncsDir path} left (λ ts w. (subst (IsIn (entry.Look path (Some seen))) (sym w) (inl refl), ap (filter is_naming) w)) (λ w fits. seen_dir (world w) (names (world w) path) seen fits d)

there_already : (path : Path) (n : Names) (es : List Entry) → IsDirectoryAt n path → FitCalls (put n path thing.Directory) es → FitCalls n es
there_already path n es is fit = fit_like IsAny (put n path thing.Directory) n es (each_anywhere es) (λ y i. go y (bytes_eq path y) refl) fit
  where
    go : (y : Path) (b : Bool) → bytes_eq path y ≡ b → IsLike (cond b thing.Directory (n y)) (n y)
    go y true e = ap n (sym ((bytes_eq-Decides path y).0 e)) ∙ is
    go y false e = like_self (n y)

behind_dir : (path : Path) (mode : Option ℕ) (es : List Entry) {o m : Option Journal} → CanCalls o (entry.MakesDir path mode ∷ es) → Left (Succeeds (step.MakesDir path mode)) o m → CanCalls m es
behind_dir path mode es c not_told = record { can = tt }
behind_dir path mode es c (is_told {j = j} {k = k} {es = us} made (inl one)) = calls_made (entry.MakesDir path mode) es c new (λ ts w. w)
  where
    new : Left (λ ts. ts ≡ entry.MakesDir path mode ∷ []) (Some j) (Some k)
    new = is_told {j = j} {k = k} {es = us} made one
behind_dir path mode es c (is_told {j = j} {k = k} {es = us} made (inr saw)) = record {
  can = there_already path (names (world (past k))) es (saw_dir path saw.seen saw.is looked).can
      (calls_still (entry.MakesDir path mode ∷ es) c looked (λ ts w. ap (filter is_naming) w)).can.1;
}
  where
    looked : Left (λ ts. ts ≡ entry.Look path saw.seen ∷ []) (Some j) (Some k)
    looked = is_told {j = j} {k = k} {es = us} made saw.look

-- and where it was made, what follows fits
behind : (s : Step) (es : List Entry) {o m : Option Journal} → IsBareStep o s es → CanCalls o (calls_of_step s ++ es) → Left (Succeeds s) o m → CanCalls m es
behind (step.Runs p on command) es bare c left = calls_still es c left (λ ts w. ap (filter is_naming) w)
behind (step.Removes path) es bare c left = calls_made (entry.Unlinks path) es c left (λ ts w. w)
behind (step.Renames from to) es bare c left = calls_made (entry.Renames from to) es c left (λ ts w. w)
behind (step.MakesDir path mode) es bare c left = behind_dir path mode es c left
behind (step.Creates path mode) es bare c left = calls_still es c left (λ ts w. ⊎_elim (λ none. ap (filter is_naming) none) (λ one. ap (filter is_naming) one) w)
behind (step.Takes path mode) es bare c left = calls_made (entry.Makes path mode) es c left (λ ts w. w)
behind (step.Copies from to limit) es bare c left = calls_still es (calls_as c (λ n fit. fit.1.1)) left (λ ts w. all_name_none from to limit w.0 ts w.1)
behind (step.SyncsFile path) es bare c left = calls_made (entry.SyncsFile path) es c left (λ ts w. w)
behind (step.SyncsDir path) es bare c left = calls_made (entry.SyncsDir path) es c left (λ ts w. w)
behind (step.Truncates path) es bare c left = calls_made (entry.Truncates path) es c left (λ ts w. w)
behind (step.Rotated log) es bare c left = calls_still es c left (λ ts w. ap (filter is_naming) w)
behind _ es bare c left = absurd bare

-- all these steps were made
abbrev pub AllSucceed : List Step → List Entry → Type 0
AllSucceed [] ts = ts ≡ []
AllSucceed (s ∷ ss) ts = Then (Succeeds s) (AllSucceed ss) ts

-- these steps can be made, and then others
make_then : (ss rest : List Step) (es : List Entry) {o : Option Journal} → AreBareSteps o ss → CanCalls o (calls_by ss ++ es) → ((m : Option Journal) → Left (AllSucceed ss) o m → CanCalls m es → CanMake m rest) → CanMake o (ss ++ rest)
make_then [] rest es {o} bare can f = f o (left_first (AllSucceed []) o refl) can
make_then (s ∷ ss) rest es {o} bare can f = (
  asked s (calls_by ss ++ es) o one calls,
  λ m left. make_then ss rest es (bare_later ss left bare.1) (behind s (calls_by ss ++ es) one calls left)
      (λ k later c. f k (left_then left later (λ ts us p q. record { front = ts; back = us; joined = refl; first = p; second = q })) c),
)
  where
    one : IsBareStep o s (calls_by ss ++ es)
    one = bare_more o s (calls_by ss) es bare.0

    calls : CanCalls o (calls_of_step s ++ (calls_by ss ++ es))
    calls = subst (CanCalls o) (append_assoc (calls_of_step s) (calls_by ss) es) can

can_make : (ss : List Step) {o : Option Journal} → AreBareSteps o ss → CanCalls o (calls_by ss) → CanMake o ss
can_make ss {o} bare can = subst (CanMake o) (append-nil ss) (make_then ss [] [] bare (subst (CanCalls o) (sym (append-nil (calls_by ss))) can) (λ m left c. tt))

-- ---- the steps of one log

bare_on : (o : Option Journal) (xs ys : List Step) → AreBareSteps o xs → AreBareSteps o ys → AreBareSteps o (xs ++ ys)
bare_on o [] ys a b = b
bare_on o (x ∷ xs) ys a b = (subst (IsBareStep o x) (sym (flat_map-append calls_of_step xs ys)) (bare_more o x (calls_by xs) (calls_by ys) a.0), bare_on o xs ys a.1 b)

program_bare : (o : Option Journal) (p : Phase) (c : Option Command) → ReadsNothing c → AreBareSteps o (program p c)
program_bare o p None r = tt
program_bare o p (Some command) r = (subst (λ (input : Option Path). IsRead input []) (sym r) tt, tt)

mail_bare : (o : Option Journal) (file : Path) (c : Option Command) → ReadsThis file c → AreBareSteps o (program phase.Mail c ++ step.Removes file ∷ [])
mail_bare o file None r = (tt, tt)
mail_bare o file (Some command) r = (subst (λ (input : Option Path). IsRead input (entry.Unlinks file ∷ [])) (sym r) refl, (tt, tt))

removals_bare : (o : Option Journal) (rs : List Removal) → ReadThemselves rs → AreBareSteps o (removals rs)
removals_bare o [] i = tt
removals_bare o (r ∷ rs) i =
    bare_on o (removal r) (removals rs) (bare_on o (program phase.Preremove r.preremove) (program phase.Mail r.mail ++ step.Removes r.path ∷ []) (program_bare o phase.Preremove r.preremove i.0) (mail_bare o r.path r.mail i.1)) (removals_bare o rs i.2)

moves_bare : (o : Option Journal) (ms : List Move) → AreBareSteps o (map move ms)
moves_bare o [] = tt
moves_bare o (m ∷ ms) = (tt, moves_bare o ms)

dir_bare : (o : Option Journal) (d : Option (Path × Option ℕ)) → AreBareSteps o (directory d)
dir_bare o None = tt
dir_bare o (Some (dir, mode)) = (tt, tt)

copy_bare : (o : Option Journal) (job : Job) (b c : Bool) → AreBareSteps o (step_if b (step.Removes job.part) ++ (step.Takes job.part job.mode ∷ step.Copies job.from job.part job.limit ∷ step.SyncsFile job.part ∷ step.Renames job.part job.to ∷ step.SyncsDir job.dir ∷ step_if c (step.Truncates job.from)))
copy_bare o job true true = (tt, (tt, (tt, (tt, (tt, (tt, (tt, tt)))))))
copy_bare o job true false = (tt, (tt, (tt, (tt, (tt, (tt, tt))))))
copy_bare o job false true = (tt, (tt, (tt, (tt, (tt, (tt, tt))))))
copy_bare o job false false = (tt, (tt, (tt, (tt, (tt, tt)))))

own_copy_bare : (o : Option Journal) (job : Job) → AreBareSteps o (copy job)
own_copy_bare o job = copy_bare o job job.stale job.cut

transfer_bare : (o : Option Journal) (log target : Path) (j : Option Job) (a : Option Path) → AreBareSteps o (transfer log target j a)
transfer_bare o log target None a = (tt, tt)
transfer_bare o log target (Some job) None = own_copy_bare o job
transfer_bare o log target (Some job) (Some path) = (tt, (tt, tt))

new_bare : (o : Option Journal) (log : Path) (m : Make) → Can o (entry.Makes log None) → AreBareSteps o (anew m log)
new_bare o log make.No c = tt
new_bare o log (make.Yes mode) c = (can_as c (λ n h. h), tt)

anew_bare : (o : Option Journal) (log : Path) (m : Make) (j : Option Job) (a : Option Path) → Can o (entry.Makes log None) → AreBareSteps o (made_anew m log j a)
anew_bare o log m None a c = new_bare o log m c
anew_bare o log m (Some job) None c = tt
anew_bare o log m (Some job) (Some path) c = new_bare o log m c

front_bare : (o : Option Journal) (t : Target) (log : LogPlan) → Can o (entry.Makes t.log None) → IsReadyFor t log → ReadsOwn log → AreBareSteps o (steps.rotation_of log)
front_bare o t log c r q =
    bare_on o (removals log.ready.leftovers) _ (removals_bare o log.ready.leftovers q.leftovers)
    (bare_on o (directory log.ready.dir) _ (dir_bare o log.ready.dir)
    (bare_on o (map move log.ready.moves) _ (moves_bare o log.ready.moves)
    (bare_on o (transfer log.ready.log log.ready.target log.job log.aside) _ (transfer_bare o log.ready.log log.ready.target log.job log.aside)
    (tt, anew_bare o log.log log.ready.make log.job log.aside (subst (λ (x : Path). Can o (entry.Makes x None)) (sym r.log_is) c)))))

finishing_bare : (o : Option Journal) (j : Option Job) (a : Option Path) → AreBareSteps o (finishing j a)
finishing_bare o None a = tt
finishing_bare o (Some job) None = tt
finishing_bare o (Some job) (Some path) = bare_on o (copy job) (step.Removes path ∷ []) (own_copy_bare o job) (tt, tt)

-- a program that reads a file, where that can be read
reading_asked : (file : Path) (es : List Entry) (o : Option Journal) (command : Command) → command.input ≡ Some file → CanCalls o (entry.Reads file 0 [] ∷ es) → CanAll o (runs command (ended.Exit (pos 0)) ∷ [])
reading_asked file es None command is c = record { can = tt }
reading_asked file es (Some j) command is c = record { can = (tt, subst (MaybeFileAt (names (world (past j)))) (sym is) c.can.0) }

-- and then these steps, with it or without
reading_then : (file : Path) (ss : List Step) (es : List Entry) (o : Option Journal) (p : Phase) (c : Option Command) → ReadsThis file c → CanCalls o (entry.Reads file 0 [] ∷ es) → ((m : Option Journal) → CanCalls m es → CanMake m ss) → CanMake o (program p c ++ ss)
reading_then file ss es o p None r can f = f o (calls_as can (λ n fit. fit.1))
reading_then file ss es o p (Some command) r can f = (reading_asked file es o command r can, λ m left. f m (calls_still es (calls_as can (λ n fit. fit.1)) left (λ ts w. ap (filter is_naming) w)))

-- the mail of the first file and the removals, where the final path can be read
removing_can : (o : Option Journal) (t : Target) (log : LogPlan) → IsReadyFor t log → ReadsOwn log → CanCalls o (removing_calls t) → CanMake o (program phase.Mail log.first_mail ++ removals log.ready.retire)
removing_can o t log r q can = reading_then t.ready.target (removals log.ready.retire) (unlinks t.ready.retire) o phase.Mail log.first_mail (subst (λ (x : Path). ReadsThis x log.first_mail) (ap (λ (x : Ready). x.target) r.ready_is) q.first_mail) can
    (λ m c. can_make (removals log.ready.retire) (removals_bare m log.ready.retire q.retire) (subst (CanCalls m) (sym (removals_ask t log r)) c))

-- and the copy of what waited before them
pub back_can : (o : Option Journal) (t : Target) (log : LogPlan) → IsReadyFor t log → ReadsOwn log → CanCalls o (back_calls t) → CanMake o (steps.retirement_of log)
back_can o t log r q can =
    make_then (finishing log.job log.aside) (program phase.Mail log.first_mail ++ removals log.ready.retire) (removing_calls t) (finishing_bare o log.job log.aside)
    (subst (CanCalls o) (sym (ap (λ es. es ++ removing_calls t) (finishing_asks t log r))) can) (λ m left c. removing_can m t log r q c)

-- a program that reads no file, and then these steps
program_then : (p : Phase) (c : Option Command) (rest : List Step) (es : List Entry) {o : Option Journal} → ReadsNothing c → CanCalls o es → ((m : Option Journal) → Left (AllSucceed (program p c)) o m → CanCalls m es → CanMake m rest) → CanMake o (program p c ++ rest)
program_then p c rest es {o} r can f = make_then (program p c) rest es (program_bare o p c r) (subst (λ (xs : List Entry). CanCalls o (xs ++ es)) (sym (program_asks p c)) can) f

-- the rotation, and then these steps
pub front_then : (t : Target) (log : LogPlan) (rest : List Step) {o : Option Journal} → IsReadyFor t log → ReadsOwn log → Can o (entry.Makes t.log None) → CanCalls o (calls_of t) → ((m : Option Journal) → Left (AllSucceed (steps.rotation_of log)) o m → CanCalls m (back_calls t) → CanMake m rest) → CanMake o (steps.rotation_of log ++ rest)
front_then t log rest {o} r q anew can f = make_then (steps.rotation_of log) rest (back_calls t) (front_bare o t log anew r q) (subst (CanCalls o) (sym (ap (λ es. es ++ back_calls t) (front_asks t log r) ∙ call_halves t)) can) f

log_can : (o : Option Journal) (t : Target) (log : LogPlan) → IsFit o t → IsReadyFor t log → ReadsOwn log → CanMake o (steps_of_log log)
log_can o t log fit r q =
    program_then phase.Pre log.pre (steps.rotation_of log ++ (program phase.Post log.post ++ steps.retirement_of log)) (calls_of t) q.pre fit.fits
    (λ a left c. front_then t log (program phase.Post log.post ++ steps.retirement_of log) r q (makes_later t.log None left fit.anew) c
    (λ b later d. program_then phase.Post log.post (steps.retirement_of log) (back_calls t) q.post d (λ m last e. back_can m t log r q e)))

-- ---- the logs of one definition

pub can_each : (o : Option Journal) (ts : List Target) (logs : List LogPlan) → AreReadyFor ts logs → ReadOwn logs → AreFit o ts → DontMeet ts → CanEach o (map steps_of_log logs)
can_each o [] [] r q fits dont = tt
can_each o [] (log ∷ logs) r q fits dont = absurd r
can_each o (t ∷ ts) [] r q fits dont = absurd r
can_each o (t ∷ ts) (log ∷ logs) r q fits dont = (
  log_can o t log fits.0 r.0 q.0,
  λ m leads. can_each m ts logs r.1 q.1 (all_later t ts fits.0 dont.0 fits.1 leads.2
      (λ us c. subst (λ steps. Begun (AlsoDoes t) steps us) (log_is t log r.0) (course_first (AlsoDoes t) (steps_of_log log) leads.0 leads.1 us (log_plain (AlsoDoes t) t log (λ e also. also) r.0) c))) dont.1,
)

nil_first : (xs : List Entry) → IsFirstOf [] xs → xs ≡ []
nil_first [] f = refl
nil_first (x ∷ xs) f = absurd (let e : [] ≡ x ∷ (xs ++ f.0) = f.1 in cc)

pub program_changes : (p : Phase) (o : Option Command) (t : List Mark) (f : List Fault) (us : List Entry) → Course (program p o) t f us → filter is_naming us ≡ []
program_changes p o t f us c =
    let b : Begun Never (changes_by (program p o)) us = course_first Never (program p o) t f us (program_plain Never p o) c in
    none_named us (nil_first (filter takes_name us) (subst (λ steps. IsFirstOf steps (filter takes_name us)) (program_none p o) b.first)) b.only

pub program_can : (p : Phase) (c : Option Command) (o : Option Journal) → ReadsNothing c → CanMake o (program p c)
program_can p c o r = can_make (program p c) (program_bare o p c r) (subst (CanCalls o) (sym (program_asks p c)) (none_called o))
