-- Where no call failed, the programs, the makings of directories and the looks among their entries fix the faults of acts by the same steps, with what the entries of all acts show of files that are made and of logs that are read to their end.
use Rattle.std.proofs.Common.{◌≡◌, ◌≢◌, inl, inr, pos, ℕ, Option, List, [], ◌∷◌, ◌++◌, Bool, true, false, refl, sym, ap, ◌∙◌, subst, append_assoc}
use Rattle.std.specs.Prelude.{filter}
use Rattle.std.specs.List.{list_any}
use Rattle.std.proofs.lemmas.List.Elements.{filter-append}
use Rattle.lr_rules.specs.declared.fault.CallKind.TheVariants as call
use Rattle.lr_rules.specs.declared.fault.Ended.{Ended}
use Rattle.lr_rules.specs.declared.fault.Ended.TheVariants as ended
use Rattle.lr_rules.specs.declared.fault.Fault.{Fault}
use Rattle.lr_rules.specs.declared.fault.Fault.TheVariants as fault
use Rattle.lr_rules.specs.declared.fault.Phase.{Phase}
use Rattle.lr_rules.specs.declared.path.Path.{Path}
use Rattle.lr_rules.proofs.Heads.{heads, tails}
use Rattle.lr_host.specs.declared.entry.Entry.{Entry}
use Rattle.lr_host.specs.declared.entry.Entry.TheVariants as entry
use Rattle.lr_host.specs.declared.thing.Seen.{Seen}
use Rattle.lr_host.specs.Counted.{call_in, calls_in}
use Rattle.lr_host.specs.Lists.{IsIn}
use Rattle.lr_host.specs.Looks.{Sees, IsNoDir}
use Rattle.lr_host.proofs.Each.{none_pass}
use Rattle.lr_host.specs.Told.{Maybe}
use Rattle.lr_host.proofs.Fronts.{saw_same}
use Rattle.lr_scripts.specs.declared.command.Command.{Command}
use Rattle.lr_scripts.specs.Programs.{runs}
use Rattle.lr_copy.specs.declared.job.BytesStop.{BytesStop}
use Rattle.lr_copy.specs.declared.job.BytesStop.TheVariants as broke
use Rattle.lr_copy.specs.Bytes.{AllBytes, BytesBroke}
use Rattle.lr_copy.proofs.EachOfBytes.{each_all, each_broke}
use Rattle.lr_plan.specs.declared.mark.Mark.{Mark}
use Rattle.lr_plan.specs.declared.step.SetSteps.{SetSteps}
use Rattle.lr_plan.specs.declared.step.Step.{Step}
use Rattle.lr_plan.specs.declared.step.Step.TheVariants.{Runs, Removes, MakesDir, Renames, Creates, Takes, Copies, SyncsFile, SyncsDir, Truncates, Rotated}
use Rattle.lr_plan.specs.Course.{Part, Nothing, Course, Unbroken, Both}
use Rattle.lr_plan.specs.Done.{EachDone, LogsDone, SetDone, broke_off, went_on, SetsDone, if_rotated, is_rotated}
use Rattle.lr_chain.specs.declared.directory.DirStop.TheVariants as unmade
use Rattle.lr_plan.specs.Outcomes.{bytes_fault, Succeeds, Fails, marks_of, ProgramFailed, badly, not_run, maybe_run}
use Rattle.lr_acts.specs.Making.{all_of_each, all_of_set, all_of_sets}
use Rattle.lr_run.proofs.Called.{none_before, none_behind}
use Rattle.lr_run.proofs.Folded.{last_so}
use Rattle.lr_run.proofs.Simple.{IsSimple, AreSimple, simple_split}
use Rattle.lr_laws_fixed.proofs.Called.{one_uncalled, no_call}
use Rattle.lr_laws_fixed.proofs.Keys.{Key, Made, WasRead, denied, shown, all_shown, Agree, agree_first, agree_second}
use Rattle.lr_laws_fixed.proofs.Peeled.{dir_or_not}

-- ---- the entries that show how a step ended

-- a program was run, a directory was made, or a path was looked at
abbrev pub shows_end : Entry → Bool
shows_end (entry.Runs program args input end) = true
shows_end (entry.MakesDir path mode) = true
shows_end (entry.Look path seen) = true
shows_end _ = false

abbrev pub ends_in : List Entry → List Entry
ends_in ts = filter shows_end ts

-- those of two parts are those of the whole
ends_joined : (ts xs ys vs : List Entry) → ts ≡ xs ++ ys → ends_in ts ++ vs ≡ ends_in xs ++ (ends_in ys ++ vs)
ends_joined ts xs ys vs e = ap (λ es. ends_in es ++ vs) e ∙ (ap (λ es. es ++ vs) (filter-append shows_end xs ys) ∙ append_assoc (ends_in xs) (ends_in ys) vs)

-- in other words
ends_are : (ts us fs gs vs ws : List Entry) → ends_in ts ≡ fs → ends_in us ≡ gs → ends_in ts ++ vs ≡ ends_in us ++ ws → fs ++ vs ≡ gs ++ ws
ends_are ts us fs gs vs ws p q e = sym (ap (λ es. es ++ vs) p) ∙ (e ∙ ap (λ es. es ++ ws) q)

-- ---- one program

end_same : (c : Command) (a b : Ended) (vs ws : List Entry) → runs c a ∷ vs ≡ runs c b ∷ ws → a ≡ b
end_same c a b vs ws e = cc

behind_same : (c : Command) (a b : Ended) (vs ws : List Entry) → runs c a ∷ vs ≡ runs c b ∷ ws → vs ≡ ws
behind_same c a b vs ws e = cc

-- what its step left is one program
programs_one : (c : Command) (a : Ended) (ts : List Entry) → ts ≡ runs c a ∷ [] → ends_in ts ≡ runs c a ∷ []
programs_one c a ts e = ap ends_in e

-- an end that is told, where no call failed
record ToldEnd (p : Phase) (on : List ℕ) (c : Command) (f : Fault) (ts : List Entry) : Type 0 where
  end : Ended
  bad : end ≢ ended.Exit (pos 0)
  fault_is : f ≡ fault.Script p on end
  run : ends_in ts ≡ runs c end ∷ []

told_end : (p : Phase) (on : List ℕ) (c : Command) (f : Fault) (ts : List Entry) → ProgramFailed p on c f ts → call_in f ≡ 0 → ToldEnd p on c f ts
told_end p on c f ts (badly end bad e o) z = record { end = end; bad = bad; fault_is = e; run = programs_one c end ts o }
told_end p on c f ts (not_run e o) z = absurd (no_call f (fault.Call call.Run c.program) e refl z)
told_end p on c f ts (maybe_run end e o) z = absurd (no_call f (fault.Call call.Run c.program) e refl z)

-- ---- one directory

-- where no call failed, something else had the path
other_told : (path : Path) (mode : Option ℕ) (f : Fault) (ts : List Entry) → Fails (MakesDir path mode) f ts → call_in f ≡ 0 → (f ≡ fault.NotFile path) × Sees path IsNoDir ts
other_told path mode f ts (unmade.Make, is, made) z = absurd (no_call f (fault.Call call.MakeDir path) is refl z)
other_told path mode f ts (unmade.Look, e, o) z = absurd (no_call f (fault.Call call.Look path) e refl z)
other_told path mode f ts (unmade.NotDir, e, saw) z = (e, saw)

-- it is made, or is there: by one entry
dir_end : (path : Path) (mode : Option ℕ) (ts : List Entry) → Succeeds (MakesDir path mode) ts → (x : Entry) × (ends_in ts ≡ x ∷ [])
dir_end path mode ts (inl one) = (entry.MakesDir path mode, ap ends_in one)
dir_end path mode ts (inr saw) = (entry.Look path saw.seen, ap ends_in saw.look)

not_made : (path : Path) (seen : Option Seen) (mode : Option ℕ) → entry.Look path seen ≡ entry.MakesDir path mode → ⊥
not_made path seen mode e = cc

-- it isn't both made, or there, and something else
other_or_dir : (path : Path) (mode : Option ℕ) (ts us vs ws : List Entry) → Sees path IsNoDir ts → Succeeds (MakesDir path mode) us → ends_in ts ++ vs ≡ ends_in us ++ ws → ⊥
other_or_dir path mode ts us vs ws other (inl one) e =
    let x : Entry = entry.Look path other.seen in let y : Entry = entry.MakesDir path mode in
    not_made path other.seen mode (heads x y vs ws (ends_are ts us (x ∷ []) (y ∷ []) vs ws (ap ends_in other.look) (ap ends_in one) e))
other_or_dir path mode ts us vs ws other (inr saw) e =
    let x : Entry = entry.Look path other.seen in let y : Entry = entry.Look path saw.seen in
    dir_or_not saw.seen other.seen saw.is other.is (sym (saw_same path path other.seen saw.seen (heads x y vs ws (ends_are ts us (x ∷ []) (y ∷ []) vs ws (ap ends_in other.look) (ap ends_in saw.look) e))))

-- ---- a part file, and the bytes that are copied into it

-- where no call failed, the path was taken
take_told : (path : Path) (mode : Option ℕ) (f : Fault) (ts : List Entry) → Fails (Takes path mode) f ts → call_in f ≡ 0 → (f ≡ fault.Taken path) × (ts ≡ [])
take_told path mode f ts (inl h) z = absurd (no_call f (fault.Call call.Make path) h.0 refl z)
take_told path mode f ts (inr h) z = h

-- and the log was too long
bytes_told : (from to : Path) (why : BytesStop) (f : Fault) → f ≡ bytes_fault from to why → call_in f ≡ 0 → f ≡ fault.TooLong from
bytes_told from to broke.Read f e z = absurd (no_call f (fault.Call call.Read from) e refl z)
bytes_told from to broke.Append f e z = absurd (no_call f (fault.Call call.Append to) e refl z)
bytes_told from to broke.TooLong f e z = e

-- by them no program is run, no directory is made, and nothing is looked at
bytes_none : (from to : Path) (limit count : ℕ) (ts : List Entry) → AllBytes from to limit count ts → ends_in ts ≡ []
bytes_none from to limit count ts w = none_pass shows_end ts (each_all (λ e. shows_end e ≡ false) from to (λ k piece short. refl) (λ piece. refl) limit count ts w)

broke_none : (from to : Path) (limit : ℕ) (why : BytesStop) (ts : List Entry) → BytesBroke from to limit why ts → ends_in ts ≡ []
broke_none from to limit why ts w = none_pass shows_end ts (each_broke (λ e. shows_end e ≡ false) from to (λ k piece short. refl) (λ piece. refl) limit why ts w)

-- ---- one step

-- it failed twice: with the same fault
fails_one : (s : Step) (f g : Fault) (ts us vs ws : List Entry) → IsSimple s → Fails s f ts → Fails s g us → call_in f ≡ 0 → call_in g ≡ 0 → ends_in ts ++ vs ≡ ends_in us ++ ws → (f ≡ g) × (vs ≡ ws)
fails_one (Runs p on c) f g ts us vs ws i h k y z e =
    let a = told_end p on c f ts h y in let b = told_end p on c g us k z in
    let q : runs c a.end ∷ vs ≡ runs c b.end ∷ ws = ends_are ts us (runs c a.end ∷ []) (runs c b.end ∷ []) vs ws a.run b.run e in
    (a.fault_is ∙ (ap (fault.Script p on) (end_same c a.end b.end vs ws q) ∙ sym b.fault_is), behind_same c a.end b.end vs ws q)
fails_one (Removes path) f g ts us vs ws i h k y z e = absurd (no_call f (fault.Call call.Unlink path) h.0 refl y)
fails_one (MakesDir path mode) f g ts us vs ws i h k y z e =
    let a = other_told path mode f ts h y in let b = other_told path mode g us k z in
    let x : Entry = entry.Look path a.1.seen in let u : Entry = entry.Look path b.1.seen in
    (a.0 ∙ sym b.0, tails x u vs ws (ends_are ts us (x ∷ []) (u ∷ []) vs ws (ap ends_in a.1.look) (ap ends_in b.1.look) e))
fails_one (Renames from to) f g ts us vs ws i h k y z e = absurd (no_call f (fault.Call call.Rename from) h.0 refl y)
fails_one (Creates path mode) f g ts us vs ws i h k y z e = absurd (no_call f (fault.Call call.Make path) h.0 refl y)
fails_one (Takes path mode) f g ts us vs ws i h k y z e =
    let a = take_told path mode f ts h y in let b = take_told path mode g us k z in
    (a.0 ∙ sym b.0, ends_are ts us [] [] vs ws (ap ends_in a.1) (ap ends_in b.1) e)
fails_one (Copies from to limit) f g ts us vs ws i h k y z e =
    (bytes_told from to h.0 f h.1 y ∙ sym (bytes_told from to k.0 g k.1 z), ends_are ts us [] [] vs ws (broke_none from to limit h.0 ts h.2) (broke_none from to limit k.0 us k.2) e)
fails_one (SyncsFile path) f g ts us vs ws i h k y z e = absurd (no_call f (fault.Call call.Sync path) h.0 refl y)
fails_one (SyncsDir path) f g ts us vs ws i h k y z e = absurd (no_call f (fault.Call call.Sync path) h.0 refl y)
fails_one (Truncates path) f g ts us vs ws i h k y z e = absurd (no_call f (fault.Call call.Truncate path) h.0 refl y)
fails_one (Rotated log) f g ts us vs ws i h k y z e = absurd h
fails_one _ f g ts us vs ws i h k y z e = absurd i

-- what a fault denies isn't shown by these
abbrev IsUnshown : Fault → List Entry → Type 0
IsUnshown f us = (x : Key) → IsIn x (denied (f ∷ [])) → IsIn x (shown us) → ⊥

-- it doesn't fail and succeed by the same entries, where no fault denies what was done
fails_or_succeeds : (s : Step) (f : Fault) (ts us vs ws : List Entry) → IsSimple s → Fails s f ts → Succeeds s us → call_in f ≡ 0 → IsUnshown f us → ends_in ts ++ vs ≡ ends_in us ++ ws → ⊥
fails_or_succeeds (Runs p on c) f ts us vs ws i h k y hidden e =
    let a = told_end p on c f ts h y in
    a.bad (end_same c a.end (ended.Exit (pos 0)) vs ws (ends_are ts us (runs c a.end ∷ []) (runs c (ended.Exit (pos 0)) ∷ []) vs ws a.run (programs_one c (ended.Exit (pos 0)) us k) e))
fails_or_succeeds (Removes path) f ts us vs ws i h k y hidden e = no_call f (fault.Call call.Unlink path) h.0 refl y
fails_or_succeeds (MakesDir path mode) f ts us vs ws i h k y hidden e = other_or_dir path mode ts us vs ws (other_told path mode f ts h y).1 k e
fails_or_succeeds (Renames from to) f ts us vs ws i h k y hidden e = no_call f (fault.Call call.Rename from) h.0 refl y
fails_or_succeeds (Creates path mode) f ts us vs ws i h k y hidden e = no_call f (fault.Call call.Make path) h.0 refl y
fails_or_succeeds (Takes path mode) f ts us vs ws i h k y hidden e =
    hidden (Made path) (subst (λ (g : Fault). IsIn (Made path) (denied (g ∷ []))) (sym (take_told path mode f ts h y).0) (inl refl)) (subst (λ (es : List Entry). IsIn (Made path) (shown es)) (sym k) (inl refl))
fails_or_succeeds (Copies from to limit) f ts us vs ws i h k y hidden e =
    hidden (WasRead from) (subst (λ (g : Fault). IsIn (WasRead from) (denied (g ∷ []))) (sym (bytes_told from to h.0 f h.1 y)) (inl refl)) (all_shown from to limit k.0 us k.1)
fails_or_succeeds (SyncsFile path) f ts us vs ws i h k y hidden e = no_call f (fault.Call call.Sync path) h.0 refl y
fails_or_succeeds (SyncsDir path) f ts us vs ws i h k y hidden e = no_call f (fault.Call call.Sync path) h.0 refl y
fails_or_succeeds (Truncates path) f ts us vs ws i h k y hidden e = no_call f (fault.Call call.Truncate path) h.0 refl y
fails_or_succeeds (Rotated log) f ts us vs ws i h k y hidden e = h
fails_or_succeeds _ f ts us vs ws i h k y hidden e = i

-- a making, with its entry or without
created_none : (x : Entry) (ts : List Entry) → shows_end x ≡ false → Maybe x ts → ends_in ts ≡ []
created_none x ts e (inl none) = ap ends_in none
created_none x ts e (inr one) = ap ends_in one ∙ none_pass shows_end (x ∷ []) (e, tt)

-- it succeeded twice
succeeds_one : (s : Step) (ts us vs ws : List Entry) → IsSimple s → Succeeds s ts → Succeeds s us → ends_in ts ++ vs ≡ ends_in us ++ ws → vs ≡ ws
succeeds_one (Runs p on c) ts us vs ws i h k e =
    behind_same c (ended.Exit (pos 0)) (ended.Exit (pos 0)) vs ws (ends_are ts us (runs c (ended.Exit (pos 0)) ∷ []) (runs c (ended.Exit (pos 0)) ∷ []) vs ws (programs_one c (ended.Exit (pos 0)) ts h) (programs_one c (ended.Exit (pos 0)) us k) e)
succeeds_one (Removes path) ts us vs ws i h k e = ends_are ts us [] [] vs ws (ap ends_in h) (ap ends_in k) e
succeeds_one (MakesDir path mode) ts us vs ws i h k e =
    let a = dir_end path mode ts h in let b = dir_end path mode us k in
    tails a.0 b.0 vs ws (ends_are ts us (a.0 ∷ []) (b.0 ∷ []) vs ws a.1 b.1 e)
succeeds_one (Renames from to) ts us vs ws i h k e = ends_are ts us [] [] vs ws (ap ends_in h) (ap ends_in k) e
succeeds_one (Creates path mode) ts us vs ws i h k e = ends_are ts us [] [] vs ws (created_none (entry.Makes path mode) ts refl h) (created_none (entry.Makes path mode) us refl k) e
succeeds_one (Takes path mode) ts us vs ws i h k e = ends_are ts us [] [] vs ws (ap ends_in h) (ap ends_in k) e
succeeds_one (Copies from to limit) ts us vs ws i h k e = ends_are ts us [] [] vs ws (bytes_none from to limit h.0 ts h.1) (bytes_none from to limit k.0 us k.1) e
succeeds_one (SyncsFile path) ts us vs ws i h k e = ends_are ts us [] [] vs ws (ap ends_in h) (ap ends_in k) e
succeeds_one (SyncsDir path) ts us vs ws i h k e = ends_are ts us [] [] vs ws (ap ends_in h) (ap ends_in k) e
succeeds_one (Truncates path) ts us vs ws i h k e = ends_are ts us [] [] vs ws (ap ends_in h) (ap ends_in k) e
succeeds_one (Rotated log) ts us vs ws i h k e = ends_are ts us [] [] vs ws (ap ends_in h) (ap ends_in k) e
succeeds_one _ ts us vs ws i h k e = absurd i

-- ---- parts of acts

-- What two parts have in common whose steps ended the same way.
pub record Same (ms ns : List Mark) (fs gs : List Fault) (vs ws : List Entry) : Type 0 where
  pub marks_are : ms ≡ ns
  pub faults_are : fs ≡ gs
  pub rest_is : vs ≡ ws

module _ (all : List Key) where
  -- Where no call failed, what the part comes to is fixed by the entries that show how its steps ended, where all acts showed just these.
  abbrev pub IsFixed : Part → Type 0
  IsFixed P = (ms ns : List Mark) (fs gs : List Fault) (ts us vs ws : List Entry) → P ms fs ts → P ns gs us → calls_in fs ≡ 0 → calls_in gs ≡ 0 → Agree all fs ts → Agree all gs us → ends_in ts ++ vs ≡ ends_in us ++ ws → Same ms ns fs gs vs ws

  nothing_fixed : IsFixed Nothing
  nothing_fixed ms ns fs gs ts us vs ws h k y z a b e = record { marks_are = h.0 ∙ sym k.0; faults_are = h.1 ∙ sym k.1; rest_is = ends_are ts us [] [] vs ws (ap ends_in h.2) (ap ends_in k.2) e }

  both_fixed : (P Q : Part) → IsFixed P → IsFixed Q → IsFixed (Both P Q)
  both_fixed P Q p q ms ns fs gs ts us vs ws h k y z a b e = record {
    marks_are = h.marks_are ∙ (ap (λ (xs : List Mark). xs ++ h.second_marks) one.marks_are ∙ (ap (λ (xs : List Mark). k.first_marks ++ xs) two.marks_are ∙ sym k.marks_are));
    faults_are = h.faults_are ∙ (ap (λ (xs : List Fault). xs ++ h.second_faults) one.faults_are ∙ (ap (λ (xs : List Fault). k.first_faults ++ xs) two.faults_are ∙ sym k.faults_are));
    rest_is = two.rest_is;
  }
    where
      parts : ends_in h.entries.front ++ (ends_in h.entries.back ++ vs) ≡ ends_in k.entries.front ++ (ends_in k.entries.back ++ ws)
      parts = sym (ends_joined ts h.entries.front h.entries.back vs h.entries.joined) ∙ (e ∙ ends_joined us k.entries.front k.entries.back ws k.entries.joined)

      one : Same h.first_marks k.first_marks h.first_faults k.first_faults (ends_in h.entries.back ++ vs) (ends_in k.entries.back ++ ws)
      one = p h.first_marks k.first_marks h.first_faults k.first_faults h.entries.front k.entries.front _ _ h.entries.first k.entries.first (none_before fs h.first_faults h.second_faults h.faults_are y) (none_before gs k.first_faults k.second_faults k.faults_are z)
          (agree_first all fs h.first_faults h.second_faults ts h.entries.front h.entries.back h.faults_are h.entries.joined a) (agree_first all gs k.first_faults k.second_faults us k.entries.front k.entries.back k.faults_are k.entries.joined b) parts

      two : Same h.second_marks k.second_marks h.second_faults k.second_faults vs ws
      two = q h.second_marks k.second_marks h.second_faults k.second_faults h.entries.back k.entries.back vs ws h.entries.second k.entries.second (none_behind fs h.first_faults h.second_faults h.faults_are y) (none_behind gs k.first_faults k.second_faults k.faults_are z)
          (agree_second all fs h.first_faults h.second_faults ts h.entries.front h.entries.back h.faults_are h.entries.joined a) (agree_second all gs k.first_faults k.second_faults us k.entries.front k.entries.back k.faults_are k.entries.joined b) one.rest_is

  -- ---- steps one behind another

  -- a step, and then what is fixed
  step_fixed : (s : Step) (ss : List Step) → IsSimple s → IsFixed (Course ss) → IsFixed (Course (s ∷ ss))
  step_fixed s ss i p ms ns fs gs ts us vs ws (inl h) (inl k) y z a b e =
      let r = fails_one s h.fault k.fault ts us vs ws i h.failed k.failed (one_uncalled fs h.fault h.told y) (one_uncalled gs k.fault k.told z) e in
      record { marks_are = h.none ∙ sym k.none; faults_are = h.told ∙ (ap (λ (f : Fault). f ∷ []) r.0 ∙ sym k.told); rest_is = r.1 }
  step_fixed s ss i p ms ns fs gs ts us vs ws (inl h) (inr k) y z a b e = absurd (fails_or_succeeds s h.fault ts k.entries.front vs (ends_in k.entries.back ++ ws) i h.failed k.entries.first (one_uncalled fs h.fault h.told y)
      (λ x m n. a.not x (subst (λ (es : List Fault). IsIn x (denied es)) (sym h.told) m) ((agree_first all gs [] gs us k.entries.front k.entries.back refl k.entries.joined b).has x n))
      (e ∙ ends_joined us k.entries.front k.entries.back ws k.entries.joined))
  step_fixed s ss i p ms ns fs gs ts us vs ws (inr h) (inl k) y z a b e = absurd (fails_or_succeeds s k.fault us h.entries.front ws (ends_in h.entries.back ++ vs) i k.failed h.entries.first (one_uncalled gs k.fault k.told z)
      (λ x m n. b.not x (subst (λ (es : List Fault). IsIn x (denied es)) (sym k.told) m) ((agree_first all fs [] fs ts h.entries.front h.entries.back refl h.entries.joined a).has x n))
      (sym e ∙ ends_joined ts h.entries.front h.entries.back vs h.entries.joined))
  step_fixed s ss i p ms ns fs gs ts us vs ws (inr h) (inr k) y z a b e =
      let r = p h.later k.later fs gs h.entries.back k.entries.back vs ws h.entries.second k.entries.second y z
      (agree_second all fs [] fs ts h.entries.front h.entries.back refl h.entries.joined a) (agree_second all gs [] gs us k.entries.front k.entries.back refl k.entries.joined b)
      (succeeds_one s h.entries.front k.entries.front (ends_in h.entries.back ++ vs) (ends_in k.entries.back ++ ws) i h.entries.first k.entries.first
      (sym (ends_joined ts h.entries.front h.entries.back vs h.entries.joined) ∙ (e ∙ ends_joined us k.entries.front k.entries.back ws k.entries.joined))) in
      record { marks_are = h.marks_are ∙ (ap (λ (xs : List Mark). marks_of s ++ xs) r.marks_are ∙ sym k.marks_are); faults_are = r.faults_are; rest_is = r.rest_is }

  course_fixed : (steps : List Step) → AreSimple steps → IsFixed (Course steps)
  course_fixed [] i = nothing_fixed
  course_fixed (s ∷ ss) i = step_fixed s ss i.0 (course_fixed ss i.1)

  -- ---- the logs of a definition

  each_fixed : (each : List (List Step)) → AreSimple (all_of_each each) → IsFixed (EachDone each)
  each_fixed [] i = nothing_fixed
  each_fixed (s ∷ ss) i = let r = simple_split s (all_of_each ss) i in both_fixed (Course s) (EachDone ss) (course_fixed s r.0) (each_fixed ss r.1)

  logs_fixed : (each : List (List Step)) (last : List Step) → AreSimple (all_of_each each) → AreSimple last → IsFixed (LogsDone each last)
  logs_fixed each last i j ms ns fs gs ts us vs ws h k y z a b e = record {
    marks_are = h.marks_are ∙ (ap (λ (xs : List Mark). xs ++ h.by_last) one.marks_are ∙ (ap (λ (xs : List Mark). k.by_each ++ xs) two.marks_are ∙ sym k.marks_are));
    faults_are = h.faults_are ∙ (ap (λ (xs : List Fault). xs ++ h.of_last) one.faults_are ∙ (ap (λ (xs : List Fault). k.of_each ++ xs) two.faults_are ∙ sym k.faults_are));
    rest_is = two.rest_is;
  }
    where
      parts : ends_in h.entries.front ++ (ends_in h.entries.back ++ vs) ≡ ends_in k.entries.front ++ (ends_in k.entries.back ++ ws)
      parts = sym (ends_joined ts h.entries.front h.entries.back vs h.entries.joined) ∙ (e ∙ ends_joined us k.entries.front k.entries.back ws k.entries.joined)

      one : Same h.by_each k.by_each h.of_each k.of_each (ends_in h.entries.back ++ vs) (ends_in k.entries.back ++ ws)
      one = each_fixed each i h.by_each k.by_each h.of_each k.of_each h.entries.front k.entries.front _ _ h.entries.first k.entries.first (none_before fs h.of_each h.of_last h.faults_are y) (none_before gs k.of_each k.of_last k.faults_are z)
          (agree_first all fs h.of_each h.of_last ts h.entries.front h.entries.back h.faults_are h.entries.joined a) (agree_first all gs k.of_each k.of_last us k.entries.front k.entries.back k.faults_are k.entries.joined b) parts

      two : Same h.by_last k.by_last h.of_last k.of_last vs ws
      two = course_fixed (if_rotated k.by_each last) (last_so IsSimple (list_any is_rotated k.by_each) last j) h.by_last k.by_last h.of_last k.of_last h.entries.back k.entries.back vs ws
          (subst (λ (xs : List Mark). Course (if_rotated xs last) h.by_last h.of_last h.entries.back) one.marks_are h.entries.second) k.entries.second (none_behind fs h.of_each h.of_last h.faults_are y) (none_behind gs k.of_each k.of_last k.faults_are z)
          (agree_second all fs h.of_each h.of_last ts h.entries.front h.entries.back h.faults_are h.entries.joined a) (agree_second all gs k.of_each k.of_last us k.entries.front k.entries.back k.faults_are k.entries.joined b) one.rest_is

  -- ---- all definitions

  -- it isn't both that the first steps of a definition failed and that they went well
  some_fault : (f : Fault) (fs gs : List Fault) → fs ≡ f ∷ [] → gs ≡ [] → fs ≡ gs → ⊥
  some_fault f fs gs a b e = cc

  set_fixed : (set : SetSteps) → AreSimple (all_of_set set) → IsFixed (SetDone set)
  set_fixed set i = go
    where
      r : AreSimple set.first × AreSimple (all_of_each set.each ++ set.last)
      r = simple_split set.first _ i

      s : AreSimple (all_of_each set.each) × AreSimple set.last
      s = simple_split (all_of_each set.each) set.last r.1

      first : IsFixed (Course set.first)
      first = course_fixed set.first r.0

      unbroken : IsFixed (Unbroken (Course set.first))
      unbroken ms ns fs gs ts us vs ws h k y z a b e = first ms ns fs gs ts us vs ws h.1 k.1 y z a b e

      go : IsFixed (SetDone set)
      go ms ns fs gs ts us vs ws (broke_off h) (broke_off k) y z a b e = first ms ns fs gs ts us vs ws h.part k.part y z a b e
      go ms ns fs gs ts us vs ws (went_on h) (went_on k) y z a b e = both_fixed (Unbroken (Course set.first)) (LogsDone set.each set.last) unbroken (logs_fixed set.each set.last s.0 s.1) ms ns fs gs ts us vs ws h k y z a b e
      go ms ns fs gs ts us vs ws (broke_off h) (went_on k) y z a b e = absurd (some_fault h.fault fs k.first_faults h.told k.entries.first.0
          (first ms k.first_marks fs k.first_faults ts k.entries.front vs (ends_in k.entries.back ++ ws) h.part k.entries.first.1 y (none_before gs k.first_faults k.second_faults k.faults_are z)
          a (agree_first all gs k.first_faults k.second_faults us k.entries.front k.entries.back k.faults_are k.entries.joined b)
          (e ∙ ends_joined us k.entries.front k.entries.back ws k.entries.joined)).faults_are)
      go ms ns fs gs ts us vs ws (went_on h) (broke_off k) y z a b e = absurd (some_fault k.fault gs h.first_faults k.told h.entries.first.0
          (first ns h.first_marks gs h.first_faults us h.entries.front ws (ends_in h.entries.back ++ vs) k.part h.entries.first.1 z (none_before fs h.first_faults h.second_faults h.faults_are y)
          b (agree_first all fs h.first_faults h.second_faults ts h.entries.front h.entries.back h.faults_are h.entries.joined a)
          (sym e ∙ ends_joined ts h.entries.front h.entries.back vs h.entries.joined)).faults_are)

  pub sets_fixed : (sets : List SetSteps) → AreSimple (all_of_sets sets) → IsFixed (SetsDone sets)
  sets_fixed [] i = nothing_fixed
  sets_fixed (s ∷ ss) i = let r = simple_split (all_of_set s) (all_of_sets ss) i in both_fixed (SetDone s) (SetsDone ss) (set_fixed s r.0) (sets_fixed ss r.1)
