-- Each step of the writing fits, wherever those before it left the disk.
use Rattle.std.proofs.Common.{◌≡◌, ◌≢◌, ⊎_elim, refl, sym, ◌∙◌, ap, subst, ℕ, Bool, true, false, List, [], ◌∷◌, ◌++◌, map, Option, Some, None}
use Rattle.std.specs.Prelude.{filter}
use Rattle.lr_rules.specs.declared.path.Path.{Path}
use Rattle.lr_rules.specs.Path.{parent_of}
use Rattle.lr_rules.specs.StatePath.{state_part}
use Rattle.lr_rules.proofs.Beside.{part_apart, parent_same}
use Rattle.lr_host.specs.declared.thing.Thing.{Thing}
use Rattle.lr_host.specs.declared.thing.Thing.TheVariants as thing
use Rattle.lr_host.specs.declared.entry.Entry.{Entry}
use Rattle.lr_host.specs.declared.entry.Entry.TheVariants as entry
use Rattle.lr_host.specs.declared.journal.Journal.{Journal}
use Rattle.lr_host.specs.World.{Past, ◌▸◌, past, world, Names, names, put}
use Rattle.lr_host.specs.Fits.{Fits, IsFileAt, IsDirectoryAt}
use Rattle.lr_host.specs.Steps.{CanAll, FitAll, is_naming}
use Rattle.lr_host.specs.Told.{CanCall, WhereTold}
use Rattle.lr_host.proofs.Looked.{file_no_dir}
use Rattle.lr_host.proofs.More.{made_more}
use Rattle.lr_host.proofs.Names.{put_here, put_other}
use Rattle.lr_host.proofs.Stays.{Stays, left_still, left_one, told_as, told_both, dir_more, file_more, dir_put, no_dir}
use Rattle.lr_plan.specs.declared.step.Step.TheVariants.{Renames, Takes, Appends, SyncsFile, SyncsDir}
use Rattle.lr_plan.specs.Asking.{CanMake}
use Rattle.lr_plan.specs.Steps.{state_steps}
use Rattle.lr_writing.specs.Fits.{AreDirectories, StateHasPlace, CanBegin}
use Rattle.lr_host.proofs.Appending.{none_named}

-- ---- what entries do to facts of names

can_by : (Q : Names → Type 0) (e : Entry) (o : Option Journal) → ((n : Names) → Q n → CanCall n e) → WhereTold o (λ p. Q (names (world p))) → CanAll o (e ∷ [])
can_by Q e o f h = record { can = go o h }
  where
    go : (o : Option Journal) → WhereTold o (λ p. Q (names (world p))) → WhereTold o (λ p. FitAll (names (world p)) (e ∷ []))
    go None h = tt
    go (Some j) h = (tt, f (names (world (past j))) h)

-- ---- the place of a state

dirs_more : (dirs : List Path) → Stays (λ n. AreDirectories n dirs)
dirs_more [] n n' more h = tt
dirs_more (d ∷ dirs) n n' more h = (dir_more d n n' more h.0, dirs_more dirs n n' more h.1)

place_more : (state : Path) (dirs : List Path) → Stays (StateHasPlace state dirs)
place_more state dirs n n' more h = record {
  no_directory = λ is. ⊎_elim (λ same. h.no_directory (sym same ∙ is)) (λ new. file_no_dir (n' state) new.1.0 new.1.1 is) (more state);
  no_other = λ is. ⊎_elim (λ same. h.no_other (sym same ∙ is)) (λ new. let a = new.1.1 in cc) (more state);
  place = dir_more (parent_of state) n n' more h.place;
  directories = dirs_more dirs n n' more h.directories;
}

dirs_put : (n : Names) (x : Path) (dirs : List Path) (t : Thing) → n x ≢ thing.Directory → AreDirectories n dirs → AreDirectories (put n x t) dirs
dirs_put n x [] t ne h = tt
dirs_put n x (d ∷ dirs) t ne h = (dir_put n x d t ne h.0, dirs_put n x dirs t ne h.1)

-- an old part file goes
place_dropped : (state part : Path) (dirs : List Path) (n : Names) → part ≢ state → IsFileAt n part → StateHasPlace state dirs n → StateHasPlace state dirs (put n part thing.Nothing)
place_dropped state part dirs n ne f h =
    let other : put n part thing.Nothing state ≡ n state = put_other n part state thing.Nothing (λ e. ne (sym e)) in record {
      no_directory = λ is. h.no_directory (sym other ∙ is);
      no_other = λ is. h.no_other (sym other ∙ is);
      place = dir_put n part (parent_of state) thing.Nothing (no_dir n part f) h.place;
      directories = dirs_put n part dirs thing.Nothing (no_dir n part f) h.directories;
    }

abbrev Full : Path → List Path → Names → Type 0
Full state dirs n = StateHasPlace state dirs n × IsFileAt n (state_part state)

full_more : (state : Path) (dirs : List Path) → Stays (Full state dirs)
full_more state dirs n n' more h = (place_more state dirs n n' more h.0, file_more (state_part state) n n' more h.1)

-- ---- the steps, from the last

last_fits : (state : Path) (o : Option Journal) → WhereTold o (λ p. IsDirectoryAt (names (world p)) (parent_of state)) → CanMake o (SyncsDir (parent_of state) ∷ [])
last_fits state o h = (can_by (λ n. IsDirectoryAt n (parent_of state)) (entry.SyncsDir (parent_of state)) o (λ n d. d) h, λ now l. tt)

name_fits : (state : Path) (o : Option Journal) → WhereTold o (λ p. Full state [] (names (world p))) → CanMake o (Renames (state_part state) state ∷ SyncsDir (parent_of state) ∷ [])
name_fits state o h =
    let part = state_part state in (
      can_by (Full state []) (entry.Renames part state) o (λ n f. (f.1, f.0.no_directory, f.0.no_other, f.0.place, part_apart state)) h,
      λ now l. last_fits state now (left_one (Full state []) (λ n. IsDirectoryAt n (parent_of state)) (full_more state []) (dir_more (parent_of state)) (entry.Renames part state) (moved part) l h),
    )
  where
    moved : (part : Path) (r : Past) → Full state [] (names (world r)) → Fits (world r) (entry.Renames part state) → IsDirectoryAt (names (world (r ▸ entry.Renames part state))) (parent_of state)
    moved part r h fits =
        let n = names (world r) in
        let gone : IsDirectoryAt (put n part thing.Nothing) (parent_of state) = dir_put n part (parent_of state) thing.Nothing (no_dir n part fits.0) h.0.place in
        let same : put n part thing.Nothing state ≡ n state = put_other n part state thing.Nothing (λ e. fits.4 (sym e)) in
        dir_put (put n part thing.Nothing) state (parent_of state) (n part) (λ is. h.0.no_directory (sym same ∙ is)) gone

fewer_dirs : (state d : Path) (dirs : List Path) (n : Names) → Full state (d ∷ dirs) n → Full state dirs n
fewer_dirs state d dirs n h = (record { no_directory = h.0.no_directory; no_other = h.0.no_other; place = h.0.place; directories = h.0.directories.1 }, h.1)

dirs_fit : (state : Path) (dirs : List Path) (o : Option Journal) → WhereTold o (λ p. Full state dirs (names (world p))) → CanMake o (map SyncsDir dirs ++ (Renames (state_part state) state ∷ SyncsDir (parent_of state) ∷ []))
dirs_fit state [] o h = name_fits state o h
dirs_fit state (d ∷ dirs) o h = (
  can_by (Full state (d ∷ dirs)) (entry.SyncsDir d) o (λ n f. f.0.directories.0) h,
  λ now l. dirs_fit state dirs now (told_as (Full state (d ∷ dirs)) (Full state dirs) now (fewer_dirs state d dirs) (left_still (Full state (d ∷ dirs)) (full_more state (d ∷ dirs)) l (λ ts t. ap (filter is_naming) t) h)),
)

sync_fits : (state : Path) (dirs : List Path) (o : Option Journal) → WhereTold o (λ p. Full state dirs (names (world p))) → CanMake o (SyncsFile (state_part state) ∷ (map SyncsDir dirs ++ (Renames (state_part state) state ∷ SyncsDir (parent_of state) ∷ [])))
sync_fits state dirs o h = (
  can_by (Full state dirs) (entry.SyncsFile (state_part state)) o (λ n f. f.1) h,
  λ now l. dirs_fit state dirs now (left_still (Full state dirs) (full_more state dirs) l (λ ts t. ap (filter is_naming) t) h),
)

text_fits : (state : Path) (dirs : List Path) (text : List ℕ) (o : Option Journal) → WhereTold o (λ p. Full state dirs (names (world p))) → CanMake o (Appends (state_part state) text ∷ SyncsFile (state_part state) ∷ (map SyncsDir dirs ++ (Renames (state_part state) state ∷ SyncsDir (parent_of state) ∷ [])))
text_fits state dirs text o h = (
  can_by (Full state dirs) (entry.Appends (state_part state) []) o (λ n f. f.1) h,
  λ now l. sync_fits state dirs now (left_still (Full state dirs) (full_more state dirs) l (λ ts t. none_named (state_part state) text ts t) h),
)

part_fits : (state : Path) (dirs : List Path) (text : List ℕ) (o : Option Journal) → WhereTold o (λ p. StateHasPlace state dirs (names (world p))) → CanMake o (Takes (state_part state) (Some 416) ∷ Appends (state_part state) text ∷ SyncsFile (state_part state) ∷ (map SyncsDir dirs ++ (Renames (state_part state) state ∷ SyncsDir (parent_of state) ∷ [])))
part_fits state dirs text o h = (
  can_by (StateHasPlace state dirs) (entry.Makes (state_part state) (Some 416)) o (λ n f. subst (λ d. IsDirectoryAt n d) (sym (parent_same state)) f.place) h,
  λ now l. text_fits state dirs text now (left_one (StateHasPlace state dirs) (Full state dirs) (place_more state dirs) (full_more state dirs) (entry.Makes (state_part state) (Some 416)) (made_full (state_part state) refl) l h),
)
  where
    made_full : (part : Path) → part ≡ state_part state → (r : Past) → StateHasPlace state dirs (names (world r)) → Fits (world r) (entry.Makes part (Some 416)) → Full state dirs (names (world (r ▸ entry.Makes part (Some 416))))
    made_full part is r h fits =
        let n = names (world r) in (
          place_more state dirs n (names (world (r ▸ entry.Makes part (Some 416)))) (made_more n part (world r).drawn fits.1) h,
          ((world r).drawn, put_here n part (state_part state) (thing.File (world r).drawn) (sym is)),
        )

pub writing_fits : (state : Path) (stale : Bool) (dirs : List Path) (text : List ℕ) (o : Option Journal) → CanBegin o state stale dirs → CanMake o (state_steps state stale dirs text)
writing_fits state false dirs text o c = part_fits state dirs text o c.place
writing_fits state true dirs text o c =
    let part = state_part state in
    let both = told_both (StateHasPlace state dirs) (λ n. IsFileAt n (state_part state)) o c.place c.part in (
      can_by (Full state dirs) (entry.Unlinks part) o (λ n f. f.1) both,
      λ now l. part_fits state dirs text now (left_one (Full state dirs) (StateHasPlace state dirs) (full_more state dirs) (place_more state dirs) (entry.Unlinks part)
          (λ r h fits. place_dropped state (state_part state) dirs (names (world r)) (part_apart state) h.1 h.0) l both),
    )
