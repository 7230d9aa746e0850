-- The calls of a copy fit where there is a place for it, and what they leave.
use Rattle.std.proofs.Common.{◌≡◌, ◌≢◌, Bool, true, false, cond, refl, sym, ◌∙◌, ap, subst, List, [], ◌∷◌, ◌++◌}
use Rattle.lr_rules.specs.declared.path.Path.{Path}
use Rattle.lr_host.specs.declared.thing.Thing.TheVariants as thing
use Rattle.lr_host.specs.declared.entry.Entry.{Entry}
use Rattle.lr_host.specs.declared.entry.Entry.TheVariants.{Reads, Renames, Makes, Appends, Truncates, Unlinks, SyncsFile, SyncsDir}
use Rattle.lr_host.specs.World.{Names, put}
use Rattle.lr_host.specs.Fits.{IsFileAt, IsDirectoryAt}
use Rattle.lr_host.proofs.Names.{put_here, put_other}
use Rattle.lr_copy.specs.declared.job.Job.{Job}
use Rattle.lr_copy.specs.Fits.{ArePaths, CopyHasPlace, IsStale}
use Rattle.lr_laws_rotations.specs.Calls.{FitCalls, copy_calls}
use Rattle.lr_laws_rotations.proofs.Alike.{afters}

module _ (job : Job) (paths : ArePaths job) (no_dir : job.part ≢ job.dir) where
  -- behind the unlink of an old part file
  abbrev behind : Job → Bool → List Entry
  behind j c = Makes j.part j.mode ∷ Reads j.from 0 [] ∷ Appends j.part [] ∷ SyncsFile j.part ∷ Renames j.part j.to ∷ SyncsDir j.dir ∷ cond c (Truncates j.from ∷ []) []

  module _ (n : Names) (place : CopyHasPlace job n) where
    -- with the part file, and where that is renamed
    abbrev made : Names
    made = put n job.part (thing.File 0)

    abbrev gone : Names
    gone = put made job.part thing.Nothing

    abbrev moved : Names
    moved = put gone job.to (made job.part)

    made_here : made job.part ≡ thing.File 0
    made_here = put_here n job.part job.part (thing.File 0) refl

    made_other : (y : Path) → y ≢ job.part → made y ≡ n y
    made_other y ne = put_other n job.part y (thing.File 0) ne

    moved_other : (y : Path) → y ≢ job.part → y ≢ job.to → moved y ≡ n y
    moved_other y ne ne_to = put_other gone job.to y (made job.part) ne_to ∙ (put_other made job.part y thing.Nothing ne ∙ made_other y ne)

    moved_to : moved job.to ≡ thing.File 0
    moved_to = put_here gone job.to job.to (made job.part) refl ∙ made_here

    log_made : IsFileAt made job.from
    log_made = (place.log.0, made_other job.from (λ e. paths.part_apart (sym e)) ∙ place.log.1)

    log_moved : IsFileAt moved job.from
    log_moved = (place.log.0, moved_other job.from (λ e. paths.part_apart (sym e)) (λ e. paths.to_apart (sym e)) ∙ place.log.1)

    to_made : made job.to ≡ n job.to
    to_made = made_other job.to (λ e. paths.part_not_to (sym e))

    dir_made : IsDirectoryAt made job.dir
    dir_made = made_other job.dir (λ e. no_dir (sym e)) ∙ place.directory

    dir_moved : IsDirectoryAt moved job.dir
    dir_moved = moved_other job.dir (λ e. no_dir (sym e)) (λ e. place.no_directory (ap n (sym e) ∙ place.directory)) ∙ place.directory

    cut : (c : Bool) → FitCalls moved (cond c (Truncates job.from ∷ []) [])
    cut true = (log_moved, tt)
    cut false = tt

    behind_fits : (c : Bool) → FitCalls n (behind job c)
    behind_fits c = (
      subst (IsDirectoryAt n) (sym paths.part_in) place.directory,
      (
        log_made,
        (
          (0, made_here),
          (
            (0, made_here),
            (
              ((0, made_here), λ is. place.no_directory (sym to_made ∙ is), λ is. place.no_other (sym to_made ∙ is), subst (IsDirectoryAt made) paths.dir_is dir_made, paths.part_not_to),
              (dir_moved, cut c),
            ),
          ),
        ),
      ),
    )

    behind_other : (c : Bool) (y : Path) → y ≢ job.part → y ≢ job.to → afters n (behind job c) y ≡ n y
    behind_other true y ne ne_to = moved_other y ne ne_to
    behind_other false y ne ne_to = moved_other y ne ne_to

    behind_to : (c : Bool) → afters n (behind job c) job.to ≡ thing.File 0
    behind_to true = moved_to
    behind_to false = moved_to

  -- an old part file goes
  cleared_other : (n : Names) (y : Path) → y ≢ job.part → put n job.part thing.Nothing y ≡ n y
  cleared_other n y ne = put_other n job.part y thing.Nothing ne

  cleared : (n : Names) → CopyHasPlace job n → CopyHasPlace job (put n job.part thing.Nothing)
  cleared n place =
      let to : put n job.part thing.Nothing job.to ≡ n job.to = cleared_other n job.to (λ e. paths.part_not_to (sym e)) in record {
        log = (place.log.0, cleared_other n job.from (λ e. paths.part_apart (sym e)) ∙ place.log.1);
        directory = cleared_other n job.dir (λ e. no_dir (sym e)) ∙ place.directory;
        no_directory = λ is. place.no_directory (sym to ∙ is);
        no_other = λ is. place.no_other (sym to ∙ is);
      }

  all_fit : (n : Names) → CopyHasPlace job n → (b c : Bool) → (b ≡ true → IsFileAt n job.part) → FitCalls n (cond b (Unlinks job.part ∷ []) [] ++ behind job c)
  all_fit n place true c stale = (stale refl, behind_fits (put n job.part thing.Nothing) (cleared n place) c)
  all_fit n place false c stale = behind_fits n place c

  all_other : (n : Names) → CopyHasPlace job n → (b c : Bool) (y : Path) → y ≢ job.part → y ≢ job.to → afters n (cond b (Unlinks job.part ∷ []) [] ++ behind job c) y ≡ n y
  all_other n place true c y ne ne_to = behind_other (put n job.part thing.Nothing) (cleared n place) c y ne ne_to ∙ cleared_other n y ne
  all_other n place false c y ne ne_to = behind_other n place c y ne ne_to

  all_to : (n : Names) → CopyHasPlace job n → (b c : Bool) → afters n (cond b (Unlinks job.part ∷ []) [] ++ behind job c) job.to ≡ thing.File 0
  all_to n place true c = behind_to (put n job.part thing.Nothing) (cleared n place) c
  all_to n place false c = behind_to n place c

  pub copy_fits : (n : Names) → CopyHasPlace job n → IsStale job n → FitCalls n (copy_calls job)
  copy_fits n place stale = all_fit n place job.stale job.cut stale

  -- the final path has a file, and no other path but the part file's names something else
  pub copied_to : (n : Names) → CopyHasPlace job n → afters n (copy_calls job) job.to ≡ thing.File 0
  copied_to n place = all_to n place job.stale job.cut

  pub copied_other : (n : Names) → CopyHasPlace job n → (y : Path) → y ≢ job.part → y ≢ job.to → afters n (copy_calls job) y ≡ n y
  copied_other n place y ne ne_to = all_other n place job.stale job.cut y ne ne_to
