-- Each call of a copy fits, wherever those before it left the disk.
use Rattle.std.proofs.Common.{◌≡◌, ⊎_elim, refl, sym, ◌∙◌, ap, subst, true, List, [], ◌∷◌, Option, Some, None}
use Rattle.std.specs.Prelude.{filter}
use Rattle.lr_host.specs.declared.thing.Thing.TheVariants as thing
use Rattle.lr_host.specs.declared.entry.Entry.{Entry}
use Rattle.lr_host.specs.declared.entry.Entry.TheVariants as entry
use Rattle.lr_host.specs.declared.journal.Journal.{Journal}
use Rattle.lr_host.specs.World.{Past, ◌▸◌, past, world, Names, names, put}
use Rattle.lr_host.specs.Fits.{Fits, IsFileAt, IsDirectoryAt}
use Rattle.lr_host.specs.Steps.{is_naming}
use Rattle.lr_host.specs.Told.{Left, Can, CanCall, WhereTold}
use Rattle.lr_host.proofs.Looked.{file_no_dir}
use Rattle.lr_host.proofs.More.{made_more}
use Rattle.lr_host.proofs.Names.{put_here, put_other}
use Rattle.lr_host.proofs.Stays.{Stays, left_still, left_one, told_as, dir_more, file_more, dir_put, file_put, no_dir}
use Rattle.lr_copy.specs.declared.job.Job.{Job}
use Rattle.lr_copy.specs.Fits.{ArePaths, CopyHasPlace, CanCopy, CanOpen, CanName, CanCut}

-- ---- what entries do to facts of names

can_by : (Q : Names → Type 0) (e : Entry) (o : Option Journal) → ((n : Names) → Q n → CanCall n e) → WhereTold o (λ p. Q (names (world p))) → Can o e
can_by Q e o f h = record { can = go o h }
  where
    go : (o : Option Journal) → WhereTold o (λ p. Q (names (world p))) → WhereTold o (λ p. CanCall (names (world p)) e)
    go None h = tt
    go (Some j) h = f (names (world (past j))) h

-- ---- the place of a copy

place_more : (job : Job) → Stays (CopyHasPlace job)
place_more job n n' more h = record {
  log = file_more job.from n n' more h.log;
  directory = dir_more job.dir n n' more h.directory;
  no_directory = λ is. ⊎_elim (λ same. h.no_directory (sym same ∙ is)) (λ new. file_no_dir (n' job.to) new.1.0 new.1.1 is) (more job.to);
  no_other = λ is. ⊎_elim (λ same. h.no_other (sym same ∙ is)) (λ new. let a = new.1.1 in cc) (more job.to);
}

-- with the part file
abbrev Full : Job → Names → Type 0
Full job n = CopyHasPlace job n × IsFileAt n job.part

full_more : (job : Job) → Stays (Full job)
full_more job n n' more h = (place_more job n n' more h.0, file_more job.part n n' more h.1)

-- the log and the directory
abbrev Near : Job → Names → Type 0
Near job n = IsFileAt n job.from × IsDirectoryAt n job.dir

near_more : (job : Job) → Stays (Near job)
near_more job n n' more h = (file_more job.from n n' more h.0, dir_more job.dir n n' more h.1)

-- an old part file goes
place_dropped : (job : Job) (n : Names) → ArePaths job → IsFileAt n job.part → CopyHasPlace job n → CopyHasPlace job (put n job.part thing.Nothing)
place_dropped job n paths f h =
    let other : put n job.part thing.Nothing job.to ≡ n job.to = put_other n job.part job.to thing.Nothing (λ e. paths.part_not_to (sym e)) in record {
      log = file_put n job.part job.from thing.Nothing paths.part_apart h.log;
      directory = dir_put n job.part job.dir thing.Nothing (no_dir n job.part f) h.directory;
      no_directory = λ is. h.no_directory (sym other ∙ is);
      no_other = λ is. h.no_other (sym other ∙ is);
    }

-- ---- the calls, in order

pub can_unlink : (job : Job) {o : Option Journal} → job.stale ≡ true → CanCopy o job → Can o (entry.Unlinks job.part)
can_unlink job {o = o} stale can = can_by (λ n. CopyHasPlace job n × (job.stale ≡ true → IsFileAt n job.part)) (entry.Unlinks job.part) o (λ n f. f.1 stale) can.place

pub not_cleared : (job : Job) {o : Option Journal} → CanCopy o job → CanOpen o job
not_cleared job {o = o} can = record { place = told_as (λ n. CopyHasPlace job n × (job.stale ≡ true → IsFileAt n job.part)) (CopyHasPlace job) o (λ n f. f.0) can.place }

pub is_cleared : (job : Job) {o m : Option Journal} → ArePaths job → job.stale ≡ true → CanCopy o job → Left (λ ts. ts ≡ entry.Unlinks job.part ∷ []) o m → CanOpen m job
is_cleared job {o = o} paths stale can l = record {
  place = left_one (Full job) (CopyHasPlace job) (full_more job) (place_more job) (entry.Unlinks job.part) (λ r h fits. place_dropped job (names (world r)) paths h.1 h.0) l
      (told_as (λ n. CopyHasPlace job n × (job.stale ≡ true → IsFileAt n job.part)) (Full job) o (λ n f. (f.0, f.1 stale)) can.place);
}

pub can_make : (job : Job) {o : Option Journal} → ArePaths job → CanOpen o job → Can o (entry.Makes job.part job.mode)
can_make job {o = o} paths can = can_by (CopyHasPlace job) (entry.Makes job.part job.mode) o (λ n f. subst (λ d. IsDirectoryAt n d) (sym paths.part_in) f.directory) can.place

pub is_made : (job : Job) {o m : Option Journal} → CanOpen o job → Left (λ ts. ts ≡ entry.Makes job.part job.mode ∷ []) o m → CanName m job
is_made job can l = record { place = left_one (CopyHasPlace job) (Full job) (place_more job) (full_more job) (entry.Makes job.part job.mode) made l can.place }
  where
    made : (r : Past) → CopyHasPlace job (names (world r)) → Fits (world r) (entry.Makes job.part job.mode) → Full job (names (world (r ▸ entry.Makes job.part job.mode)))
    made r h fits =
        let n = names (world r) in (
          place_more job n (names (world (r ▸ entry.Makes job.part job.mode))) (made_more n job.part (world r).drawn fits.1) h,
          ((world r).drawn, put_here n job.part job.part (thing.File (world r).drawn) refl),
        )

pub can_read : (job : Job) {o : Option Journal} → CanName o job → Can o (entry.Reads job.from 0 [])
can_read job {o = o} can = can_by (Full job) (entry.Reads job.from 0 []) o (λ n f. f.0.log) can.place

pub can_append : (job : Job) {o : Option Journal} → CanName o job → Can o (entry.Appends job.part [])
can_append job {o = o} can = can_by (Full job) (entry.Appends job.part []) o (λ n f. f.1) can.place

pub can_sync : (job : Job) {o : Option Journal} → CanName o job → Can o (entry.SyncsFile job.part)
can_sync job {o = o} can = can_by (Full job) (entry.SyncsFile job.part) o (λ n f. f.1) can.place

pub name_still : (job : Job) {P : List Entry → Type 0} {o m : Option Journal} → CanName o job → Left P o m → ((ts : List Entry) → P ts → filter is_naming ts ≡ []) → CanName m job
name_still job can l none = record { place = left_still (Full job) (full_more job) l none can.place }

pub can_rename : (job : Job) {o : Option Journal} → ArePaths job → CanName o job → Can o (entry.Renames job.part job.to)
can_rename job {o = o} paths can = can_by (Full job) (entry.Renames job.part job.to) o (λ n f. (f.1, f.0.no_directory, f.0.no_other, subst (λ d. IsDirectoryAt n d) paths.dir_is f.0.directory, paths.part_not_to)) can.place

-- the part file has its final path, and the directory isn't synced yet
pub record CanSync (told : Option Journal) (job : Job) : Type 0 where
  pub near : WhereTold told (λ p. Near job (names (world p)))

pub is_renamed : (job : Job) {o m : Option Journal} → ArePaths job → CanName o job → Left (λ ts. ts ≡ entry.Renames job.part job.to ∷ []) o m → CanSync m job
is_renamed job paths can l = record { near = left_one (Full job) (Near job) (full_more job) (near_more job) (entry.Renames job.part job.to) moved l can.place }
  where
    moved : (r : Past) → Full job (names (world r)) → Fits (world r) (entry.Renames job.part job.to) → Near job (names (world (r ▸ entry.Renames job.part job.to)))
    moved r h fits =
        let n = names (world r) in
        let gone = put n job.part thing.Nothing in
        let same : gone job.to ≡ n job.to = put_other n job.part job.to thing.Nothing (λ e. paths.part_not_to (sym e)) in (
          file_put gone job.to job.from (n job.part) paths.to_apart (file_put n job.part job.from thing.Nothing paths.part_apart h.0.log),
          dir_put gone job.to job.dir (n job.part) (λ is. h.0.no_directory (sym same ∙ is)) (dir_put n job.part job.dir thing.Nothing (no_dir n job.part h.1) h.0.directory),
        )

pub can_sync_dir : (job : Job) {o : Option Journal} → CanSync o job → Can o (entry.SyncsDir job.dir)
can_sync_dir job {o = o} can = can_by (Near job) (entry.SyncsDir job.dir) o (λ n f. f.1) can.near

pub is_synced : (job : Job) {o m : Option Journal} → CanSync o job → Left (λ ts. ts ≡ entry.SyncsDir job.dir ∷ []) o m → CanCut m job
is_synced job {m = m} can l = record { log = told_as (Near job) (λ n. IsFileAt n job.from) m (λ n f. f.0) (left_still (Near job) (near_more job) l (λ ts t. ap (filter is_naming) t) can.near) }

pub can_truncate : (job : Job) {o : Option Journal} → CanCut o job → Can o (entry.Truncates job.from)
can_truncate job {o = o} can = can_by (λ n. IsFileAt n job.from) (entry.Truncates job.from) o (λ n f. f) can.log
