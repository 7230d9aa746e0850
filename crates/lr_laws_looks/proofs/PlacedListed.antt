-- The directories of a log that was seen stand, or are to be made.
use Rattle.std.proofs.Common.{◌≡◌, ◌⊎◌, inl, inr, sym, ◌∙◌, refl, subst, ℕ, List, Option, Some, None}
use Rattle.lr_rules.specs.declared.clock.Clock.{Clock}
use Rattle.lr_rules.specs.declared.path.Path.{Path}
use Rattle.lr_rules.specs.declared.rules.Rules.{Rules}
use Rattle.lr_rules.specs.Path.{path_fault, parent_of}
use Rattle.lr_host.specs.declared.entry.Entry.{Entry}
use Rattle.lr_host.specs.declared.entry.Entry.TheVariants as entry
use Rattle.lr_host.specs.Fits.{IsDirectoryAt}
use Rattle.lr_host.specs.Lists.{IsIn}
use Rattle.lr_host.specs.World.{world, names}
use Rattle.lr_host.proofs.Looked.{seen_file, seen_dir}
use Rattle.lr_plan.specs.declared.mark.Mark.{Mark}
use Rattle.lr_plan.specs.declared.mark.Mark.TheVariants as mark
use Rattle.lr_laws_rotations.proofs.Directories.{log_dir}
use Rattle.lr_laws_rotations.specs.AllTurns.{IsItsDir}
use Rattle.lr_laws_rotations.specs.Target.{Target, IsMissingDir, IsDirSeenBy}
use Rattle.lr_laws_rotations.proofs.Moments.{saw_one}
use Rattle.lr_laws_family.specs.Shown.{SawDir, SawFile}
use Rattle.lr_laws_rotations.proofs.Own.{target_member}
use Rattle.lr_laws_rotations.proofs.PartFile.{member_parent}
use Rattle.lr_laws_rotations.specs.Seen.{IsLogSeen}
use Rattle.lr_laws_rotations.proofs.LogSeen.{any_names}
use Rattle.lr_laws_looks.proofs.Dirs.{IsDirOfLog}
use Rattle.lr_laws_looks.proofs.Lasting.{Says}

-- the directory was seen
pub says_seen : (dir : Path) (looks : List Entry) → SawDir dir looks → Says (λ n. IsDirectoryAt n dir) looks
says_seen dir looks saw = record { entry = entry.Look dir (Some saw.0); among = saw.2; so = λ w j f. seen_dir (world w) (names (world w) dir) saw.0 f saw.1 }

-- ---- the directory of the members

-- in it stands the path that the log gets, which is a member's
target_dir : (rules : Rules) (clock : Clock) (looks : List Entry) (t : Target) → IsLogSeen rules clock looks t → parent_of t.ready.target ≡ t.naming.dir
target_dir rules clock looks t l = member_parent t.log t.naming l.family t.ready.target (target_member t (any_names rules clock looks t l))

-- where the rotation doesn't make it, it was seen
says_listed : (rules : Rules) (clock : Clock) (looks : List Entry) (t : Target) → t.ready.dir ≡ None → IsLogSeen rules clock looks t → Says (λ n. IsDirectoryAt n (parent_of t.ready.target)) looks
says_listed rules clock looks t none l = subst (λ (d : Path). Says (λ n. IsDirectoryAt n d) looks) (sym (target_dir rules clock looks t l))
    (says_seen t.naming.dir looks (subst (λ (d : Option (Path × Option ℕ)). IsDirSeenBy d t.log t.naming t.stand.members t.job looks) none l.dir))

-- where it makes it, it was missing, and its own directory was seen
pub was_missing : (rules : Rules) (clock : Clock) (looks : List Entry) (t : Target) (made : Path) → IsItsDir t made → IsLogSeen rules clock looks t → IsMissingDir t.log t.naming t.stand.members t.job looks made
was_missing rules clock looks t made its l = subst (λ (d : Option (Path × Option ℕ)). IsDirSeenBy d t.log t.naming t.stand.members t.job looks) its.1 l.dir

pub says_parent : (rules : Rules) (clock : Clock) (looks : List Entry) (t : Target) (made : Path) → IsItsDir t made → IsLogSeen rules clock looks t → Says (λ n. IsDirectoryAt n (parent_of made)) looks
says_parent rules clock looks t made its l = says_seen (parent_of made) looks (was_missing rules clock looks t made its l).parent

-- ---- each directory of a log

-- that of the log has a file
pub says_own : (rules : Rules) (clock : Clock) (looks : List Entry) (t : Target) → path_fault t.log ≡ None → IsLogSeen rules clock looks t → Says (λ n. IsDirectoryAt n (parent_of t.log)) looks
says_own rules clock looks t valid seen = record { entry = entry.Look t.log (Some saw.0); among = saw.2; so = λ w j f. log_dir t w valid j (seen_file (world w) (names (world w) t.log) saw.0 f saw.1) }
  where
    saw : SawFile t.log looks
    saw = saw_one t.log looks seen.log_seen

-- so one of the looks says that it stands, or a mark tells that it was made
pub says_dir : (rules : Rules) (clock : Clock) (shown : List Entry) (t : Target) (marks : List Mark) (dir : Path) → path_fault t.log ≡ None → IsLogSeen rules clock shown t → IsDirOfLog t marks dir
    → IsIn (mark.Directory dir) marks ⊎ ((looks : List Entry) → IsLogSeen rules clock looks t → Says (λ n. IsDirectoryAt n dir) looks)
says_dir rules clock shown t marks dir valid seen (inl is) = inr (λ looks l. subst (λ (d : Path). Says (λ n. IsDirectoryAt n d) looks) (sym is) (says_own rules clock looks t valid l))
says_dir rules clock shown t marks dir valid seen (inr (inl of)) = go t.ready.dir refl
  where
    go : (d : Option (Path × Option ℕ)) → t.ready.dir ≡ d → IsIn (mark.Directory dir) marks ⊎ ((looks : List Entry) → IsLogSeen rules clock looks t → Says (λ n. IsDirectoryAt n dir) looks)
    go None none = inr (λ looks l. subst (λ (d : Path). Says (λ n. IsDirectoryAt n d) looks) (sym of.0) (says_listed rules clock looks t none l))
    go (Some (made, mode)) its = inl (of.1 (mode, subst (λ (d : Path). t.ready.dir ≡ Some (d, mode)) ((was_missing rules clock shown t made (mode, its) seen).dir_is ∙ (sym (target_dir rules clock shown t seen) ∙ sym of.0)) its))
says_dir rules clock shown t marks dir valid seen (inr (inr of)) = inr (λ looks l. subst (λ (d : Path). Says (λ n. IsDirectoryAt n d) looks) (sym of.2) (says_parent rules clock looks t of.0 of.1 l))
