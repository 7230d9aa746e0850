-- The directories that an audit asks for have paths.
use Rattle.std.proofs.Common.{◌≡◌, ⊎_elim, ◌+◌, inl, inr, Bool, true, false, cond, List, [], ◌∷◌, map, None, ap, ◌∙◌, subst}
use Rattle.std.specs.List.{flat_map}
use Rattle.lr_rules.specs.declared.fault.Fault.{Fault}
use Rattle.lr_rules.specs.declared.path.Path.{Path}
use Rattle.lr_rules.specs.declared.rule.Rule.{Rule}
use Rattle.lr_rules.specs.Path.{path_fault, parent_of}
use Rattle.lr_rules.proofs.ParentPath.{parent_path}
use Rattle.lr_host.specs.declared.entry.Entry.{Entry}
use Rattle.lr_host.specs.Lists.{IsIn}
use Rattle.lr_host.proofs.Lists.{in_from, in_to, in_append, in_unmap, of_flat}
use Rattle.lr_plan.specs.declared.looks.LogLook.{LogLook}
use Rattle.lr_plan.specs.declared.looks.Looks.{Looks}
use Rattle.lr_plan.specs.declared.looks.SetLooks.{SetLooks}
use Rattle.lr_looks.specs.Families.{LookedLog}
use Rattle.lr_looks.specs.Found.{FoundLog, HasLogPath, paths_of}
use Rattle.lr_looks.specs.Sets.{looked_in}
use Rattle.lr_looks.specs.Shown.{ShowsLooks}
use Rattle.lr_looks.specs.Choices.{kept_of}
use Rattle.lr_laws_looks.proofs.Coming.{was_looked, in_looked, in_files, in_kept}
use Rattle.lr_laws_looks.proofs.Free.{place_in}
use Rattle.lr_laws_looks.proofs.Seen.{log_path}
use Rattle.lr_audit.specs.Dirs.{look_dir, set_dirs, asked_dirs, AreDirs}

module _ {reserved : List Path} (rules : List Rule) (sets : List SetLooks) (faults : List Fault) (ts : List Entry) (s : ShowsLooks reserved rules sets faults ts) where
  -- a log that is kept, and the directory of its members
  kept_path : (f : FoundLog) → IsIn f s.kept → HasLogPath f
  kept_path f i = log_path s.found f s.paths (in_kept s.found s.keeps.choices f (in_files (kept_of s.found s.keeps.choices) f (subst (IsIn f) s.keeps.left_are i)).0)

  parent_so : (kept : List Path) (dir : Path) → kept ≡ paths_of s.kept → IsIn dir (map parent_of kept) → path_fault dir ≡ None
  parent_so kept dir are i =
      let log = in_unmap parent_of dir kept i in
      let f = in_unmap (λ (g : FoundLog). g.log.path) log.0 s.kept (subst (IsIn log.0) are log.1) in
      subst (λ (x : Path). path_fault x ≡ None) log.2 (parent_path log.0 (subst (λ (x : Path). path_fault x ≡ None) f.2 (kept_path f.0 f.1).path))

  -- a log that was looked at whole
  family_so : (set : SetLooks) (look : LogLook) → IsIn set sets → IsIn look set.logs → path_fault look.family.naming.dir ≡ None
  family_so set look i j =
      let at = place_in sets set i in
      let x : LookedLog = looked_in (0 + at.0) look in
      let g = in_looked s.kept s.entries.second.families.sights x (subst (IsIn x) s.entries.second.families.looked_are (was_looked 0 at.0 s.looked sets set look s.by_sets at.1 j)) in
      ap (λ (y : LookedLog). path_fault y.naming.dir) g.2.1 ∙ (kept_path g.0 g.1).dir

  of_look : (look : LogLook) (dir : Path) (there : Bool) → IsIn dir (cond there (look.family.naming.dir ∷ []) []) → look.family.naming.dir ≡ dir
  of_look look dir true (inl e) = e
  of_look look dir true (inr none) = absurd none
  of_look look dir false none = absurd none

  sets_so : (dir : Path) → IsIn dir (flat_map set_dirs sets) → path_fault dir ≡ None
  sets_so dir i =
      let set = of_flat set_dirs sets dir i in
      let look = of_flat look_dir set.0.logs dir set.2 in
      subst (λ (x : Path). path_fault x ≡ None) (of_look look.0 dir look.0.stand.there look.2) (family_so set.0 look.0 set.1 look.1)

-- So each directory has one.
pub dirs_have_paths : {reserved : List Path} (rules : List Rule) (looks : Looks) (faults : List Fault) (ts : List Entry) (dirs : List Path) → (s : ShowsLooks reserved rules looks.sets faults ts) → looks.kept ≡ paths_of s.kept → AreDirs (asked_dirs looks) dirs
    → (dir : Path) → IsIn dir dirs → path_fault dir ≡ None
dirs_have_paths rules looks faults ts dirs s are given dir i =
    ⊎_elim (parent_so rules looks.sets faults ts s looks.kept dir are) (sets_so rules looks.sets faults ts s dir)
    (in_append dir (map parent_of looks.kept) (flat_map set_dirs looks.sets) (in_from dir (asked_dirs looks) ((given.all dir).0 (in_to dir dirs i))))
