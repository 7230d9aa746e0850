-- The renames and unlinks of a rotation that is ready.
use Rattle.std.proofs.Common.{◌≡◌, Bool, true, false, cond, refl, sym, ◌∙◌, ap, append_assoc, Option, Some, None, List, [], ◌∷◌, ◌++◌, map}
use Rattle.lr_rules.specs.declared.path.Path.{Path}
use Rattle.lr_host.specs.declared.entry.Entry.{Entry}
use Rattle.lr_host.specs.declared.entry.Entry.TheVariants.{Renames, Unlinks}
use Rattle.lr_host.specs.Told.{Each}
use Rattle.lr_host.proofs.Each.{each_append, each_map}
use Rattle.lr_scripts.specs.declared.removal.Removal.{Removal}
use Rattle.lr_copy.specs.declared.job.Job.{Job}
use Rattle.lr_copy.specs.Copying.{clearing}
use Rattle.lr_chain.specs.declared.ready.Move.{Move}
use Rattle.lr_chain.specs.Ready.{move_step}
use Rattle.lr_laws_family.specs.Rotation as family
use Rattle.lr_laws_family.proofs.Fed.{IsTurn}
use Rattle.lr_laws_rotations.specs.Steps.{unlinks, bare_steps}
use Rattle.lr_laws_rotations.specs.Rotation.{removal_paths, rotation_by}
use Rattle.lr_laws_rotations.specs.Target.{Target, source_by, transfer_of, target_entries}
use Rattle.lr_laws_rotations.specs.Apart.{HasNames}
use Rattle.lr_laws_rotations.proofs.Way.{not_aside}

pub two : {xs ys xs' ys' : List Entry} → xs ≡ xs' → ys ≡ ys' → xs ++ ys ≡ xs' ++ ys'
two {ys = ys} {xs' = xs'} a b = ap (λ x. x ++ ys) a ∙ ap (λ y. xs' ++ y) b

-- where the log isn't copied, they are the steps of what is ready
pub renamed_are : (t : Target) → t.job ≡ None → target_entries t ≡ bare_steps t.ready
renamed_are t none = ap (λ (j : Option Job). unlinks t.ready.leftovers ++ (map move_step t.ready.moves ++ (transfer_of t.ready j t.aside ++ unlinks t.ready.retire))) none

-- ---- what holds of each

pub each_part : (P : Entry → Type 0) (t : Target) → Each P (unlinks t.ready.leftovers) → Each P (map move_step t.ready.moves) → Each P (transfer_of t.ready t.job t.aside) → Each P (unlinks t.ready.retire) → Each P (target_entries t)
each_part P t a b c d =
    each_append P (unlinks t.ready.leftovers) (map move_step t.ready.moves ++ (transfer_of t.ready t.job t.aside ++ unlinks t.ready.retire)) a
    (each_append P (map move_step t.ready.moves) (transfer_of t.ready t.job t.aside ++ unlinks t.ready.retire) b (each_append P (transfer_of t.ready t.job t.aside) (unlinks t.ready.retire) c d))

-- a rotation renames and unlinks alone
pub each_turn : (P : Entry → Type 0) → ((x : Path) → P (Unlinks x)) → ((x y : Path) → P (Renames x y)) → (t : Target) → Each P (target_entries t)
each_turn P unlink rename t =
    each_part P t (each_map P (λ r. Unlinks r.path) t.ready.leftovers (λ r. unlink r.path)) (each_map P move_step t.ready.moves (λ m. rename m.from m.to)) (transfer t.job t.aside) (each_map P (λ r. Unlinks r.path) t.ready.retire (λ r. unlink r.path))
  where
    cleared : (job : Job) (b : Bool) → Each P (cond b (Unlinks job.part ∷ []) [])
    cleared job true = (unlink job.part, tt)
    cleared job false = tt

    transfer : (j : Option Job) (a : Option Path) → Each P (transfer_of t.ready j a)
    transfer None a = (rename t.ready.log t.ready.target, tt)
    transfer (Some job) None = each_append P (clearing job) (Renames job.part job.to ∷ []) (cleared job job.stale) (rename job.part job.to, tt)
    transfer (Some job) (Some path) = (rename t.ready.log path, each_append P (clearing job) (Renames job.part job.to ∷ Unlinks path ∷ []) (cleared job job.stale) (rename job.part job.to, (unlink path, tt)))

pub unlinks_turn : (rs : List Removal) → Each IsTurn (unlinks rs)
unlinks_turn [] = tt
unlinks_turn (r ∷ rs) = (tt, unlinks_turn rs)

pub moves_turn : (ms : List Move) → Each IsTurn (map move_step ms)
moves_turn [] = tt
moves_turn (m ∷ ms) = (tt, moves_turn ms)

-- so do the steps of what is ready
pub steps_turn : (t : Target) → Each IsTurn (bare_steps t.ready)
steps_turn t = each_turn IsTurn (λ x. tt) (λ x y. tt) (record { log = t.log; naming = t.naming; count = t.count; maxage = t.maxage; stand = t.stand; ready = t.ready; job = None; aside = None })

-- ---- they are those of the rotation of its family, but for what brings the log to its target

unlinks_in : (rs : List Removal) → unlinks rs ≡ family.unlinks (removal_paths rs)
unlinks_in [] = refl
unlinks_in (r ∷ rs) = ap (λ (es : List Entry). Unlinks r.path ∷ es) (unlinks_in rs)

module _ (t : Target) where
  abbrev moves : List Entry
  moves = map move_step t.ready.moves

  abbrev first : List Entry
  first = family.unlinks (removal_paths t.ready.leftovers)

  parts : target_entries t ≡ family.steps_before (rotation_by t) ++ (transfer_of t.ready t.job t.aside ++ family.steps_behind (rotation_by t))
  parts = ap (λ (ls : List Entry). ls ++ (moves ++ (transfer_of t.ready t.job t.aside ++ unlinks t.ready.retire))) (unlinks_in t.ready.leftovers)
      ∙ (ap (λ (rs : List Entry). first ++ (moves ++ (transfer_of t.ready t.job t.aside ++ rs))) (unlinks_in t.ready.retire) ∙ sym (append_assoc first moves (transfer_of t.ready t.job t.aside ++ family.steps_behind (rotation_by t))))

  -- by its copy, and by where it is set aside
  pub by_both : (j : Option Job) (a : Option Path) → t.job ≡ j → t.aside ≡ a → target_entries t ≡ family.steps_before (rotation_by t) ++ (transfer_of t.ready j a ++ family.steps_behind (rotation_by t))
  by_both j a is aside = parts
      ∙ (ap (λ (k : Option Job). family.steps_before (rotation_by t) ++ (transfer_of t.ready k t.aside ++ family.steps_behind (rotation_by t))) is
      ∙ ap (λ (b : Option Path). family.steps_before (rotation_by t) ++ (transfer_of t.ready j b ++ family.steps_behind (rotation_by t))) aside)

  -- where the log is renamed, from where it stands or waits
  pub renamed_steps : HasNames t → t.job ≡ None → target_entries t ≡ family.rotation_steps (rotation_by t)
  renamed_steps h none =
      let stays : t.aside ≡ None = not_aside t h.way none in
      by_both None None none stays
      ∙ ap (λ (x : Path). family.steps_before (rotation_by t) ++ (Renames x t.ready.target ∷ family.steps_behind (rotation_by t))) (sym (ap (λ (a : Option Path). source_by a t.ready.log) stays))

  -- where it is copied from where it stands
  pub copied_steps : (job : Job) → t.job ≡ Some job → t.aside ≡ None → target_entries t ≡ (family.steps_before (rotation_by t) ++ clearing job) ++ (Renames job.part job.to ∷ family.steps_behind (rotation_by t))
  copied_steps job is stays = by_both (Some job) None is stays
      ∙ (ap (λ (es : List Entry). family.steps_before (rotation_by t) ++ es) (append_assoc (clearing job) (Renames job.part job.to ∷ []) (family.steps_behind (rotation_by t)))
      ∙ sym (append_assoc (family.steps_before (rotation_by t)) (clearing job) (Renames job.part job.to ∷ family.steps_behind (rotation_by t))))
