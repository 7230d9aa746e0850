-- What the acts of a plan change: no name that the run reserves for itself, and no directory that stands.
use Rattle.std.proofs.Common.{◌≡◌, ◌≢◌, inl, inr, refl, sym, ◌∙◌, ap, List, [], ◌∷◌}
use Rattle.std.specs.Prelude.{filter}
use Rattle.lr_rules.specs.declared.fault.Fault.{Fault}
use Rattle.lr_rules.specs.declared.path.Path.{Path}
use Rattle.lr_host.specs.declared.thing.Thing.TheVariants as thing
use Rattle.lr_host.specs.declared.entry.Entry.{Entry}
use Rattle.lr_host.specs.declared.entry.Entry.TheVariants.{Renames, Makes, MakesDir, Appends, Truncates, Unlinks}
use Rattle.lr_host.specs.Fits.{Fits, IsFileAt, IsDirectoryAt}
use Rattle.lr_host.specs.Lists.{IsIn}
use Rattle.lr_host.specs.Steps.{is_change}
use Rattle.lr_host.specs.Told.{Each}
use Rattle.lr_host.specs.World.{Past, ◌▸◌, World, world, Names, names, put}
use Rattle.lr_host.proofs.Each.{each_as}
use Rattle.lr_host.proofs.Looked.{nothing_no_dir, file_no_dir}
use Rattle.lr_host.proofs.More.{not_more}
use Rattle.lr_host.proofs.Names.{put_other}
use Rattle.lr_host.proofs.Stays.{Stays}
use Rattle.lr_laws.specs.Follow.{changed_paths}
use Rattle.lr_plan.specs.declared.mark.Mark.{Mark}
use Rattle.lr_plan.specs.declared.step.SetSteps.{SetSteps}
use Rattle.lr_plan.specs.Done.{SetsDone}
use Rattle.lr_laws_rotations.specs.AllTurns.{IsOfSome}
use Rattle.lr_laws_rotations.specs.Target.{Target}
use Rattle.lr_laws_rotations.proofs.Others.{IsFileChange, own_turns}
use Rattle.lr_laws_rotations.specs.Apart.{TargetsHaveNames}
use Rattle.lr_laws_rotations.proofs.Own.{any_change}
use Rattle.lr_laws_acts.specs.Parts.{ArePlanned}
use Rattle.lr_laws_acts.proofs.Parting.{done_some}
use Rattle.lr_laws_looks.specs.Free.{AreFreeOf}
use Rattle.lr_laws_looks.proofs.Lasting.{IsKeptBy}

-- a rename, an unlink, the making, filling or emptying of a file, or the making of a directory, at other paths than these
abbrev pub Spares : List Path → Entry → Type 0
Spares reserved e = IsFileChange e × ((x : Path) → IsIn x (changed_paths e) → IsIn x reserved → ⊥)

some_spares : (reserved : List Path) (ts : List Target) (e : Entry) → TargetsHaveNames ts → AreFreeOf reserved ts → IsOfSome ts e → Spares reserved e
some_spares reserved [] e h free i = absurd i
some_spares reserved (t ∷ ts) e h free (inl i) = (
  own_turns t e i,
  λ x changed r. free.0 x r (any_change t e h.0 i x changed),
)
some_spares reserved (t ∷ ts) e h free (inr i) = some_spares reserved ts e h.1 free.1 i

-- each change of the acts is one
pub acts_spare : (reserved : List Path) (targets : List Target) (sets : List SetSteps) (marks : List Mark) (faults : List Fault) (ts : List Entry) → TargetsHaveNames targets → AreFreeOf reserved targets → ArePlanned targets sets
    → SetsDone sets marks faults ts → Each (Spares reserved) (filter is_change ts)
acts_spare reserved targets sets marks faults ts h free planned done =
    each_as (IsOfSome targets) (Spares reserved) (filter is_change ts) (λ e i. some_spares reserved targets e h free i)
    (done_some targets sets marks faults ts planned done)

-- ---- what such changes keep

same_name : (q : Past) (e : Entry) (y : Path) → IsFileChange e → (IsIn y (changed_paths e) → ⊥) → names (world (q ▸ e)) y ≡ names (world q) y
same_name q (Renames from to) y t out =
    put_other (put (names (world q)) from thing.Nothing) to y (names (world q) from) (λ is. out (inr (inl (sym is)))) ∙ put_other (names (world q)) from y thing.Nothing (λ is. out (inl (sym is)))
same_name q (Unlinks x) y t out = put_other (names (world q)) x y thing.Nothing (λ is. out (inl (sym is)))
same_name q (Makes x mode) y t out = put_other (names (world q)) x y (thing.File (world q).drawn) (λ is. out (inl (sym is)))
same_name q (MakesDir x mode) y t out = put_other (names (world q)) x y thing.Directory (λ is. out (inl (sym is)))
same_name q (Appends x bytes) y t out = refl
same_name q (Truncates x) y t out = refl
same_name q _ y t out = absurd t

no_directory : (w : World) (e : Entry) (y : Path) → IsFileChange e → Fits w e → IsDirectoryAt (names w) y → IsIn y (changed_paths e) → ⊥
no_directory w (Renames from to) y t f d (inl is) = file_no_dir (names w from) f.0.0 f.0.1 (ap (names w) is ∙ d)
no_directory w (Renames from to) y t f d (inr (inl is)) = f.1 (ap (names w) is ∙ d)
no_directory w (Renames from to) y t f d (inr (inr none)) = none
no_directory w (Unlinks x) y t f d (inl is) = file_no_dir (names w x) f.0 f.1 (ap (names w) is ∙ d)
no_directory w (Unlinks x) y t f d (inr none) = none
no_directory w (Makes x mode) y t f d (inl is) = nothing_no_dir (names w x) f.1 (ap (names w) is ∙ d)
no_directory w (Makes x mode) y t f d (inr none) = none
no_directory w (MakesDir x mode) y t f d (inl is) = nothing_no_dir (names w x) f.1 (ap (names w) is ∙ d)
no_directory w (MakesDir x mode) y t f d (inr none) = none
no_directory w (Appends x bytes) y t f d (inl is) = file_no_dir (names w x) f.0 f.1 (ap (names w) is ∙ d)
no_directory w (Appends x bytes) y t f d (inr none) = none
no_directory w (Truncates x) y t f d (inl is) = file_no_dir (names w x) f.0 f.1 (ap (names w) is ∙ d)
no_directory w (Truncates x) y t f d (inr none) = none
no_directory w _ y t f d i = absurd t

pub dir_kept : (reserved : List Path) (y : Path) → IsKeptBy (Spares reserved) (λ n. IsDirectoryAt n y)
dir_kept reserved y q e s f d = same_name q e y s.0 (no_directory (world q) e y s.0 f d) ∙ d

pub file_kept : (reserved : List Path) (y : Path) → IsIn y reserved → IsKeptBy (Spares reserved) (λ n. IsFileAt n y)
file_kept reserved y i q e s f h = (h.0, same_name q e y s.0 (λ changed. s.1 y changed i) ∙ h.1)

-- the path names a file or nothing
abbrev pub IsFree : Path → Names → Type 0
IsFree y n = (n y ≢ thing.Directory) × (n y ≢ thing.Other)

pub free_stays : (y : Path) → Stays (IsFree y)
free_stays y n n' more free = (not_more n n' y thing.Directory more (λ g e. cc) free.0, not_more n n' y thing.Other more (λ g e. cc) free.1)

pub free_kept : (reserved : List Path) (y : Path) → IsIn y reserved → IsKeptBy (Spares reserved) (IsFree y)
free_kept reserved y i q e s f free = (λ is. free.0 (sym same ∙ is), λ is. free.1 (sym same ∙ is))
  where
    same : names (world (q ▸ e)) y ≡ names (world q) y
    same = same_name q e y s.0 (λ changed. s.1 y changed i)
