-- What the calls ask for that set a log aside.
use Rattle.std.proofs.Common.{◌≡◌, ◌≢◌, ℕ, refl, sym, ◌∙◌, ap, subst, List, [], ◌∷◌, ◌++◌, map, Option, Some, None}
use Rattle.lr_rules.specs.declared.path.Path.{Path}
use Rattle.lr_rules.specs.Path.{parent_of}
use Rattle.lr_host.specs.declared.thing.Thing.TheVariants as thing
use Rattle.lr_host.specs.declared.entry.Entry.{Entry}
use Rattle.lr_host.specs.declared.entry.Entry.TheVariants.{MakesDir, Renames, SyncsDir}
use Rattle.lr_host.specs.declared.journal.Journal.{Journal}
use Rattle.lr_host.specs.World.{Names, names, world, past, put}
use Rattle.lr_host.specs.Fits.{IsFileAt, IsDirectoryAt}
use Rattle.lr_host.specs.Steps.{CanAll}
use Rattle.lr_host.proofs.Names.{put_here, put_other, put_directory}
use Rattle.lr_host.proofs.Stays.{dir_put, file_put, no_dir}
use Rattle.lr_chain.specs.declared.ready.Move.{Move}
use Rattle.lr_chain.specs.declared.ready.Ready.{Ready}
use Rattle.lr_chain.specs.Ready.{move_step, dir_calls}
use Rattle.lr_move.specs.Aside.{aside_of}
use Rattle.lr_rows_host.specs.Place.{IsPlace}

pub is_place : (n : Names) (x : Path) → IsDirectoryAt n (parent_of x) → n x ≢ thing.Directory → n x ≢ thing.Other → IsPlace n x
is_place n x inside no_directory no_other = record { inside = inside; no_directory = no_directory; no_other = no_other }

-- ---- behind a move

-- a move leaves another file, and a directory
module _ (n : Names) (from to : Path) (file : IsFileAt n from) (place : IsPlace n to) (two : from ≢ to) where
  abbrev moved : Names
  moved = put (put n from thing.Nothing) to (n from)

  to_before : put n from thing.Nothing to ≡ n to
  to_before = put_other n from to thing.Nothing (λ e. two (sym e))

  moved_file : (x : Path) → from ≢ x → to ≢ x → IsFileAt n x → IsFileAt moved x
  moved_file x a b f = file_put (put n from thing.Nothing) to x (n from) b (file_put n from x thing.Nothing a f)

  moved_dir : (x : Path) → IsDirectoryAt n x → IsDirectoryAt moved x
  moved_dir x d = dir_put (put n from thing.Nothing) to x (n from) (λ e. place.no_directory (sym to_before ∙ e)) (dir_put n from x thing.Nothing (no_dir n from file) d)

  moved_same : (x : Path) → from ≢ x → to ≢ x → moved x ≡ n x
  moved_same x a b = put_other (put n from thing.Nothing) to x (n from) (λ e. b (sym e)) ∙ put_other n from x thing.Nothing (λ e. a (sym e))

pub can_behind_move : (j : Journal) (from to log tmp dir : Path) → IsFileAt (names (world (past j))) from → IsPlace (names (world (past j))) to → IsFileAt (names (world (past j))) log → IsPlace (names (world (past j))) tmp → IsDirectoryAt (names (world (past j))) dir
    → from ≢ to → log ≢ tmp → from ≢ log → to ≢ log → from ≢ tmp → to ≢ tmp
    → CanAll (Some j) (Renames from to ∷ SyncsDir dir ∷ Renames log tmp ∷ [])
can_behind_move j from to log tmp dir file place log_file log_place in_dir two apart from_log to_log from_tmp to_tmp = record {
  can = (((tt, (file, place.no_directory, place.no_other, place.inside, two)), moved_dir n from to file place two dir in_dir), (moved_file n from to file place two log from_log to_log log_file, λ e. log_place.no_directory (sym same ∙ e), λ e. log_place.no_other (sym same ∙ e), moved_dir n from to file place two (parent_of tmp) log_place.inside, apart));
}
  where
    n : Names
    n = names (world (past j))

    same : moved n from to file place two tmp ≡ n tmp
    same = moved_same n from to file place two tmp from_tmp to_tmp

-- so a rotation of this one move can be made
pub one_move : (j : Journal) (ready : Ready) (dir tmp log : Path) (step : Move) → ready.dir ≡ None → ready.moves ≡ step ∷ [] → ready.log ≡ log → CanAll (Some j) (Renames step.from step.to ∷ SyncsDir dir ∷ Renames log tmp ∷ [])
    → CanAll (Some j) (dir_calls ready.dir ++ aside_of ready dir tmp)
one_move j ready dir tmp log step no_dir one log_is can =
    subst (λ (es : List Entry). CanAll (Some j) es)
    (sym (ap (λ (d : Option (Path × Option ℕ)). dir_calls d ++ aside_of ready dir tmp) no_dir ∙ (ap (λ (ms : List Move). (map move_step ms ++ SyncsDir dir ∷ []) ++ Renames ready.log tmp ∷ []) one ∙ ap (λ (l : Path). move_step step ∷ SyncsDir dir ∷ Renames l tmp ∷ []) log_is))) can

-- ---- behind the making of the directory

pub can_behind_making : (j : Journal) (dir : Path) (mode : Option ℕ) (log tmp : Path) → IsDirectoryAt (names (world (past j))) (parent_of dir) → IsFileAt (names (world (past j))) log → IsPlace (names (world (past j))) tmp → log ≢ tmp → dir ≢ log → dir ≢ tmp
    → CanAll (Some j) (MakesDir dir mode ∷ SyncsDir dir ∷ Renames log tmp ∷ [])
can_behind_making j dir mode log tmp inside log_file log_place apart dir_log dir_tmp = record {
  can = (((tt, inside), put_here n dir dir thing.Directory refl), (file_put n dir log thing.Directory dir_log log_file, λ e. log_place.no_directory (sym same ∙ e), λ e. log_place.no_other (sym same ∙ e), put_directory n dir (parent_of tmp) log_place.inside, apart));
}
  where
    n : Names
    n = names (world (past j))

    same : put n dir thing.Directory tmp ≡ n tmp
    same = put_other n dir tmp thing.Directory (λ e. dir_tmp (sym e))

-- so one by which the directory is made, and nothing moved
pub one_making : (j : Journal) (ready : Ready) (dir tmp log : Path) (mode : Option ℕ) → ready.dir ≡ Some (dir, mode) → ready.moves ≡ [] → ready.log ≡ log → CanAll (Some j) (MakesDir dir mode ∷ SyncsDir dir ∷ Renames log tmp ∷ [])
    → CanAll (Some j) (dir_calls ready.dir ++ aside_of ready dir tmp)
one_making j ready dir tmp log mode makes none log_is can =
    subst (λ (es : List Entry). CanAll (Some j) es)
    (sym (ap (λ (d : Option (Path × Option ℕ)). dir_calls d ++ aside_of ready dir tmp) makes ∙ (ap (λ (ms : List Move). MakesDir dir mode ∷ ((map move_step ms ++ SyncsDir dir ∷ []) ++ Renames ready.log tmp ∷ [])) none ∙ ap (λ (l : Path). MakesDir dir mode ∷ SyncsDir dir ∷ Renames l tmp ∷ []) log_is))) can
