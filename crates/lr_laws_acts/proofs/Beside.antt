-- What stands between the steps of a log that is copied: it is on the paths of other logs and of the state, on the part file's, and on that of the family's directory, which it makes; or it makes the log anew, or empties it.
use Rattle.std.proofs.Common.{◌≡◌, ◌⊎◌, inl, inr, sym, ◌∙◌, ap, Some, List, ◌∷◌}
use Rattle.lr_rules.specs.declared.path.Path.{Path}
use Rattle.lr_host.specs.declared.entry.Entry.{Entry}
use Rattle.lr_host.specs.declared.entry.Entry.TheVariants.{Makes, MakesDir, Appends, Truncates}
use Rattle.lr_host.specs.Lists.{IsIn}
use Rattle.lr_host.proofs.Lists.{in_front, in_back}
use Rattle.lr_copy.specs.declared.job.Job.{Job}
use Rattle.lr_laws_rotations.specs.AllTurns.{IsItsDir, AlsoDoes, StandsBetween, dir_paths, paths_of_others, other_paths, paths_beside}
use Rattle.lr_laws_family.specs.Beside.{IsBeside}
use Rattle.lr_laws_family.proofs.Anew.{on_more}
use Rattle.lr_laws_rotations.specs.Target.{Target}
use Rattle.lr_laws_rotations.proofs.Others.{dir_in, other_on, state_on}
use Rattle.lr_laws_acts.proofs.Ways.{job_same}

-- besides, or it empties the log
abbrev pub IsBesideOrCut : List Path → Path → Entry → Type 0
IsBesideOrCut paths log e = IsBeside paths log e ⊎ (e ≡ Truncates log)

also_beside : (t : Target) (job : Job) (paths : List Path) (e : Entry) → t.job ≡ Some job → ((x : Path) → IsItsDir t x → IsIn x paths) → AlsoDoes t e → IsBesideOrCut (job.part ∷ paths) t.log e
also_beside t job paths (MakesDir x mode) has dir d = inl (inl (inr (dir x d)))
also_beside t job paths (Makes x mode) has dir (inl is) = inl (inr is)
also_beside t job paths (Makes x mode) has dir (inr p) = inl (inl (inl (ap (λ (j : Job). j.part) (sym (job_same t job has p.0 p.1)) ∙ sym p.2)))
also_beside t job paths (Appends x bytes) has dir p = inl (inl (inl (ap (λ (j : Job). j.part) (sym (job_same t job has p.0 p.1)) ∙ sym p.2)))
also_beside t job paths (Truncates x) has dir p = inr (ap Truncates p.1)
also_beside t job paths _ has dir h = absurd h

pub between_beside : (state : Path) (t : Target) (ts : List Target) (job : Job) (e : Entry) → t.job ≡ Some job → StandsBetween state t ts e → IsBesideOrCut (job.part ∷ paths_beside state t ts) t.log e
between_beside state t ts job e has (inl h) = inl (inl (on_more (paths_of_others t.log ts) (job.part ∷ paths_beside state t ts) e (λ x i. inr (in_back x (dir_paths t.ready.dir) (other_paths state t.log ts) (inr (inr i)))) (other_on t.log ts e h)))
between_beside state t ts job e has (inr (inl h)) = inl (inl (on_more (other_paths state t.log ts) (job.part ∷ paths_beside state t ts) e (λ x i. inr (in_back x (dir_paths t.ready.dir) (other_paths state t.log ts) i)) (state_on state t.log ts e h)))
between_beside state t ts job e has (inr (inr also)) = also_beside t job (paths_beside state t ts) e has (λ x d. in_front x (dir_paths t.ready.dir) (other_paths state t.log ts) (dir_in t x d)) also
