-- The rotation of a log that a run may rotate, be the names of its members numbers or dates.
use Rattle.std.specs.Prelude.{List, map, Option, Some, None}
use Rattle.lr_rules.specs.declared.path.Path.{Path}
use Rattle.lr_scripts.specs.declared.removal.Removal.{Removal}
use Rattle.lr_copy.specs.declared.job.Job.{Job}
use Rattle.lr_laws_rotations.specs.Target.{Target, source_of}
use Rattle.lr_laws_family.specs.Rotation.{Rotation, By, Rename, Copy, Aside}

-- a copy where there is a job, from where the log is or from where it is set aside; else a rename
abbrev pub by_of : Option Job → Option Path → By
by_of None aside = Rename
by_of (Some job) None = Copy job
by_of (Some job) (Some path) = Aside job

-- the paths of these removals
abbrev pub removal_paths : List Removal → List Path
removal_paths removals = map (λ r. r.path) removals

-- the rotation, as its plan has it
abbrev pub rotation_by : Target → Rotation
rotation_by t = record {
  log = t.log;
  source = source_of t;
  stood = t.stand.members;
  early = removal_paths t.ready.leftovers;
  moves = t.ready.moves;
  target = t.ready.target;
  gone = removal_paths t.ready.retire;
  by = by_of t.job t.aside;
}
