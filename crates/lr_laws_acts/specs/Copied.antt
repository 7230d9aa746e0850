-- The copy of a log among the entries of a run.
use Rattle.std.specs.Prelude.{◌≡◌, ℕ, true, List, ◌++◌}
use Rattle.lr_rules.specs.declared.path.Path.{Path}
use Rattle.lr_host.specs.declared.entry.Entry.{Entry}
use Rattle.lr_copy.specs.declared.job.Job.{Job}
use Rattle.lr_copy.specs.Copying.{cutting}
use Rattle.lr_laws_family.specs.Whole.{Named}

-- A copy by this job stands among these entries, one entry behind another, with the truncation of the log where the job asks for
-- that.
pub record CopyStands (job : Job) (ts : List Entry) : Type 0 where
  pub before : List Entry
  pub named : List Entry
  pub after : List Entry
  pub count : ℕ
  pub is_named : Named job count named
  pub joined : ts ≡ before ++ (named ++ (cutting job ++ after))

-- of the jobs that copy this log and empty it, it is this one
abbrev pub IsSameFor : Path → Job → Job → Type 0
IsSameFor log job other = other.cut ≡ true → other.from ≡ log → other ≡ job
