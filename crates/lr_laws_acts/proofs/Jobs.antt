-- The copies of a plan are those that its rules ask for.
use Rattle.std.proofs.Common.{◌≡◌, refl, ◌∙◌, ap, Bool, true, false, cond, Option, Some, None}
use Rattle.lr_rules.specs.declared.path.Path.{Path}
use Rattle.lr_rules.specs.declared.rule.Rule.{Rule}
use Rattle.lr_rules.specs.declared.rule.Way.{Way}
use Rattle.lr_rules.specs.declared.rule.Way.TheVariants as way
use Rattle.lr_rules.specs.Names.{aside_path}
use Rattle.lr_copy.specs.declared.job.Job.{Job}
use Rattle.lr_plan.specs.declared.looks.LogLook.{LogLook}
use Rattle.lr_plan.specs.Planned.{is_seen_file, copy_job, from_path, job_by}

-- a log is emptied only by that way
pub cut_way : (rule : Rule) (look : LogLook) (target : Path) (job : Job) → job_by rule.way look target ≡ Some job → job.cut ≡ true → rule.way ≡ way.CopyTruncate
cut_way rule look target job is cut = go rule.way is
  where
    cut_of : Option Job → Bool
    cut_of None = false
    cut_of (Some j) = j.cut

    clash : false ≡ true → ⊥
    clash e = cc

    not_cut : Some (copy_job look target false) ≡ Some job → ⊥
    not_cut same = let kept : false ≡ job.cut = ap cut_of same in clash (kept ∙ cut)

    -- nor is what a log was set aside to
    not_aside : (b : Bool) → cond b None (Some (from_path (aside_path look.path) (copy_job look target false))) ≡ Some job → ⊥
    not_aside true same = cc
    not_aside false same = let kept : false ≡ job.cut = ap cut_of same in clash (kept ∙ cut)

    go : (w : Way) → job_by w look target ≡ Some job → w ≡ way.CopyTruncate
    go way.Rename is = absurd (cc)
    go way.Copy is = absurd (not_cut is)
    go way.CopyTruncate is = refl
    go way.RenameCopy is = absurd (not_aside (is_seen_file look.tmp) is)
