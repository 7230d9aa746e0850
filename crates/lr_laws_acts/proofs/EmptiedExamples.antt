-- A log that is emptied behind its copy, and one that is emptied at once.
use Rattle.std.proofs.Common.{refl, subst, inl, ⊎_elim, arith, List, [], ◌∷◌, reverse, Some}
use Rattle.lr_host.specs.Opening.{IsJournal}
use Rattle.lr_host.specs.Quiet.{from_here}
use Rattle.lr_host.specs.Safe.{whole as all_of}
use Rattle.lr_host.specs.Told.{Left, is_told, by_tool}
use Rattle.lr_host.specs.World.{past}
use Rattle.lr_laws.specs.Chain.{log}
use Rattle.lr_laws.proofs.Example.{found_valid}
use Rattle.lr_laws.proofs.Lists.{prefix_size}
use Rattle.lr_copy.specs.declared.job.Job.{Job}
use Rattle.lr_copy.specs.Fits.{ArePaths}
use Rattle.lr_laws.proofs.DurableExamples.{start}
use Rattle.lr_laws_family.specs.Whole.{IsCopyWhole}
use Rattle.lr_laws_family.specs.CopiesWorked.{job}
use Rattle.lr_laws_family.proofs.CopiesExamples.{entries, made, named, paths}
use Rattle.lr_laws_acts.specs.Emptied.{IsJobIn, EmptiesCopied, EmptiesWhole}
use Rattle.lr_laws_acts.specs.EmptiedWorked.{behind, copied_first, at_once}
use Rattle.lr_laws_acts.proofs.Entries.{copied_then_cut}
use Rattle.lr_laws_acts.proofs.CopiesWhole.{empties_whole}

-- ---- behind its copy

pub copied_left : Left (EmptiesCopied (IsJobIn (job ∷ []))) (Some (behind [])) (Some (behind copied_first))
copied_left = is_told (by_tool made tt (0, refl)) (copied_then_cut (IsJobIn (job ∷ [])) job 1 (reverse entries) (inl refl) refl named (tt, (tt, (tt, (tt, (tt, (tt, (tt, tt))))))))

pub copied_whole : EmptiesWhole (IsJobIn (job ∷ [])) (Some (behind [])) (Some (behind copied_first))
copied_whole = empties_whole (IsJobIn (job ∷ [])) (λ j i. ⊎_elim (λ same. subst ArePaths same paths) (λ none. absurd none) i) copied_left

-- ---- at once

pub once_journal : IsJournal (past (behind at_once))
once_journal = (found_valid, (0, refl))

pub once_lost : (jobs : List Job) → EmptiesWhole (IsJobIn jobs) (Some (behind [])) (Some (behind at_once)) → ⊥
once_lost jobs h = let c = h found_valid start log all_of all_of in never c.job (c.whole from_here)
  where
    never : (j : Job) → IsCopyWhole log j.to start start → ⊥
    never j w = let a = prefix_size start w.last w.since in let b = prefix_size _ start w.read in omega (arith, a, b)
