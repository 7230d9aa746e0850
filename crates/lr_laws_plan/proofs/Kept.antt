-- What the choice among logs is told of ends no run: those that are kept have no name that the run reserves for itself.
use Rattle.std.proofs.Common.{inl, inr, Bool, true, false, cond, List, [], ◌∷◌, ◌++◌, Option, Some, None, slice_get, refl, sym}
use Rattle.std.specs.List.{flat_map, AllByRecursion}
use Rattle.lr_rules.specs.declared.fault.Fault.TheVariants as fault
use Rattle.lr_rules.specs.declared.path.Path.{Path}
use Rattle.lr_rules.specs.Names.{the_log, IsName}
use Rattle.lr_host.specs.Listing.{is_file_kind}
use Rattle.lr_kept.specs.declared.choice.Choice.{Choice}
use Rattle.lr_kept.specs.declared.choice.Choice.TheVariants.{Kept, Again, MemberOf, Reserved, Meets}
use Rattle.lr_looks.specs.Choices.{duplicate, overlap, barred, choice_fault, choice_faults, kind_fault, where_file}
use Rattle.lr_looks.specs.Found.{FoundLog, Hold}
use Rattle.lr_looks.specs.Reserved.{reserved_by}
use Rattle.lr_laws_looks.proofs.Free.{IsFreeLog}
use Rattle.lr_laws_plan.specs.Ending.{EndsRun, NoneEnds}
use Rattle.lr_laws_plan.proofs.Ends.{none_both}

-- ---- the logs that are kept

where_files : (P : FoundLog → Type 0) (f : FoundLog) (fs : List FoundLog) → P f → Hold P fs → Hold P (where_file f ++ fs)
where_files P f fs h hs = go (is_file_kind f.seen.kind)
  where
    go : (b : Bool) → Hold P (cond b (f ∷ []) [] ++ fs)
    go true = (h, hs)
    go false = hs

-- so of the regular files among them
pub files_hold : (P : FoundLog → Type 0) (fs : List FoundLog) → AllByRecursion P fs → Hold P (flat_map where_file fs)
files_hold P [] h = tt
files_hold P (f ∷ fs) h = where_files P f (flat_map where_file fs) h.0 (files_hold P fs h.1)

-- ---- faults

-- a name of such a log isn't that of the state or of its part file
pub free_ends : (state : Path) (f : FoundLog) (path : Path) → IsFreeLog (reserved_by state) f → IsName f.log.path f.log.naming path → EndsRun state (fault.NotFile path) → ⊥
free_ends state f path free named (inl e) = free path (inl (sym e)) named
free_ends state f path free named (inr e) = free path (inr (inl (sym e))) named

duplicate_none : (state : Path) (f : FoundLog) (o : Option FoundLog) → NoneEnds state (duplicate f o)
duplicate_none state f None = tt
duplicate_none state f (Some first) = go first.log.ignore
  where
    go : (b : Bool) → NoneEnds state (cond b [] (fault.Duplicate f.log.path ∷ []))
    go true = tt
    go false = ((λ e. e), tt)

overlap_none : (state : Path) (f : FoundLog) (o : Option FoundLog) → NoneEnds state (overlap f o)
overlap_none state f None = tt
overlap_none state f (Some other) = ((λ e. e), tt)

barred_none : (state : Path) (f : FoundLog) (o : Option Path) → NoneEnds state (barred f o)
barred_none state f None = tt
barred_none state f (Some path) = ((λ e. e), tt)

choice_none : (state : Path) (reserved : List Path) (all : List FoundLog) (f : FoundLog) (c : Choice) → NoneEnds state (choice_fault reserved all f c)
choice_none state reserved all f Kept = tt
choice_none state reserved all f (Again i) = duplicate_none state f (slice_get all i)
choice_none state reserved all f (MemberOf i) = tt
choice_none state reserved all f (Reserved i) = barred_none state f (slice_get reserved i)
choice_none state reserved all f (Meets i) = overlap_none state f (slice_get all i)

pub choices_none : (state : Path) (reserved : List Path) (all fs : List FoundLog) (cs : List Choice) → NoneEnds state (choice_faults reserved all fs cs)
choices_none state reserved all [] [] = tt
choices_none state reserved all [] (c ∷ cs) = tt
choices_none state reserved all (f ∷ fs) [] = tt
choices_none state reserved all (f ∷ fs) (c ∷ cs) = none_both state (choice_fault reserved all f c) (choice_faults reserved all fs cs) (choice_none state reserved all f c) (choices_none state reserved all fs cs)

kind_none : (state : Path) (f : FoundLog) → IsFreeLog (reserved_by state) f → NoneEnds state (kind_fault f)
kind_none state f free = go (is_file_kind f.seen.kind)
  where
    go : (b : Bool) → NoneEnds state (cond b [] (fault.NotFile f.log.path ∷ []))
    go true = tt
    go false = (free_ends state f f.log.path free (inl (the_log refl)), tt)

pub kinds_none : (state : Path) (fs : List FoundLog) → AllByRecursion (IsFreeLog (reserved_by state)) fs → NoneEnds state (flat_map kind_fault fs)
kinds_none state [] h = tt
kinds_none state (f ∷ fs) h = none_both state (kind_fault f) (flat_map kind_fault fs) (kind_none state f h.0) (kinds_none state fs h.1)
