-- What a log's rotation changes are names of its own family, the directory that it makes among them.
use Rattle.std.proofs.Common.{◌≡◌, ◌⊎◌, ◌+◌, inl, inr, ⊎_elim, Bool, true, false, cond, refl, sym, ◌∙◌, subst, List, [], ◌∷◌, ◌++◌, map, Option, Some, None}
use Rattle.std.specs.Prelude.{All}
use Rattle.std.proofs.lemmas.List.Elements.{All-head, All-tail}
use Rattle.lr_rules.specs.declared.path.Path.{Path}
use Rattle.lr_rules.specs.declared.rule.Naming.{Naming}
use Rattle.lr_rules.specs.Names.{IsOwnName, the_log, a_part, set_aside}
use Rattle.lr_stamps.proofs.StampShapes.{dated_shape}
use Rattle.lr_host.specs.declared.entry.Entry.{Entry}
use Rattle.lr_host.specs.declared.entry.Entry.TheVariants as entry
use Rattle.lr_host.specs.declared.entry.Entry.TheVariants.{Renames, Unlinks}
use Rattle.lr_host.specs.Lists.{IsIn}
use Rattle.lr_host.specs.Told.{Each}
use Rattle.lr_host.proofs.Each.{each_append, each_as}
use Rattle.lr_family.specs.Named.{member_name}
use Rattle.lr_family.specs.Parts.{part_of, IsMember}
use Rattle.lr_family.proofs.Names.{member_own}
use Rattle.lr_scripts.specs.declared.removal.Removal.{Removal}
use Rattle.lr_copy.specs.declared.job.Job.{Job}
use Rattle.lr_copy.specs.Copying.{clearing}
use Rattle.lr_chain.specs.declared.ready.Move.{Move}
use Rattle.lr_chain.specs.Ready.{move_step}
use Rattle.lr_laws_family.specs.Rotation.{IsOfMembers}
use Rattle.lr_laws_family.proofs.Weaving.{each_in}
use Rattle.lr_laws_rotations.proofs.Outside.{place_shape}
use Rattle.lr_laws_rotations.specs.Steps.{unlinks}
use Rattle.lr_laws_rotations.specs.AllTurns.{IsPartFile, AlsoDoes, IsOf}
use Rattle.lr_laws_rotations.specs.Apart.{HasNames}
use Rattle.lr_laws_rotations.specs.Own.{IsOfFamily, ChangesOfFamily, ChangesOwn, ChangesNames, MakesItsDir}
use Rattle.lr_laws_rotations.specs.Rotation.{removal_paths, rotation_by}
use Rattle.lr_laws_rotations.specs.Target.{Target, HasDir, transfer_of, target_entries}
use Rattle.lr_laws_rotations.proofs.PartFile.{part_joined, job_part}
use Rattle.lr_laws_rotations.proofs.Plan.{plan_is_one}
use Rattle.lr_laws_rotations.proofs.Way.{first_own, aside_own}
use Rattle.lr_laws_rotations.proofs.Rotating.{each_part}
use Rattle.lr_laws_family.proofs.Core.{newest_own}

-- ---- members and their part files

-- and so is its part file
part_own : (log : Path) (n : Naming) (x member : Path) → IsMember n member → x ≡ part_of member → IsOwnName log n x
part_own log n x member (inl m) is = a_part (member_name n (n.start + m.1.0)) (place_shape n m.1.0 m.0 m.1.1.bound) (is ∙ part_joined n.dir (member_name n (n.start + m.1.0)) member m.1.1.named)
part_own log n x member (inr d) is = let h = dated_shape n d.0 d.1 member d.2 in a_part h.0 h.1 (is ∙ part_joined n.dir h.0 member h.2)

pub named_own : (log : Path) (n : Naming) (x : Path) → IsOfFamily log n x → IsOwnName log n x
named_own log n x (inl is) = the_log is
named_own log n x (inr (inl m)) = member_own log n x m
named_own log n x (inr (inr (inl (member, m, is)))) = part_own log n x member m is
named_own log n x (inr (inr (inr (asked, is)))) = set_aside asked is

changes_own : (log : Path) (n : Naming) (e : Entry) → ChangesOfFamily log n e → ChangesOwn log n e
changes_own log n e h x i = named_own log n x (h x i)

-- ---- entries on such names

module _ (log : Path) (n : Naming) where
  rename_of : (from to : Path) → IsOfFamily log n from → IsOfFamily log n to → ChangesOfFamily log n (Renames from to)
  rename_of from to a b x (inl is) = subst (IsOfFamily log n) is a
  rename_of from to a b x (inr (inl is)) = subst (IsOfFamily log n) is b
  rename_of from to a b x (inr (inr none)) = absurd none

  -- what changes one path
  one_of : (y : Path) → IsOfFamily log n y → (x : Path) → IsIn x (y ∷ []) → IsOfFamily log n x
  one_of y a x (inl is) = subst (IsOfFamily log n) is a
  one_of y a x (inr none) = absurd none

  unlinks_of : (rs : List Removal) → All (IsMember n) (removal_paths rs) → Each (ChangesOfFamily log n) (unlinks rs)
  unlinks_of [] h = tt
  unlinks_of (r ∷ rs) h = (one_of r.path (inr (inl (All-head (IsMember n) r.path (removal_paths rs) h))), unlinks_of rs (All-tail (IsMember n) r.path (removal_paths rs) h))

  abbrev MovesMember : Move → Type 0
  MovesMember m = IsMember n m.from × IsMember n m.to

  moves_of : (ms : List Move) → All MovesMember ms → Each (ChangesOfFamily log n) (map move_step ms)
  moves_of [] h = tt
  moves_of (m ∷ ms) h = (let both = All-head MovesMember m ms h in rename_of m.from m.to (inr (inl both.0)) (inr (inl both.1)), moves_of ms (All-tail MovesMember m ms h))

  -- the transfer of a copy, and what follows
  moved_of : (job : Job) (rest : List Entry) → IsOfFamily log n job.part → IsOfFamily log n job.to → Each (ChangesOfFamily log n) rest → Each (ChangesOfFamily log n) (clearing job ++ Renames job.part job.to ∷ rest)
  moved_of job rest a b c = each_append (ChangesOfFamily log n) (clearing job) (Renames job.part job.to ∷ rest) (cleared job.stale) (rename_of job.part job.to a b, c)
    where
      cleared : (b : Bool) → Each (ChangesOfFamily log n) (cond b (Unlinks job.part ∷ []) [])
      cleared true = (one_of job.part a, tt)
      cleared false = tt

-- ---- all that is done to a log

module _ (t : Target) (h : HasNames t) where
  -- its rotation is of members
  pub family_members : IsOfMembers t.naming (rotation_by t)
  family_members = (plan_is_one t h).members

  -- the log comes to a member's path
  pub target_member : IsMember t.naming t.ready.target
  target_member = newest_own t.naming t.stand.members t.ready.target family_members.target

  to_member : (job : Job) → t.job ≡ Some job → IsMember t.naming job.to
  to_member job is = subst (IsMember t.naming) (sym (h.job job is).to_is) target_member

  part_of_member : (job : Job) → t.job ≡ Some job → IsOfFamily t.log t.naming job.part
  part_of_member job is = inr (inr (inl (t.ready.target, target_member, job_part t job h.family target_member (h.job job is))))

  transfer_of_family : (j : Option Job) (a : Option Path) → t.job ≡ j → t.aside ≡ a → Each (ChangesOfFamily t.log t.naming) (transfer_of t.ready j a)
  transfer_of_family None a is aside = (rename_of t.log t.naming t.ready.log t.ready.target (first_own t h) (inr (inl target_member)), tt)
  transfer_of_family (Some job) None is aside = moved_of t.log t.naming job [] (part_of_member job is) (inr (inl (to_member job is))) tt
  transfer_of_family (Some job) (Some path) is aside =
      let beside = aside_own t h path aside in (
        rename_of t.log t.naming t.ready.log path (first_own t h) beside,
        moved_of t.log t.naming job (Unlinks path ∷ []) (part_of_member job is) (inr (inl (to_member job is))) (one_of t.log t.naming path beside, tt),
      )

  -- each rename and unlink of the rotation is on the log, members and their part files
  turns_of_family : Each (ChangesOfFamily t.log t.naming) (target_entries t)
  turns_of_family = each_part (ChangesOfFamily t.log t.naming) t (unlinks_of t.log t.naming t.ready.leftovers family_members.early) (moves_of t.log t.naming t.ready.moves family_members.moves) (transfer_of_family t.job t.aside refl refl) (unlinks_of t.log t.naming t.ready.retire family_members.gone)

  pub own_paths : Each (ChangesOwn t.log t.naming) (target_entries t)
  own_paths = each_as (ChangesOfFamily t.log t.naming) (ChangesOwn t.log t.naming) (target_entries t) (λ e own. changes_own t.log t.naming e own) turns_of_family

  -- the part file of its copy
  part_file_of : (y : Path) → IsPartFile t y → IsOfFamily t.log t.naming y
  part_file_of y p = subst (IsOfFamily t.log t.naming) (sym p.2) (part_of_member p.0 p.1)

  pub part_file_own : (job : Job) → t.job ≡ Some job → IsOwnName t.log t.naming job.part
  part_file_own job is = named_own t.log t.naming job.part (part_of_member job is)

  also_of : (e : Entry) → AlsoDoes t e → ChangesOfFamily t.log t.naming e ⊎ MakesItsDir t e
  also_of (entry.MakesDir y mode) d = inr d
  also_of (entry.Makes y mode) (inl is) = inl (one_of t.log t.naming y (inl is))
  also_of (entry.Makes y mode) (inr p) = inl (one_of t.log t.naming y (part_file_of y p))
  also_of (entry.Appends y bytes) p = inl (one_of t.log t.naming y (part_file_of y p))
  also_of (entry.Truncates y) p = inl (one_of t.log t.naming y (inl p.1))
  also_of _ none = absurd none

-- it is on those names, or makes the family's directory
pub family_change : (t : Target) (e : Entry) → HasNames t → IsOf t e → ChangesOfFamily t.log t.naming e ⊎ MakesItsDir t e
family_change t e h (inl i) = inl (each_in (ChangesOfFamily t.log t.naming) (target_entries t) e (turns_of_family t h) i)
family_change t e h (inr also) = also_of t h e also

pub own_or_makes : (t : Target) (e : Entry) → HasNames t → IsOf t e → ChangesOwn t.log t.naming e ⊎ MakesItsDir t e
own_or_makes t e h i = ⊎_elim (λ own. inl (changes_own t.log t.naming e own)) (λ d. inr d) (family_change t e h i)

-- the directory is a name of the set
its_dir : (t : Target) (e : Entry) → HasDir t → MakesItsDir t e → ChangesNames t.log t.naming e
its_dir t (entry.MakesDir y mode) h d x (inl same) = inr (sym same ∙ (h y d.0 d.1).0)
its_dir t (entry.MakesDir y mode) h d x (inr none) = absurd none
its_dir t _ h none x i = absurd none

-- so all that is done to a log is on names of its set
pub any_change : (t : Target) (e : Entry) → HasNames t → IsOf t e → ChangesNames t.log t.naming e
any_change t e h i = ⊎_elim (λ own x j. inl (own x j)) (λ d. its_dir t e h.dir d) (own_or_makes t e h i)
