-- The paths that a log's rotation takes and gives are members', and the part file of its copy is none.
use Rattle.std.proofs.Common.{◌≡◌, ◌≢◌, inl, inr, sym, ap, ◌∙◌, subst, List, [], ◌∷◌, Some}
use Rattle.std.specs.Prelude.{All}
use Rattle.std.specs.List.{flat_map, AllByRecursion}
use Rattle.std.proofs.lemmas.List.Elements.{All-head, All-tail}
use Rattle.lr_rules.specs.declared.clock.Clock.{Clock}
use Rattle.lr_rules.specs.declared.path.Path.{Path}
use Rattle.lr_rules.specs.declared.rule.Naming.{Naming}
use Rattle.lr_rules.specs.declared.rules.Rules.{Rules}
use Rattle.lr_rules.specs.Names.{IsOwnName, Meet}
use Rattle.lr_rules.proofs.Beside.{beside_other}
use Rattle.lr_host.specs.declared.entry.Entry.{Entry}
use Rattle.lr_host.specs.Lists.{IsIn}
use Rattle.lr_family.specs.Parts.{part_of, IsMember, IsMembersPart}
use Rattle.lr_scripts.specs.declared.removal.Removal.{Removal}
use Rattle.lr_copy.specs.declared.job.Job.{Job}
use Rattle.lr_chain.specs.declared.ready.Move.{Move}
use Rattle.lr_laws_rotations.specs.Apart.{HasNames}
use Rattle.lr_laws_rotations.specs.Rotation.{removal_paths}
use Rattle.lr_laws_rotations.specs.Seen.{IsLogSeen}
use Rattle.lr_laws_rotations.specs.Target.{Target, source_of, HasWay, HasDir, TargetHasJob}
use Rattle.lr_laws_rotations.proofs.LogSeen.{any_names}
use Rattle.lr_laws_rotations.proofs.Own.{named_own, target_member}
use Rattle.lr_laws_rotations.proofs.PartFile.{part_no_member}
use Rattle.lr_laws_rotations.proofs.Plan.{plan_is_one}
use Rattle.lr_laws_rotations.proofs.Way.{aside_is, first_own, aside_own, source_apart}
use Rattle.lr_plan.specs.declared.plan.SetPlan.{SetPlan}
use Rattle.lr_laws_acts.specs.Fitting.{NoneMeets}
use Rattle.lr_laws_acts.specs.Planned.{AreReadyFor, HaveLogs}
use Rattle.lr_laws_looks.proofs.Ready.{ready_both}

-- each of these removals is of a member
abbrev pub AreOfMembers : Naming → List Removal → Type 0
AreOfMembers n rs = AllByRecursion (λ (r : Removal). IsMember n r.path) rs

-- each of these moves gives a member's path
abbrev pub GiveMembers : Naming → List Move → Type 0
GiveMembers n ms = AllByRecursion (λ (m : Move). IsMember n m.to) ms

-- each of them takes one
abbrev pub TakeMembers : Naming → List Move → Type 0
TakeMembers n ms = AllByRecursion (λ (m : Move). IsMember n m.from) ms

-- The file of the log stands at a path of its own on its way. The removals of the rotation are of members, its moves take members' paths and give them, and the log comes to one; so does its copy, where it is copied. The part file of that path is no member, nor is the log. The directory that is made, if any, is that of the family, and no other name of it.
pub record HasMembers (t : Target) : Type 0 where
  pub way : HasWay t
  pub first_own : IsOwnName t.log t.naming t.ready.log
  pub waits_own : (path : Path) → t.aside ≡ Some path → IsOwnName t.log t.naming path
  pub leftovers : AreOfMembers t.naming t.ready.leftovers
  pub moves : GiveMembers t.naming t.ready.moves
  pub taken : TakeMembers t.naming t.ready.moves
  pub target : IsMember t.naming t.ready.target
  pub retire : AreOfMembers t.naming t.ready.retire
  pub dir : HasDir t
  pub job : TargetHasJob t
  pub apart : IsMember t.naming (part_of t.ready.target) → ⊥
  pub no_log : IsMember t.naming t.log → ⊥
  pub no_source : IsMember t.naming (source_of t) → ⊥
  pub no_part : part_of t.ready.target ≢ t.log

-- of each of these logs
abbrev pub HaveMembers : List Target → Type 0
HaveMembers ts = (t : Target) → IsIn t ts → HasMembers t

-- ---- the part file of a copy

module _ (t : Target) (h : HasMembers t) (job : Job) (is : t.job ≡ Some job) where
  pub job_to : job.to ≡ t.ready.target
  job_to = (h.job job is).to_is

  pub job_part : job.part ≡ part_of t.ready.target
  job_part = (h.job job is).part_is ∙ ap part_of job_to

  -- it is that of a member
  pub part_is_members : IsMembersPart t.naming job.part
  part_is_members = (t.ready.target, h.target, job_part)

  -- so it is a name of the log
  pub part_own : IsOwnName t.log t.naming job.part
  part_own = named_own t.log t.naming job.part (inr (inr (inl part_is_members)))

  -- and not the log's path
  pub part_no_log : job.part ≢ t.log
  part_no_log e = h.no_part (sym job_part ∙ e)

-- where the log is set aside, it waits at another path than its own
pub waits_no_log : (t : Target) → HasMembers t → (path : Path) → t.aside ≡ Some path → path ≢ t.log
waits_no_log t h path is e = beside_other t.log (sym e ∙ (aside_is t path h.way is).1)

-- ---- the rotation of a log

-- the removals of these paths
of_paths : (n : Naming) (rs : List Removal) → All (IsMember n) (removal_paths rs) → AreOfMembers n rs
of_paths n [] a = tt
of_paths n (r ∷ rs) a = (All-head (IsMember n) r.path (removal_paths rs) a, of_paths n rs (All-tail (IsMember n) r.path (removal_paths rs) a))

abbrev MovesMember : Naming → Move → Type 0
MovesMember n m = IsMember n m.from × IsMember n m.to

give : (n : Naming) (ms : List Move) → All (MovesMember n) ms → GiveMembers n ms
give n [] a = tt
give n (m ∷ ms) a = ((All-head (MovesMember n) m ms a).1, give n ms (All-tail (MovesMember n) m ms a))

take : (n : Naming) (ms : List Move) → All (MovesMember n) ms → TakeMembers n ms
take n [] a = tt
take n (m ∷ ms) a = ((All-head (MovesMember n) m ms a).0, take n ms (All-tail (MovesMember n) m ms a))

pub has_members : (t : Target) → HasNames t → HasMembers t
has_members t h =
    let paths = (plan_is_one t h).members in
    record {
      way = h.way;
      first_own = named_own t.log t.naming t.ready.log (first_own t h);
      waits_own = λ path is. named_own t.log t.naming path (aside_own t h path is);
      no_source = source_apart t h;
      no_part = h.parts t.ready.target (target_member t h);
      leftovers = of_paths t.naming t.ready.leftovers paths.early;
      moves = give t.naming t.ready.moves paths.moves;
      taken = take t.naming t.ready.moves paths.moves;
      target = target_member t h;
      retire = of_paths t.naming t.ready.retire paths.gone;
      dir = h.dir;
      job = h.job;
      apart = part_no_member t.log t.naming h.family t.ready.target (target_member t h);
      no_log = h.family.apart;
    }

-- so it is where the log was seen
pub seen_members : (rules : Rules) (clock : Clock) (looks : List Entry) (t : Target) → IsLogSeen rules clock looks t → HasMembers t
seen_members rules clock looks t l = has_members t (any_names rules clock looks t l)

-- ---- the logs of a plan

pub meets_none : (t u : Target) (ts : List Target) → NoneMeets t ts → IsIn u ts → Meet u.log u.naming t.log t.naming → ⊥
meets_none t u [] n i = absurd i
meets_none t u (v ∷ ts) n (inl same) = subst (λ (w : Target). Meet w.log w.naming t.log t.naming → ⊥) same n.0
meets_none t u (v ∷ ts) n (inr i) = meets_none t u ts n.1 i

pub all_ready : (groups : List (List Target)) (sets : List SetPlan) → HaveLogs groups sets → AreReadyFor (flat_map (λ ts. ts) groups) (flat_map (λ (set : SetPlan). set.logs) sets)
all_ready [] [] h = tt
all_ready [] (set ∷ sets) h = absurd h
all_ready (ts ∷ groups) [] h = absurd h
all_ready (ts ∷ groups) (set ∷ sets) h = ready_both ts (flat_map (λ us. us) groups) set.logs (flat_map (λ (s : SetPlan). s.logs) sets) h.0 (all_ready groups sets h.1)
