-- Of the logs that a plan rotates no two have the same path, and no two meet.
use Rattle.std.proofs.Common.{◌≡◌, ◌≢◌, ⊎_elim, ℕ, suc, ◌+◌, ◌<◌, ◌≤◌, Bool, true, false, cond, eqb, List, [], ◌∷◌, map, Some, slice_get, refl, sym, ap, ◌∙◌, subst, arith}
use Rattle.std.specs.Borrow.{Bor}
use Rattle.std.specs.List.{flat_map, AllByRecursion}
use Rattle.lr_rules.specs.declared.clock.Clock.{Clock}
use Rattle.lr_rules.specs.declared.fault.Fault.{Fault}
use Rattle.lr_rules.specs.declared.path.Path.{Path}
use Rattle.lr_rules.specs.declared.rule.Naming.{Naming}
use Rattle.lr_rules.specs.declared.rule.Rule.{Rule}
use Rattle.lr_rules.specs.Names.{Meet}
use Rattle.lr_due.specs.declared.answer.Due.{Due}
use Rattle.lr_due.specs.declared.answer.Due.TheVariants as due
use Rattle.lr_host.specs.declared.entry.Entry.{Entry}
use Rattle.lr_host.specs.Listing.{is_file_kind}
use Rattle.lr_host.specs.Lists.{IsIn}
use Rattle.lr_family.specs.declared.family.Family.{Family}
use Rattle.lr_kept.specs.declared.choice.Choice.{Choice}
use Rattle.lr_kept.specs.declared.choice.Choice.TheVariants.{Kept, Again, MemberOf, Reserved, Meets}
use Rattle.lr_kept.specs.Chosen.{IsLogKept}
use Rattle.lr_kept.proofs.Finding.{meet_back}
use Rattle.lr_plan.specs.declared.looks.LogLook.{LogLook}
use Rattle.lr_plan.specs.declared.looks.SetLooks.{SetLooks}
use Rattle.lr_plan.specs.Planned.{hindrances, where_due}
use Rattle.lr_looks.specs.Choices.{chosen_names, found_names, is_wild, IsChoiceAmong, kept_of, where_file}
use Rattle.lr_looks.specs.Families.{FamilySight, Stood, Stopped, LookedLog, looked_at, looked_of}
use Rattle.lr_looks.specs.Found.{FoundLog}
use Rattle.lr_looks.specs.Sets.{where_in, of_set, looked_in, HaveLooksFrom}
use Rattle.lr_looks.specs.Shown.{ShowsLooks}
use Rattle.lr_laws_rotations.specs.Target.{Target}
use Rattle.lr_laws_acts.specs.Fitting.{NoneMeets, DontMeet}
use Rattle.lr_laws_acts.specs.Planned.{NoneHas, LogsDiffer}
use Rattle.lr_laws_looks.specs.Targets.{target_of, where_free, targets_of, all_targets}
use Rattle.lr_laws_looks.proofs.Elements.{map_at, unmap_at, each_in, in_each, Pairs, pairs_both, pairs_unmap, pairs_flat, pairs_two}
use Rattle.lr_laws_looks.proofs.Coming.{in_due, in_free, Comes, comes_from, of_look, was_looked, in_where, in_looked, in_file}

-- ---- two logs that are apart

-- the paths differ, and the names don't meet, either way round
abbrev pub Off : Path → Naming → Path → Naming → Type 0
Off p n q m = (p ≢ q) × (Meet p n q m → ⊥) × (Meet q m p n → ⊥)

off_back : (p : Path) (n : Naming) (q : Path) (m : Naming) → Off p n q m → Off q m p n
off_back p n q m h = (λ e. h.0 (sym e), h.2, h.1)

abbrev pub OffFound : FoundLog → FoundLog → Type 0
OffFound f g = Off f.log.path f.log.naming g.log.path g.log.naming

abbrev pub OffLooked : LookedLog → LookedLog → Type 0
OffLooked x y = Off x.path x.naming y.path y.naming

abbrev OffTarget : Target → Target → Type 0
OffTarget t u = Off t.log t.naming u.log u.naming

-- ---- the logs that are kept

-- of these logs those that are kept are apart
abbrev AreOff : List FoundLog → List Choice → Type 0
AreOff found choices = (i k : ℕ) (f g : FoundLog) → i < k → slice_get found i ≡ Some f → slice_get found k ≡ Some g → slice_get choices i ≡ Some Kept → slice_get choices k ≡ Some Kept → OffFound f g

abbrev MeetNamed : (Path × Naming) → (Path × Naming) → Type 0
MeetNamed a b = Meet a.0 a.1 b.0 b.1

-- each log that is kept is apart from those that are kept before it, whichever of the two is named first
choice_off : {reserved : List Path} (found : List FoundLog) (choices : List Choice) → IsChoiceAmong reserved found choices → AreOff found choices
choice_off {reserved} found choices c i k f g lt at_f at_g kept_f kept_g = (
  λ e. kept.new i lt (record { one = one.0; other = other.0; at_one = one.1; at_other = other.1; holds = ap (λ (p : Path × Naming). p.0) one.2 ∙ (e ∙ sym (ap (λ (p : Path × Naming). p.0) other.2)) }),
  met,
  λ m. met (meet_again m),
)
  where
    one : (b : Bor Family) × (slice_get c.logs i ≡ Some b) × (chosen_names b ≡ found_names f)
    one = unmap_at chosen_names c.logs i (found_names f) (ap (λ (xs : List (Path × Naming)). slice_get xs i) c.same ∙ map_at found_names found i f at_f)

    other : (b : Bor Family) × (slice_get c.logs k ≡ Some b) × (chosen_names b ≡ found_names g)
    other = unmap_at chosen_names c.logs k (found_names g) (ap (λ (xs : List (Path × Naming)). slice_get xs k) c.same ∙ map_at found_names found k g at_g)

    kept : IsLogKept c.logs (map is_wild found) reserved choices k
    kept = c.chosen.each k Kept kept_g

    met : Meet f.log.path f.log.naming g.log.path g.log.naming → ⊥
    met m = kept.apart i lt kept_f (record {
      one = one.0;
      other = other.0;
      at_one = one.1;
      at_other = other.1;
      holds = subst (λ (p : Path × Naming). MeetNamed p (chosen_names other.0)) (sym one.2) (subst (λ (p : Path × Naming). MeetNamed (found_names f) p) (sym other.2) m);
    })

    meet_again : Meet g.log.path g.log.naming f.log.path f.log.naming → Meet f.log.path f.log.naming g.log.path g.log.naming
    meet_again m = subst (λ (p : Path × Naming). MeetNamed p (found_names g)) one.2 (subst (λ (p : Path × Naming). MeetNamed (chosen_names one.0) p) other.2
        (meet_back other.0.now one.0.now (subst (λ (p : Path × Naming). MeetNamed p (chosen_names one.0)) (sym other.2) (subst (λ (p : Path × Naming). MeetNamed (found_names g) p) (sym one.2) m))))

-- what holds of each log at a kept place holds of each that is kept
pub kept_each : (P : FoundLog → Type 0) (fs : List FoundLog) (cs : List Choice) → ((k : ℕ) (g : FoundLog) → slice_get fs k ≡ Some g → slice_get cs k ≡ Some Kept → P g) → AllByRecursion P (kept_of fs cs)
kept_each P [] [] h = tt
kept_each P [] (c ∷ cs) h = tt
kept_each P (f ∷ fs) [] h = tt
kept_each P (f ∷ fs) (Kept ∷ cs) h = (h 0 f refl refl, kept_each P fs cs (λ k g. h (suc k) g))
kept_each P (f ∷ fs) (Again i ∷ cs) h = kept_each P fs cs (λ k g. h (suc k) g)
kept_each P (f ∷ fs) (MemberOf i ∷ cs) h = kept_each P fs cs (λ k g. h (suc k) g)
kept_each P (f ∷ fs) (Reserved i ∷ cs) h = kept_each P fs cs (λ k g. h (suc k) g)
kept_each P (f ∷ fs) (Meets i ∷ cs) h = kept_each P fs cs (λ k g. h (suc k) g)

-- a log that is kept stands at such a place
pub kept_at : (fs : List FoundLog) (cs : List Choice) (g : FoundLog) → IsIn g (kept_of fs cs) → (k : ℕ) × (slice_get fs k ≡ Some g) × (slice_get cs k ≡ Some Kept)
kept_at fs cs g i = in_each (λ (f : FoundLog). (k : ℕ) × (slice_get fs k ≡ Some f) × (slice_get cs k ≡ Some Kept)) (kept_of fs cs) g (kept_each (λ (f : FoundLog). (k : ℕ) × (slice_get fs k ≡ Some f) × (slice_get cs k ≡ Some Kept)) fs cs (λ k f at kept. (k, at, kept))) i

kept_pairs : (fs : List FoundLog) (cs : List Choice) → AreOff fs cs → Pairs OffFound (kept_of fs cs)
kept_pairs [] [] h = tt
kept_pairs [] (c ∷ cs) h = tt
kept_pairs (f ∷ fs) [] h = tt
kept_pairs (f ∷ fs) (Kept ∷ cs) h = (kept_each (OffFound f) fs cs (λ k g at is. h 0 (suc k) f g (omega arith) refl at refl is), kept_pairs fs cs (λ i k a b lt. h (suc i) (suc k) a b (omega arith)))
kept_pairs (f ∷ fs) (Again j ∷ cs) h = kept_pairs fs cs (λ i k a b lt. h (suc i) (suc k) a b (omega arith))
kept_pairs (f ∷ fs) (MemberOf j ∷ cs) h = kept_pairs fs cs (λ i k a b lt. h (suc i) (suc k) a b (omega arith))
kept_pairs (f ∷ fs) (Reserved j ∷ cs) h = kept_pairs fs cs (λ i k a b lt. h (suc i) (suc k) a b (omega arith))
kept_pairs (f ∷ fs) (Meets j ∷ cs) h = kept_pairs fs cs (λ i k a b lt. h (suc i) (suc k) a b (omega arith))

-- the regular files among them
files_pairs : (fs : List FoundLog) → Pairs OffFound fs → Pairs OffFound (flat_map where_file fs)
files_pairs fs p = pairs_flat OffFound OffFound where_file fs (λ f. alone f (is_file_kind f.seen.kind))
    (λ f g a b h i j. subst (λ (x : FoundLog). OffFound x b) (in_file f a i).0 (subst (λ (x : FoundLog). OffFound f x) (in_file g b j).0 h)) p
  where
    alone : (f : FoundLog) (b : Bool) → Pairs OffFound (cond b (f ∷ []) [])
    alone f true = (tt, tt)
    alone f false = tt

-- ---- the logs that were looked at whole

pub looked_pairs : (fs : List FoundLog) (ss : List FamilySight) → Pairs OffFound fs → Pairs OffLooked (looked_of fs ss)
looked_pairs [] [] p = tt
looked_pairs [] (s ∷ ss) p = tt
looked_pairs (f ∷ fs) [] p = tt
looked_pairs (f ∷ fs) (Stopped why ∷ ss) p = looked_pairs fs ss p.1
looked_pairs (f ∷ fs) (Stood stand tmp ∷ ss) p = (
  each_in (OffLooked (looked_at f stand tmp)) (looked_of fs ss) (λ x i. let r = in_looked fs ss x i in subst (λ (y : LookedLog). OffLooked (looked_at f stand tmp) y) (sym r.2.1) (in_each (OffFound f) fs r.0 p.0 r.1)),
  looked_pairs fs ss p.1,
)

-- those of one definition
set_pairs : (k : ℕ) (logs : List LookedLog) → Pairs OffLooked logs → Pairs OffLooked (of_set k logs)
set_pairs k logs p = pairs_flat OffLooked OffLooked (where_in k) logs (λ x. alone x (eqb k x.set))
    (λ x y a b h i j. subst (λ (z : LookedLog). OffLooked z b) (in_where k x a i) (subst (λ (z : LookedLog). OffLooked x z) (in_where k y b j) h)) p
  where
    alone : (x : LookedLog) (b : Bool) → Pairs OffLooked (cond b (x ∷ []) [])
    alone x true = (tt, tt)
    alone x false = tt

-- ---- the targets of one definition

one_alone : (d : Due) (fs : List Fault) (t : Target) → Pairs OffTarget (where_due d (where_free fs t))
one_alone (due.Yes why) [] t = (tt, tt)
one_alone (due.Yes why) (f ∷ fs) t = tt
one_alone (due.No why) fs t = tt

targets_pairs : (clock : Clock) (k : ℕ) (rule : Rule) (decide : LogLook → Due) (looks : List LogLook) (logs : List LookedLog) → map (looked_in k) looks ≡ of_set k logs → Pairs OffLooked logs → Pairs OffTarget (targets_of clock rule decide looks)
targets_pairs clock k rule decide looks logs same p =
    pairs_flat (λ (a b : LogLook). OffLooked (looked_in k a) (looked_in k b)) OffTarget from_look looks (λ look. one_alone (decide look) (hindrances clock rule look) (target_of clock rule look)) cross
    (pairs_unmap OffLooked (looked_in k) looks (subst (Pairs OffLooked) (sym same) (set_pairs k logs p)))
  where
    from_look : LogLook → List Target
    from_look look = where_due (decide look) (where_free (hindrances clock rule look) (target_of clock rule look))

    is_target : (look : LogLook) (t : Target) → IsIn t (from_look look) → t ≡ target_of clock rule look
    is_target look t i = (in_free (hindrances clock rule look) (target_of clock rule look) t (in_due (decide look) (where_free (hindrances clock rule look) (target_of clock rule look)) t i)).1

    cross : (a b : LogLook) (t u : Target) → OffLooked (looked_in k a) (looked_in k b) → IsIn t (from_look a) → IsIn u (from_look b) → OffTarget t u
    cross a b t u h i j = subst (λ (x : Target). OffTarget x u) (sym (is_target a t i)) (subst (λ (x : Target). OffTarget (target_of clock rule a) x) (sym (is_target b u j)) h)

-- ---- the targets of all

-- two logs of different definitions are apart
sets_apart : (logs : List LookedLog) (x y : LookedLog) → Pairs OffLooked logs → IsIn x logs → IsIn y logs → x.set < y.set → OffLooked x y
sets_apart logs x y p i j lt = ⊎_elim (λ e. absurd (differ e)) (λ h. ⊎_elim (λ a. a) (λ b. off_back y.path y.naming x.path x.naming b) h) (pairs_two OffLooked logs p x y i j)
  where
    differ : x ≡ y → ⊥
    differ e = let same : x.set ≡ y.set = ap (λ (z : LookedLog). z.set) e in omega (arith, same, lt)

-- The target is a log that was looked at whole, of the definition at place k or a later one.
record IsOf (logs : List LookedLog) (k : ℕ) (t : Target) : Type 0 where
  x : LookedLog
  among : IsIn x logs
  late : k ≤ x.set
  path : x.path ≡ t.log
  naming : x.naming ≡ t.naming

is_of : (clock : Clock) (logs : List LookedLog) (k : ℕ) (rules : List Rule) (sets : List SetLooks) (t : Target) → HaveLooksFrom k logs sets → Comes clock rules sets t → IsOf logs k t
is_of clock logs k rules sets t h c = record {
  x = looked_in (k + c.place) c.look;
  among = was_looked k c.place logs sets c.set c.look h c.at_set c.among;
  late = omega arith;
  path = ap (λ (u : Target). u.log) (sym c.is);
  naming = ap (λ (u : Target). u.naming) (sym c.is);
}

-- a target of one definition is apart from one of a later definition
off_of : (logs : List LookedLog) (k : ℕ) (t u : Target) → Pairs OffLooked logs → (a : IsOf logs k t) → a.x.set ≡ k → IsOf logs (k + 1) u → OffTarget t u
off_of logs k t u p a at b =
    let late : k + 1 ≤ b.x.set = b.late in
    let h : OffLooked a.x b.x = sets_apart logs a.x b.x p a.among b.among (omega (arith, at, late)) in
    same_names a.x.path t.log a.x.naming t.naming b.x.path u.log b.x.naming u.naming a.path a.naming b.path b.naming h
  where
    same_names : (p p' : Path) (n n' : Naming) (q q' : Path) (m m' : Naming) → p ≡ p' → n ≡ n' → q ≡ q' → m ≡ m' → Off p n q m → Off p' n' q' m'
    same_names p p' n n' q q' m m' e f g i h = subst (λ x. Off x n' q' m') e (subst (λ x. Off p x q' m') f (subst (λ x. Off p n x m') g (subst (λ x. Off p n q x) i h)))

all_pairs : (clock : Clock) (decide : Rule → LogLook → Due) (logs : List LookedLog) (k : ℕ) (rules : List Rule) (sets : List SetLooks) → Pairs OffLooked logs → HaveLooksFrom k logs sets → Pairs OffTarget (all_targets clock decide rules sets)
all_pairs clock decide logs k [] [] p h = tt
all_pairs clock decide logs k [] (set ∷ sets) p h = tt
all_pairs clock decide logs k (rule ∷ rules) [] p h = tt
all_pairs clock decide logs k (rule ∷ rules) (set ∷ sets) p h =
    pairs_both OffTarget (targets_of clock rule (decide rule) set.logs) (all_targets clock decide rules sets)
    (targets_pairs clock k rule (decide rule) set.logs logs h.0 p)
    (all_pairs clock decide logs (k + 1) rules sets p h.1)
    cross
  where
    plus_none : (n : ℕ) → n + 0 ≡ n
    plus_none n = omega arith

    own : (t : Target) → IsIn t (targets_of clock rule (decide rule) set.logs) → (a : IsOf logs k t) × (a.x.set ≡ k)
    own t i =
        let o = of_look clock rule (decide rule) set.logs t i in (
          record {
            x = looked_in (k + 0) o.look;
            among = was_looked k 0 logs (set ∷ sets) set o.look h refl o.among;
            late = omega arith;
            path = ap (λ (u : Target). u.log) (sym o.is);
            naming = ap (λ (u : Target). u.naming) (sym o.is);
          },
          plus_none k,
        )

    cross : (t u : Target) → IsIn t (targets_of clock rule (decide rule) set.logs) → IsIn u (all_targets clock decide rules sets) → OffTarget t u
    cross t u i j = let a = own t i in off_of logs k t u p a.0 a.1 (is_of clock logs (k + 1) rules sets u h.1 (comes_from clock decide rules sets u j))

-- the logs that are kept are apart
pub kept_off : {reserved : List Path} (rules : List Rule) (sets : List SetLooks) (faults : List Fault) (ts : List Entry) (s : ShowsLooks reserved rules sets faults ts) → Pairs OffFound s.kept
kept_off rules sets faults ts s = subst (Pairs OffFound) (sym s.keeps.left_are) (files_pairs (kept_of s.found s.keeps.choices) (kept_pairs s.found s.keeps.choices (choice_off s.found s.keeps.choices s.keeps.chosen)))

looks_pairs : {reserved : List Path} (rules : List Rule) (sets : List SetLooks) (faults : List Fault) (ts : List Entry) (s : ShowsLooks reserved rules sets faults ts) → Pairs OffLooked s.looked
looks_pairs rules sets faults ts s = subst (Pairs OffLooked) (sym s.entries.second.families.looked_are) (looked_pairs s.kept s.entries.second.families.sights (kept_off rules sets faults ts s))

-- in the words of the laws
none_has : (t : Target) (us : List Target) → AllByRecursion (OffTarget t) us → NoneHas t.log us
none_has t [] h = tt
none_has t (u ∷ us) h = (λ e. h.0.0 (sym e), none_has t us h.1)

are_apart : (ts : List Target) → Pairs OffTarget ts → LogsDiffer ts
are_apart [] p = tt
are_apart (t ∷ ts) p = (none_has t ts p.0, are_apart ts p.1)

none_meets : (t : Target) (us : List Target) → AllByRecursion (OffTarget t) us → NoneMeets t us
none_meets t [] h = tt
none_meets t (u ∷ us) h = (h.0.2, none_meets t us h.1)

dont_meet : (ts : List Target) → Pairs OffTarget ts → DontMeet ts
dont_meet [] p = tt
dont_meet (t ∷ ts) p = (none_meets t ts p.0, dont_meet ts p.1)

pub targets_apart : {reserved : List Path} (rules : List Rule) (sets : List SetLooks) (faults : List Fault) (ts : List Entry) (clock : Clock) (decide : Rule → LogLook → Due) → ShowsLooks reserved rules sets faults ts → LogsDiffer (all_targets clock decide rules sets)
targets_apart rules sets faults ts clock decide s = are_apart (all_targets clock decide rules sets) (all_pairs clock decide s.looked 0 rules sets (looks_pairs rules sets faults ts s) s.by_sets)

pub targets_dont_meet : {reserved : List Path} (rules : List Rule) (sets : List SetLooks) (faults : List Fault) (ts : List Entry) (clock : Clock) (decide : Rule → LogLook → Due) → ShowsLooks reserved rules sets faults ts → DontMeet (all_targets clock decide rules sets)
targets_dont_meet rules sets faults ts clock decide s = dont_meet (all_targets clock decide rules sets) (all_pairs clock decide s.looked 0 rules sets (looks_pairs rules sets faults ts s) s.by_sets)
