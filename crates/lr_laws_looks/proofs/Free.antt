-- No name of a log that a plan rotates is reserved.
use Rattle.std.proofs.Common.{◌≡◌, inl, inr, ℕ, suc, ◌+◌, List, [], ◌∷◌, Some, slice_get, sym, ap, ◌∙◌, subst}
use Rattle.std.specs.Borrow.{Bor}
use Rattle.std.specs.List.{AllByRecursion}
use Rattle.lr_rules.specs.declared.clock.Clock.{Clock}
use Rattle.lr_rules.specs.declared.fault.Fault.{Fault}
use Rattle.lr_rules.specs.declared.path.Path.{Path}
use Rattle.lr_rules.specs.declared.rule.Naming.{Naming}
use Rattle.lr_rules.specs.declared.rule.Rule.{Rule}
use Rattle.lr_rules.specs.Names.{IsName}
use Rattle.lr_due.specs.declared.answer.Due.{Due}
use Rattle.lr_host.specs.declared.entry.Entry.{Entry}
use Rattle.lr_host.specs.Lists.{IsIn}
use Rattle.lr_family.specs.declared.family.Family.{Family}
use Rattle.lr_kept.specs.declared.choice.Choice.{Choice}
use Rattle.lr_kept.specs.declared.choice.Choice.TheVariants.{Kept}
use Rattle.lr_plan.specs.declared.looks.LogLook.{LogLook}
use Rattle.lr_plan.specs.declared.looks.SetLooks.{SetLooks}
use Rattle.lr_looks.specs.declared.standing.Standing.{Standing}
use Rattle.lr_looks.specs.Choices.{chosen_names, found_names, IsChoiceAmong, kept_of}
use Rattle.lr_looks.specs.Families.{LookedLog, looked_at}
use Rattle.lr_looks.specs.Found.{FoundLog}
use Rattle.lr_looks.specs.Sets.{looked_in}
use Rattle.lr_looks.specs.Shown.{ShowsLooks}
use Rattle.lr_laws_rotations.specs.Target.{Target}
use Rattle.lr_laws_looks.specs.Free.{IsFreeOf, AreFreeOf}
use Rattle.lr_laws_looks.specs.Targets.{all_targets}
use Rattle.lr_laws_looks.proofs.Apart.{kept_each}
use Rattle.lr_laws_looks.proofs.Coming.{Comes, comes_from, was_looked, in_looked, in_files}
use Rattle.lr_laws_looks.proofs.Elements.{map_at, unmap_at, each_in, in_each}

-- what is in a list stands at a place
pub place_in : {A : Type 0} (xs : List A) (x : A) → IsIn x xs → (k : ℕ) × (slice_get xs k ≡ Some x)
place_in [] x h = absurd h
place_in (y ∷ ys) x (inl e) = (0, ap (λ z. Some z) e)
place_in (y ∷ ys) x (inr i) = let r = place_in ys x i in (suc r.0, r.1)

-- none of the log's names is reserved
abbrev pub IsFreeLog : List Path → FoundLog → Type 0
IsFreeLog reserved f = (path : Path) → IsIn path reserved → IsName f.log.path f.log.naming path → ⊥

abbrev pub HasPath : Path → (Path × Naming) → Type 0
HasPath path n = IsName n.0 n.1 path

pub kept_free : (reserved : List Path) (found : List FoundLog) (choices : List Choice) → IsChoiceAmong reserved found choices → AllByRecursion (IsFreeLog reserved) (kept_of found choices)
kept_free reserved found choices c = kept_each (IsFreeLog reserved) found choices (λ k f at kept path i named.
    let b : (b : Bor Family) × (slice_get c.logs k ≡ Some b) × (chosen_names b ≡ found_names f) = unmap_at chosen_names c.logs k (found_names f) (ap (λ (xs : List (Path × Naming)). slice_get xs k) c.same ∙ map_at found_names found k f at) in
    let p = place_in reserved path i in
    (c.chosen.each k Kept kept).free p.0 (record { log = b.0; path = path; at_log = b.1; at_path = p.1; named = subst (HasPath path) (sym b.2) named }))

target_free : {reserved : List Path} (rules : List Rule) (sets : List SetLooks) (faults : List Fault) (ts : List Entry) (clock : Clock) (t : Target) → (s : ShowsLooks reserved rules sets faults ts) → Comes clock rules sets t → IsFreeOf reserved t
target_free {reserved} rules sets faults ts clock t s c = subst (IsFreeOf reserved) (sym c.is) (λ path i named.
    in_each (IsFreeLog reserved) (kept_of s.found s.keeps.choices) f.0 (kept_free reserved s.found s.keeps.choices s.keeps.chosen) kept path i
    (subst (HasPath path) (ap (λ (y : LookedLog). (y.path, y.naming)) f.2.1) named))
  where
    x : LookedLog
    x = looked_in (0 + c.place) c.look

    f : (g : FoundLog) × IsIn g s.kept × ((w : Standing) × (x ≡ looked_at g w.stand w.tmp))
    f = in_looked s.kept s.entries.second.families.sights x (subst (IsIn x) s.entries.second.families.looked_are (was_looked 0 c.place s.looked sets c.set c.look s.by_sets c.at_set c.among))

    kept : IsIn f.0 (kept_of s.found s.keeps.choices)
    kept = (in_files (kept_of s.found s.keeps.choices) f.0 (subst (IsIn f.0) s.keeps.left_are f.1)).0

pub targets_free : {reserved : List Path} (rules : List Rule) (sets : List SetLooks) (faults : List Fault) (ts : List Entry) (clock : Clock) (decide : Rule → LogLook → Due) → ShowsLooks reserved rules sets faults ts → AreFreeOf reserved (all_targets clock decide rules sets)
targets_free {reserved} rules sets faults ts clock decide s = each_in (IsFreeOf reserved) (all_targets clock decide rules sets) (λ t i. target_free rules sets faults ts clock t s (comes_from clock decide rules sets t i))
