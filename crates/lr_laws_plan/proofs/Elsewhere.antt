-- The changes of a run are names of the logs that it rotates, and of its state; all else is left alone.
use Rattle.std.proofs.Common.{◌≡◌, ◌≢◌, ◌⊎◌, inl, inr, ⊎_elim, Bool, true, false, cond, refl, sym, ◌∙◌, ap, subst, ℕ, Option, Some, None, List, [], ◌∷◌, ◌++◌, reverse}
use Rattle.std.specs.Prelude.{filter}
use Rattle.std.proofs.lemmas.List.{reverse-reverse}
use Rattle.std.proofs.lemmas.List.Elements.{filter-append}
use Rattle.lr_rules.specs.declared.clock.Clock.{Clock}
use Rattle.lr_rules.specs.declared.fault.Fault.{Fault}
use Rattle.lr_rules.specs.declared.path.Path.{Path}
use Rattle.lr_rules.specs.declared.rule.Rule.{Rule}
use Rattle.lr_rules.specs.declared.rules.Rules.{Rules}
use Rattle.lr_rules.specs.Names.{IsOwnName}
use Rattle.lr_rules.specs.StatePath.{state_part}
use Rattle.lr_due.specs.declared.answer.Due.{Due}
use Rattle.lr_host.specs.declared.entry.Entry.{Entry}
use Rattle.lr_host.specs.declared.entry.Entry.TheVariants as entry
use Rattle.lr_host.specs.Lists.{IsIn}
use Rattle.lr_host.specs.Opening.{IsJournal}
use Rattle.lr_host.specs.Quiet.{is_disk_change, AreQuiet}
use Rattle.lr_host.specs.Steps.{is_change}
use Rattle.lr_host.specs.Told.{Each, Made}
use Rattle.lr_host.specs.World.{Past}
use Rattle.lr_host.proofs.Each.{each_as, each_reverse, filter_reverse, each_filter}
use Rattle.lr_host.proofs.Quiet.{disk_of_changes, quiet_changes, quiet_still}
use Rattle.lr_laws.specs.Renewing.{LeavesAlone}
use Rattle.lr_looks.specs.Found.{FoundLog}
use Rattle.lr_looks.specs.Shown.{ShowsLooks}
use Rattle.lr_plan.specs.declared.looks.LogLook.{LogLook}
use Rattle.lr_plan.specs.declared.looks.SetLooks.{SetLooks}
use Rattle.lr_plan.specs.Planned.{makes_dir, rule_mode}
use Rattle.lr_laws_rotations.specs.AllTurns.{IsStatePath, IsItsDir, IsOfState, IsOfSome}
use Rattle.lr_laws_rotations.specs.Target.{Target}
use Rattle.lr_laws_rotations.specs.Apart.{TargetsHaveNames}
use Rattle.lr_laws_rotations.specs.Runs.{AllTurnsBy}
use Rattle.lr_laws_rotations.proofs.LogSeen.{have_names}
use Rattle.lr_looks.specs.Reserved.{reserved_by}
use Rattle.lr_laws_looks.specs.Targets.{all_targets}
use Rattle.lr_laws_looks.proofs.Kept.{kept_has_none, kept_meets_none}
use Rattle.lr_laws_looks.proofs.Coming.{Comes, comes_from}
use Rattle.lr_run.proofs.Owned.{own_or_dir}
use Rattle.lr_laws_plan.specs.Left.{IsLeftAlone}
use Rattle.lr_laws_plan.specs.Rest.{IsOfTheRest, NoTargetHas}
use Rattle.lr_laws_plan.proofs.Left.{left_alone}

-- ---- one change

some_aside : (x : Path) (ts : List Target) (e : Entry) → TargetsHaveNames ts → ((t : Target) → IsIn t ts → IsOwnName t.log t.naming x → ⊥) → ((t : Target) → IsIn t ts → IsItsDir t x → ⊥) → IsOfSome ts e → LeavesAlone x e
some_aside x [] e h none no_dir i = absurd i
some_aside x (t ∷ ts) e h none no_dir (inl i) = λ at. ⊎_elim (none t (inl refl)) (no_dir t (inl refl)) (own_or_dir t h.0 e i x at)
some_aside x (t ∷ ts) e h none no_dir (inr i) = some_aside x ts e h.1 (λ u j. none u (inr j)) (λ u j. no_dir u (inr j)) i

no_state_path : (state x y : Path) → x ≢ state → x ≢ state_part state → IsStatePath state y → y ≡ x → ⊥
no_state_path state x y a b (inl is) same = a (sym same ∙ is)
no_state_path state x y a b (inr is) same = b (sym same ∙ is)

state_aside : (state x : Path) (e : Entry) → x ≢ state → x ≢ state_part state → IsOfState state e → LeavesAlone x e
state_aside state x (entry.Renames from to) a b h = λ i. ⊎_elim (λ same. no_state_path state x from a b h.0 same) (λ j. ⊎_elim (λ same. no_state_path state x to a b h.1 same) (λ none. none) j) i
state_aside state x (entry.Makes y mode) a b h = λ i. ⊎_elim (λ same. no_state_path state x y a b h same) (λ none. none) i
state_aside state x (entry.Appends y bytes) a b h = λ i. ⊎_elim (λ same. no_state_path state x y a b h same) (λ none. none) i
state_aside state x (entry.Unlinks y) a b h = λ i. ⊎_elim (λ same. no_state_path state x y a b h same) (λ none. none) i
state_aside state x _ a b h = absurd h

-- of the state, or of one of the logs
abbrev pub IsOfRun : Path → List Target → Entry → Type 0
IsOfRun state targets e = IsOfSome targets e ⊎ IsOfState state e

one_aside : (state x : Path) (targets : List Target) (e : Entry) → TargetsHaveNames targets → IsOfTheRest state targets x → IsOfRun state targets e → LeavesAlone x e
one_aside state x targets e h away (inl i) = some_aside x targets e h away.no_name away.no_dir i
one_aside state x targets e h away (inr i) = state_aside state x e away.no_state away.no_part i

-- ---- all changes

-- entries whose changes are of the state and of these logs leave all else alone
pub elsewhere_left : (state : Path) (targets : List Target) (p q : Past) (es ts : List Entry) (x : Path) → Made p es q → IsJournal p → TargetsHaveNames targets → IsOfTheRest state targets x → filter is_disk_change (reverse es) ≡ filter is_disk_change ts → Each (IsOfRun state targets) (filter is_change ts) → IsLeftAlone p q x
elsewhere_left state targets p q es ts x m j h away same a = left_alone p q es x m j
    (subst (Each (LeavesAlone x)) (sym (filter_reverse is_disk_change (reverse es)) ∙ ap (filter is_disk_change) (reverse-reverse es)) (each_reverse (LeavesAlone x) (filter is_disk_change (reverse es)) in_order))
  where
    in_order : Each (LeavesAlone x) (filter is_disk_change (reverse es))
    in_order = subst (Each (LeavesAlone x)) (disk_of_changes ts ∙ sym same)
        (each_filter (LeavesAlone x) is_disk_change (filter is_change ts) (each_as (IsOfRun state targets) (LeavesAlone x) (filter is_change ts) (λ e i. one_aside state x targets e h away i) a))

-- ---- a run that looks first

-- what stands before its changes changes nothing
pub behind_start : (state : Path) (clock : Clock) (rules : Rules) (reads tail : List Entry) → AreQuiet reads → filter is_disk_change (reads ++ entry.Starts state clock.now rules ∷ tail) ≡ filter is_disk_change tail
behind_start state clock rules reads tail quiet = filter-append is_disk_change reads (entry.Starts state clock.now rules ∷ tail) ∙ ap (λ (xs : List Entry). xs ++ filter is_disk_change tail) (quiet_still reads quiet)

pub turns_leave : (state : Path) (clock : Clock) (rules : Rules) (p q : Past) (es reads tail : List Entry) (x : Path) (t : AllTurnsBy state clock rules tail) → Made p es q → IsJournal p → reverse es ≡ reads ++ entry.Starts state clock.now rules ∷ tail → AreQuiet reads
    → IsOfTheRest state t.targets x → IsLeftAlone p q x
turns_leave state clock rules p q es reads tail x t m j joined quiet away = elsewhere_left state t.targets p q es tail x m j (have_names rules clock t.looks t.targets t.seen) away
    (ap (filter is_disk_change) joined ∙ behind_start state clock rules reads tail quiet)
    (subst (Each (IsOfRun state t.targets)) (sym (ap (filter is_change) t.joined ∙ (filter-append is_change t.looks t.acts ∙ ap (λ (xs : List Entry). xs ++ filter is_change t.acts) (quiet_changes t.looks t.quiet)))) t.all)

-- ---- a log that was kept

-- the directory that a rotation makes is that of the family
its_dir : (rules : List Rule) (sets : List SetLooks) (clock : Clock) (decide : Rule → LogLook → Due) (t : Target) (x : Path) → IsIn t (all_targets clock decide rules sets) → IsItsDir t x → x ≡ t.naming.dir
its_dir rules sets clock decide t x i h = subst (λ (u : Target). IsItsDir u x → x ≡ u.naming.dir) (sym c.is) (λ d. go (makes_dir c.rule c.look) d.0 d.1) h
  where
    c : Comes clock rules sets t
    c = comes_from clock decide rules sets t i

    go : (makes : Bool) (mode : Option ℕ) → cond {A = Option (Path × Option ℕ)} makes (Some (c.look.family.naming.dir, rule_mode c.rule.createolddir)) None ≡ Some (x, mode) → x ≡ c.look.family.naming.dir
    go true mode e = let same : (c.look.family.naming.dir, rule_mode c.rule.createolddir) ≡ (x, mode) = cc in sym (ap (λ (d : Path × Option ℕ). d.0) same)
    go false mode e = let clash : None ≡ Some (x, mode) = e in cc

pub kept_elsewhere : (state : Path) (rules : List Rule) (sets : List SetLooks) (faults : List Fault) (ts : List Entry) (clock : Clock) (decide : Rule → LogLook → Due) (f : FoundLog) (x : Path) → (s : ShowsLooks (reserved_by state) rules sets faults ts) → IsIn f s.kept
    → NoTargetHas (all_targets clock decide rules sets) f.log.path → IsOwnName f.log.path f.log.naming x → IsOfTheRest state (all_targets clock decide rules sets) x
kept_elsewhere state rules sets faults ts clock decide f x s kept none own = record {
  no_state = λ same. kept_has_none rules sets faults ts s f kept state (inl refl) (inl (subst (IsOwnName f.log.path f.log.naming) same own));
  no_part = λ same. kept_has_none rules sets faults ts s f kept (state_part state) (inr (inl refl)) (inl (subst (IsOwnName f.log.path f.log.naming) same own));
  no_name = λ t one named. kept_meets_none rules sets faults ts s f kept clock decide t one (none t one) (x, inl (named, inl own));
  no_dir = λ t one dir. kept_meets_none rules sets faults ts s f kept clock decide t one (none t one) (x, inr (inr (its_dir rules sets clock decide t x one dir), own));
}
