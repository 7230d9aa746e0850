-- What the acts of a plan change: no name of the state, and of names those of a log, those in its family's directory, and that directory where it is made.
use Rattle.std.proofs.Common.{◌≡◌, ◌⊎◌, inl, inr, ⊎_elim, ℕ, Bool, true, false, cond, refl, ◌∙◌, ap, subst, Option, Some, None, List, [], ◌∷◌}
use Rattle.std.specs.Prelude.{filter}
use Rattle.lr_rules.specs.declared.clock.Clock.{Clock}
use Rattle.lr_rules.specs.declared.path.Path.{Path}
use Rattle.lr_rules.specs.declared.rule.Count.{Count}
use Rattle.lr_rules.specs.declared.rule.Format.{Format}
use Rattle.lr_rules.specs.declared.rule.Make.{Make}
use Rattle.lr_rules.specs.declared.rule.Naming.{Naming}
use Rattle.lr_rules.specs.declared.rules.Rules.{Rules}
use Rattle.lr_rules.specs.Path.{parent_of}
use Rattle.lr_rules.proofs.Beside.{parent_same}
use Rattle.lr_host.specs.declared.entry.Entry.{Entry}
use Rattle.lr_host.specs.declared.entry.Entry.TheVariants as entry
use Rattle.lr_host.specs.Lists.{IsIn}
use Rattle.lr_host.specs.Quiet.{is_disk_change}
use Rattle.lr_host.specs.Steps.{is_change}
use Rattle.lr_host.specs.Told.{Each, IsTools}
use Rattle.lr_host.proofs.Quiet.{no_disk_change}
use Rattle.lr_laws.specs.Follow.{changed_paths}
use Rattle.lr_laws.specs.Renewing.{LeavesAlone, IsWithinDirs}
use Rattle.lr_laws.specs.StateWhole.{renamed_paths}
use Rattle.lr_family.specs.declared.stand.Member.{Member}
use Rattle.lr_chain.specs.declared.ready.Ready.{Ready}
use Rattle.lr_chain.specs.Prepared.{ready_by, ready_of}
use Rattle.lr_laws_rotations.specs.AllTurns.{IsItsDir, IsOf, IsOfSome}
use Rattle.lr_laws_rotations.specs.Apart.{HasNames, TargetsHaveNames}
use Rattle.lr_laws_rotations.specs.Own.{MakesItsDir, IsOfFamily}
use Rattle.lr_laws_rotations.specs.Seen.{IsLogSeen}
use Rattle.lr_laws_rotations.specs.Target.{Target, IsReadyBy}
use Rattle.lr_laws_rotations.proofs.LogSeen.{any_names}
use Rattle.lr_laws_rotations.proofs.Own.{target_member, family_change, any_change}
use Rattle.lr_laws_rotations.proofs.PartFile.{member_parent, part_parent}
use Rattle.lr_looks.specs.Reserved.{reserved_by}
use Rattle.lr_laws_looks.specs.Free.{AreFreeOf}

-- ---- entries that change nothing

pub disk_unchanged : (e : Entry) → IsTools e → is_disk_change e ≡ false → changed_paths e ≡ []
disk_unchanged (entry.Renames from to) i h = absurd (cc)
disk_unchanged (entry.Makes x mode) i h = absurd (cc)
disk_unchanged (entry.Appends x bytes) i h = absurd (cc)
disk_unchanged (entry.Truncates x) i h = absurd (cc)
disk_unchanged (entry.Unlinks x) i h = absurd (cc)
disk_unchanged (entry.MakesDir x mode) i h = absurd (cc)
disk_unchanged (entry.Attach v x at) i h = absurd i
disk_unchanged _ i h = refl

pub none_changed : (e : Entry) → IsTools e → is_change e ≡ false → changed_paths e ≡ []
none_changed e i h = disk_unchanged e i (no_disk_change e h)

pub renamed_changed : (e : Entry) (x : Path) → IsIn x (renamed_paths e) → IsIn x (changed_paths e)
renamed_changed (entry.Renames from to) x i = i
renamed_changed (entry.Makes y mode) x i = i
renamed_changed (entry.Unlinks y) x i = i
renamed_changed (entry.MakesDir y mode) x i = i
renamed_changed _ x i = absurd i

not_in : (x : Path) (xs : List Path) → xs ≡ [] → IsIn x xs → ⊥
not_in x xs e i = let none : IsIn x [] = subst (λ (ys : List Path). IsIn x ys) e i in none

pub none_aside : (x : Path) (e : Entry) → changed_paths e ≡ [] → LeavesAlone x e
none_aside x e h i = not_in x (changed_paths e) h i

pub none_within : (part : Path) (dirs : List Path) (e : Entry) → changed_paths e ≡ [] → IsWithinDirs part dirs e
none_within part dirs e h x i = absurd (not_in x (changed_paths e) h (renamed_changed e x i))

-- what holds of the changes among entries, and of the others
pub of_changes : (R : Entry → Type 0) (ts : List Entry) → ((e : Entry) → IsTools e → is_change e ≡ false → R e) → Each IsTools ts → Each R (filter is_change ts) → Each R ts
of_changes R [] calm tools a = tt
of_changes R (e ∷ ts) calm tools a = go (is_change e) refl (λ a. of_changes R ts calm tools.1 a) a
  where
    go : (b : Bool) → is_change e ≡ b → (Each R (filter is_change ts) → Each R ts) → Each R (cond b (e ∷ filter is_change ts) (filter is_change ts)) → R e × Each R ts
    go true h rest a = (a.0, rest a.1)
    go false h rest a = (calm e tools.0 h, rest a)

-- ---- the paths of a rotation

-- each path whose name the entry changes is the directory that the rotation makes, or one in the log's directory or the family's
abbrev pub IsOnTarget : Target → Entry → Type 0
IsOnTarget t e = (x : Path) → IsIn x (renamed_paths e) → IsItsDir t x ⊎ ((parent_of x ≡ parent_of t.log) ⊎ (parent_of x ≡ t.naming.dir))

-- where the entry makes that directory
makes_on : (t : Target) (y : Path) (mode : Option ℕ) → IsItsDir t y → IsOnTarget t (entry.MakesDir y mode)
makes_on t y mode d x (inl same) = inl (subst (IsItsDir t) same d)
makes_on t y mode d x (inr none) = absurd none

makes_its_on : (t : Target) (e : Entry) → MakesItsDir t e → IsOnTarget t e
makes_its_on t (entry.MakesDir y mode) d x i = makes_on t y mode d x i
makes_its_on t _ none x i = absurd none

all_on : (t : Target) → HasNames t → (e : Entry) → IsOf t e → IsOnTarget t e
all_on t h e i = ⊎_elim (λ changes x j. inr (go x (changes x (renamed_changed e x j)))) (λ makes. makes_its_on t e makes) (family_change t e h i)
  where
    go : (x : Path) → IsOfFamily t.log t.naming x → (parent_of x ≡ parent_of t.log) ⊎ (parent_of x ≡ t.naming.dir)
    go x (inl is) = inl (ap parent_of is)
    go x (inr (inl m)) = inr (member_parent t.log t.naming h.family x m)
    go x (inr (inr (inl p))) = inr (ap parent_of p.2 ∙ part_parent t.log t.naming h.family p.0 p.1)
    go x (inr (inr (inr beside))) = inl (ap parent_of beside.1 ∙ parent_same t.log)

-- ---- leftovers

-- where no member stands, none goes first
none_first : (d : Option Format) (log : Path) (n : Naming) (c : Count) (maxage : Option ℕ) (clock : Clock) (anew : Make) → (ready_by d log n c maxage clock anew []).leftovers ≡ []
none_first None log n c maxage clock anew = refl
none_first (Some format) log n c maxage clock anew = refl

no_leftovers : (clock : Clock) (t : Target) → IsReadyBy clock t → t.stand.members ≡ [] → t.ready.leftovers ≡ []
no_leftovers clock t ready none =
    ap (λ (r : Ready). r.leftovers) ready
    ∙ (ap (λ (ms : List Member). (ready_of t.ready.log t.naming t.count t.maxage clock t.ready.make ms).leftovers) none
    ∙ none_first t.naming.dated t.ready.log t.naming t.count t.maxage clock t.ready.make)

-- ---- where they stand

-- All that is done to the log changes names in its directory or in its family's, or makes that; the path that it gets stands in it; and where it is made, no leftover goes before.
pub record IsPlaced (t : Target) : Type 0 where
  pub on : (e : Entry) → IsOf t e → IsOnTarget t e
  pub target : parent_of t.ready.target ≡ t.naming.dir
  pub no_leftovers : t.stand.members ≡ [] → t.ready.leftovers ≡ []

-- so it is where the log was seen
pub log_placed : (rules : Rules) (clock : Clock) (looks : List Entry) (t : Target) → IsLogSeen rules clock looks t → IsPlaced t
log_placed rules clock looks t l =
    let h = any_names rules clock looks t l in
    record {
      on = all_on t h;
      target = member_parent t.log t.naming l.family t.ready.target (target_member t h);
      no_leftovers = no_leftovers clock t l.ready;
    }

-- ---- a change of the acts and the state

pub some_aside : (state : Path) (ts : List Target) (e : Entry) → TargetsHaveNames ts → AreFreeOf (reserved_by state) ts → IsOfSome ts e → LeavesAlone state e
some_aside state [] e h free i = absurd i
some_aside state (t ∷ ts) e h free (inl i) = λ changed. free.0 state (inl refl) (any_change t e h.0 i state changed)
some_aside state (t ∷ ts) e h free (inr i) = some_aside state ts e h.1 free.1 i
