-- A name stays behind the writing of the state, and the end of a run.
use Rattle.std.proofs.Common.{◌≡◌, ◌≢◌, ⊎_elim, ℕ, Bool, true, false, cond, refl, sym, ◌∙◌, subst, List, [], ◌∷◌, ◌++◌, Option}
use Rattle.std.specs.Prelude.{filter, codes}
use Rattle.lr_rules.specs.declared.path.Path.{Path}
use Rattle.lr_rules.specs.declared.fault.Fault.{Fault}
use Rattle.lr_host.specs.declared.entry.Entry.{Entry}
use Rattle.lr_host.specs.declared.entry.Entry.TheVariants as entry
use Rattle.lr_host.specs.declared.entry.Entry.TheVariants.{Ends}
use Rattle.lr_host.specs.declared.journal.Journal.{Journal}
use Rattle.lr_host.specs.Steps.{is_change}
use Rattle.lr_host.specs.Told.{Are, Each, Left}
use Rattle.lr_plan.specs.Course.{Course}
use Rattle.lr_plan.specs.Steps.{state_steps}
use Rattle.lr_acts.specs.Named.{PathIsNamed}
use Rattle.lr_laws_rotations.specs.AllTurns.{IsOfState}
use Rattle.lr_acts.proofs.Keeping.{KeepsName, left_keeps}
use Rattle.lr_run.proofs.Stating.{state_writing, changes_of_state}

calm_keeps : (x : Path) (e : Entry) → is_change e ≡ false → KeepsName x e
calm_keeps x (entry.Renames from to) h = absurd (cc)
calm_keeps x (entry.Unlinks y) h = absurd (cc)
calm_keeps x _ h = tt

state_keeps : (state x : Path) → x ≢ state → x ≢ state ++ codes ".tmp" → (e : Entry) → IsOfState state e → KeepsName x e
state_keeps state x other part (entry.Renames from to) h = λ same. ⊎_elim (λ is. other (sym same ∙ is)) (λ is. part (sym same ∙ is)) h.0
state_keeps state x other part (entry.Unlinks y) h = λ same. ⊎_elim (λ is. other (sym same ∙ is)) (λ is. part (sym same ∙ is)) h
state_keeps state x other part _ h = tt

all_keep : (x : Path) (R : Entry → Type 0) → ((e : Entry) → R e → KeepsName x e) → (ts : List Entry) → Each R (filter is_change ts) → Each (KeepsName x) ts
all_keep x R keep [] a = tt
all_keep x R keep (e ∷ ts) a = go (is_change e) refl (λ b. all_keep x R keep ts b) a
  where
    go : (b : Bool) → is_change e ≡ b → (Each R (filter is_change ts) → Each (KeepsName x) ts) → Each R (cond b (e ∷ filter is_change ts) (filter is_change ts)) → KeepsName x e × Each (KeepsName x) ts
    go true h rest a = (keep e a.0, rest a.1)
    go false h rest a = (calm_keeps x e h, rest a)

-- the writing keeps each name but its own
pub writing_keeps : (state : Path) (stale : Bool) (dirs : List Path) (text : List ℕ) (fs : List Fault) (x : Path) {o n : Option Journal} → x ≢ state → x ≢ state ++ codes ".tmp" → Left (Course (state_steps state stale dirs text) [] fs) o n → PathIsNamed x o → PathIsNamed x n
writing_keeps state stale dirs text fs x other part left named =
    left_keeps x left (λ ts c. all_keep x (IsOfState state) (state_keeps state x other part) ts (changes_of_state state ts (state_writing state stale dirs text fs ts c))) named

-- the end keeps all
pub end_keeps : (x : Path) {o n : Option Journal} → Left (Are (Ends ∷ [])) o n → PathIsNamed x o → PathIsNamed x n
end_keeps x left named = left_keeps x left (λ ts is. subst (Each (KeepsName x)) (sym is) (tt, tt)) named
