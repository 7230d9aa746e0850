-- A calm host stays so, and no count rises but for want of memory.
use Rattle.std.proofs.Common.{◌≡◌, ◌⊎◌, inl, inr, ⊎_elim, ℕ, suc, ◌-◌, ◌≤◌, Bool, true, false, cond, List, [], ◌∷◌, drop, Option, Some, None, refl, sym, ap, subst, ◌∙◌, arith, All}
use Rattle.std.specs.Prelude.{◌^◌, min, is_some}
use Rattle.lr_rules.specs.declared.fault.Ended.{Ended}
use Rattle.lr_host.specs.declared.entry.Entry.{Entry}
use Rattle.lr_memhost.specs.declared.act.How.TheVariants as way
use Rattle.lr_memhost.specs.declared.act.How.{How}
use Rattle.lr_memhost.specs.How.{downs, idles}
use Rattle.lr_memhost.specs.Acts.{View, Rest, how_of, how_at, is_bad_ending, first_end, after_end, one_more, Starved, CallTurned}
use Rattle.lr_memhost.specs.Calm.{IsCalm, StaysCalm}
use Rattle.lr_memhost.proofs.TurnLemmas.{Alike}

-- no call to a calm host is listed
pub calm_how : (v : View) → IsCalm v → how_at v ≡ None
calm_how v calm = ap (λ b. cond b (Some way.Stop) (how_of v.failing v.calls)) calm.up ∙ calm.unlisted v.calls (omega arith)

pub not_some : {A : Type 0} (o : Option A) → o ≡ None → is_some o ≡ true → ⊥
not_some None e h = cc
not_some (Some x) e h = cc

pub not_idle : (o : Option How) → o ≡ None → idles o ≡ true → ⊥
not_idle None e h = cc
not_idle (Some x) e h = cc

no_more : (c n : ℕ) → min (one_more c) (2 ^ 64 - 1) ≤ n → min c (2 ^ 64 - 1) ≤ n
no_more c n le = omega arith

-- it is calm behind a call, where the rest stays so
calm_on : (v w : View) → w.failing ≡ v.failing → w.calls ≡ one_more v.calls → w.down ≡ downs (how_at v) → w.rest.another ≡ v.rest.another → All (λ e. is_bad_ending e ≡ false) w.rest.ends → IsCalm v → IsCalm w
calm_on v w failing calls down another ends calm = record {
  unlisted = λ n le. ap (λ fs. how_of fs n) failing ∙ calm.unlisted n (no_more v.calls n (subst (λ c. min c (2 ^ 64 - 1) ≤ n) calls le));
  up = down ∙ ap downs (calm_how v calm);
  free = another ∙ calm.free;
  ends = ends;
}

-- a call that leaves the rest as it was
calm_same : (v w : View) → w.failing ≡ v.failing → w.calls ≡ one_more v.calls → w.down ≡ downs (how_at v) → w.rest ≡ v.rest → (w.faults ≡ v.faults) ⊎ Starved v w → StaysCalm v w
calm_same v w failing calls down rest faults calm = (
  calm_on v w failing calls down (ap (λ r. r.another) rest) (subst (λ r. All (λ e. is_bad_ending e ≡ false) r.ends) (sym rest) calm.ends) calm,
  ⊎_elim (λ same. inl (same, ap (λ r. r.bad_ends) rest, ap (λ r. r.held) rest)) (λ s. inr s) faults,
)

pub calm_alike : {P : List Entry → Type 0} {v m w : View} → CallTurned P v m → Alike m w → w.rest ≡ v.rest → (w.faults ≡ v.faults) ⊎ Starved v w → StaysCalm v w
calm_alike {P} {v} {m} {w} t alike rest faults = calm_same v w (alike.failing ∙ t.failing) (alike.calls ∙ t.calls) (alike.down ∙ t.down) rest faults

abbrev pub with_mine : Bool → Rest → Rest
with_mine b r = record { ends = r.ends; piece = r.piece; mine = b; another = r.another; bad_ends = r.bad_ends; held = r.held }

-- the lock was taken, or given back
pub calm_lock : {P : List Entry → Type 0} {v w : View} (b : Bool) → CallTurned P v w → w.rest ≡ with_mine b v.rest → w.faults ≡ v.faults → StaysCalm v w
calm_lock {P} {v} {w} b t rest faults calm = (
  calm_on v w t.failing t.calls t.down (ap (λ r. r.another) rest) (subst (λ es. All (λ e. is_bad_ending e ≡ false) es) (sym (ap (λ r. r.ends) rest)) calm.ends) calm,
  inl (faults, ap (λ r. r.bad_ends) rest, ap (λ r. r.held) rest),
)

-- a program ran
first_good : (es : List Ended) → All (λ e. is_bad_ending e ≡ false) es → is_bad_ending (first_end es) ≡ false
first_good [] all = refl
first_good (e ∷ es) all = all 0 e (omega arith)

rest_good : (es : List Ended) → All (λ e. is_bad_ending e ≡ false) es → All (λ e. is_bad_ending e ≡ false) (drop 1 es)
rest_good [] all = all
rest_good (e ∷ es) all = λ k d lt. all (suc k) d (omega arith)

pub calm_ran : {P : List Entry → Type 0} {v w : View} → CallTurned P v w → w.rest ≡ after_end v.rest → w.faults ≡ v.faults → StaysCalm v w
calm_ran {P} {v} {w} t rest faults calm = (
  calm_on v w t.failing t.calls t.down (ap (λ r. r.another) rest) (subst (λ es. All (λ e. is_bad_ending e ≡ false) es) (sym (ap (λ r. r.ends) rest)) (rest_good v.rest.ends calm.ends)) calm,
  inl (faults, ap (λ r. r.bad_ends) rest ∙ ap (λ b. cond b (one_more v.rest.bad_ends) v.rest.bad_ends) (first_good v.rest.ends calm.ends), ap (λ r. r.held) rest),
)
