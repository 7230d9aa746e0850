-- Removals one behind another.
use Rattle.std.proofs.Common.{◌≡◌, inl, inr, ⊎_elim, ℕ, ◌+◌, ◌<◌, List, [], ◌∷◌, ◌++◌, length, take, drop, get_or, Option, None, Some, sym, ap, ◌∙◌, subst, arith}
use Rattle.std.specs.Prelude.{filter}
use Rattle.std.proofs.lemmas.List.{append-nil, take_more, drop_more, take-append-drop, length-take}
use Rattle.std.proofs.lemmas.Grind.{flat_map-append}
use Rattle.lr_rules.specs.declared.fault.CallKind.TheVariants as call
use Rattle.lr_rules.specs.declared.fault.Phase.{Phase}
use Rattle.lr_rules.specs.declared.fault.Phase.TheVariants as phase
use Rattle.lr_host.specs.declared.journal.Journal.{Journal}
use Rattle.lr_host.specs.Told.{Counts, Onward, Left, Are}
use Rattle.lr_host.specs.Steps.{CanAll, is_change}
use Rattle.lr_host.proofs.Left.{left_as, left_both, are_on, can_rest, can_part}
use Rattle.lr_scripts.specs.declared.command.Bad.{Bad}
use Rattle.lr_scripts.specs.declared.command.Bad.TheVariants as bad
use Rattle.lr_scripts.specs.declared.command.Command.{Command}
use Rattle.lr_scripts.specs.declared.removal.Removal.{Removal}
use Rattle.lr_scripts.specs.Programs.{MaybeCause}
use Rattle.lr_scripts.specs.Removals.{steps_of_removal, RemovalRefused, RemovalCause}
use Rattle.lr_chain.specs.Ready.{removals_of}
use Rattle.lr_chain.specs.Stops.{RetireStopped, RetireCause}

split_list : (list : List Removal) (at : ℕ) (x : Removal) → x ≡ get_or list at x → at < length list → list ≡ take at list ++ x ∷ drop (at + 1) list
split_list list at x is lt = sym (take-append-drop at list) ∙ ap (λ ys. take at list ++ ys) (drop_more list at x lt ∙ ap (λ y. y ∷ drop (at + 1) list) (sym is))

split_steps : (list : List Removal) (at : ℕ) (x : Removal) → x ≡ get_or list at x → at < length list → removals_of list ≡ removals_of (take at list) ++ (steps_of_removal x ++ removals_of (drop (at + 1) list))
split_steps list at x is lt = ap removals_of (split_list list at x is lt) ∙ flat_map-append steps_of_removal (take at list) (x ∷ drop (at + 1) list)

one_more : (list : List Removal) (at : ℕ) (x : Removal) → x ≡ get_or list at x → at < length list → removals_of (take at list) ++ steps_of_removal x ≡ removals_of (take (at + 1) list)
one_more list at x is lt = sym (ap removals_of (take_more list at x lt ∙ ap (λ y. take at list ++ y ∷ []) (sym is)) ∙ (flat_map-append steps_of_removal (take at list) (x ∷ [])
    ∙ ap (λ es. removals_of (take at list) ++ es) (append-nil (steps_of_removal x))))

-- what the next removal calls fits
pub next_can : (list : List Removal) (at : ℕ) (x : Removal) {o m : Option Journal} → x ≡ get_or list at x → at < length list → CanAll o (removals_of list) → Left (Are (removals_of (take at list))) o m → CanAll m (steps_of_removal x)
next_can list at x {o} is lt can so_far =
    can_part (steps_of_removal x) (removals_of (drop (at + 1) list))
    (can_rest (removals_of (take at list)) (steps_of_removal x ++ removals_of (drop (at + 1) list)) (subst (λ es. CanAll o es) (split_steps list at x is lt) can) so_far (λ ts t. ap (filter is_change) t))

pub next_left : (list : List Removal) (at : ℕ) (x : Removal) {o m n : Option Journal} → x ≡ get_or list at x → at < length list → Left (Are (removals_of (take at list))) o m → Left (Are (steps_of_removal x)) m n → Left (Are (removals_of (take (at + 1) list))) o n
next_left list at x is lt so_far now = left_as (are_on so_far now) (λ ts t. t ∙ one_more list at x is lt)

place : (list : List Removal) (at : ℕ) → at < length list → at ≡ length (take at list)
place list at lt = grind (arith, length-take)

pub next_refused : (list : List Removal) (at : ℕ) (x : Removal) (why : Bad) {o m n : Option Journal} → x ≡ get_or list at x → at < length list
    → Left (Are (removals_of (take at list))) o m → Left (RemovalRefused x why) m n → Left (RetireStopped list at why) o n
next_refused list at x why is lt so_far now = left_as (left_both so_far now) (λ ts t. record {
  before = take at list;
  refused = x;
  after = drop (at + 1) list;
  list_is = split_list list at x is lt;
  place_is = place list at lt;
  left = t;
})

-- a cause since later is one since earlier
run_since : (phase : Phase) (o : Option Command) (why : Bad) (before mid now : Counts) → Onward before mid → MaybeCause phase o why mid now → MaybeCause phase o why before now
run_since phase None why before mid now fell cause = absurd cause
run_since phase (Some command) (bad.Script told end) before mid now fell cause = (cause.0, cause.1, omega (arith, fell.0.1, cause.2))
run_since phase (Some command) (bad.Call kind) before mid now fell cause = (cause.0, omega (arith, fell.0.0, cause.1))
run_since phase (Some command) bad.Memory before mid now fell cause = tt

cause_since : (x : Removal) (why : Bad) (before mid now : Counts) → Onward before mid → RemovalCause x why mid now → RemovalCause x why before now
cause_since x (bad.Call call.Unlink) before mid now fell cause = omega (arith, fell.0.0, cause)
cause_since x why before mid now fell cause = ⊎_elim (λ p. inl (run_since phase.Preremove x.preremove why before mid now fell p)) (λ p. inr (run_since phase.Mail x.mail why before mid now fell p)) cause

pub next_cause : (list : List Removal) (at : ℕ) (x : Removal) (why : Bad) (before mid now : Counts) → x ≡ get_or list at x → at < length list → Onward before mid → RemovalCause x why mid now → RetireCause list at why before now
next_cause list at x why before mid now is lt fell cause = record {
  first = take at list;
  refused = x;
  after = drop (at + 1) list;
  list_is = split_list list at x is lt;
  place_is = place list at lt;
  cause = cause_since x why before mid now fell cause;
}
