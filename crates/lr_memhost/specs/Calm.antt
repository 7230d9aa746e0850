-- When no count of a host in memory rises but for want of memory.
use Rattle.std.specs.Prelude.{◌≡◌, ◌⊎◌, ℕ, ◌≤◌, ◌-◌, ◌^◌, min, false, None, All}
use Rattle.lr_memhost.specs.Acts.{View, how_of, is_bad_ending, Starved}

-- The host isn't stopped, no other has the lock, and no failing call or bad end is listed that is still to come.
pub record IsCalm (v : View) : Type 0 where
  pub unlisted : (number : ℕ) → min v.calls (2 ^ 64 - 1) ≤ number → how_of v.failing number ≡ None
  pub up : v.down ≡ false
  pub free : v.rest.another ≡ false
  pub ends : All (λ e. is_bad_ending e ≡ false) v.rest.ends

-- no count rose
abbrev pub NoCountRose : View → View → Type 0
NoCountRose before after = (after.faults ≡ before.faults) × (after.rest.bad_ends ≡ before.rest.bad_ends)
    × (after.rest.held ≡ before.rest.held)

-- A call to a calm host leaves it calm, and raises no count unless memory was wanting.
abbrev pub StaysCalm : View → View → Type 0
StaysCalm before after = IsCalm before → IsCalm after × (NoCountRose before after ⊎ Starved before after)
