use Rattle.std.proofs.Common.{◌≡◌, ◌≢◌, ℕ, inl, inr, ◌⊎◌}
use Rattle.lr_kept.specs.declared.choice.Choice.{Choice}
use Rattle.lr_kept.specs.declared.choice.Choice.TheVariants.{Kept, Again, MemberOf, Reserved, Meets}
use Rattle.lr_kept.specs.Barred.{stays}
use Rattle.lr_kept.proofs.barred.opened.Goals as goal

other : (c : Choice) → ((i : ℕ) × (c ≡ Again i)) ⊎ (((i : ℕ) × (c ≡ MemberOf i)) ⊎ (((i : ℕ) × (c ≡ Reserved i)) ⊎ ((i : ℕ) × (c ≡ Meets i)))) → c ≢ Kept
other c (inl h) e = absurd (cc (h.1, e))
other c (inr (inl h)) e = absurd (cc (h.1, e))
other c (inr (inr (inl h))) e = absurd (cc (h.1, e))
other c (inr (inr (inr h))) e = absurd (cc (h.1, e))

pub returns-in-Again : goal.returns-in-Again
returns-in-Again c = stays c.args.choice (other c.args.choice c.in-Again.is)
