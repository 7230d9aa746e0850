-- What a look says of the thing that the path names.
use Rattle.std.proofs.Common.{◌≡◌, ◌≢◌, ℕ, refl, Some, None, true, ap, arith, ◌∙◌}
use Rattle.lr_host.specs.declared.thing.Thing.{Thing}
use Rattle.lr_host.specs.declared.thing.Thing.TheVariants as thing
use Rattle.lr_host.specs.declared.thing.Kind.TheVariants as kind
use Rattle.lr_host.specs.declared.thing.Seen.{Seen}
use Rattle.lr_host.specs.World.{World, is_file}
use Rattle.lr_host.specs.Fits.{SeesThing}
use Rattle.lr_host.proofs.Places.{eq_same}

pub seen_file : (w : World) (t : Thing) (seen : Seen) → SeesThing w t (Some seen) → seen.kind ≡ kind.File → (g : ℕ) × (t ≡ thing.File g)
seen_file w thing.Nothing seen s k = absurd (let none : Some seen ≡ None = s in cc)
seen_file w (thing.File g) seen s k = (g, refl)
seen_file w thing.Directory seen s k = absurd (let dir : seen.kind ≡ kind.Dir = s in cc)
seen_file w thing.Other seen s k = absurd (let other : seen.kind ≡ kind.Other = s in cc)

pub seen_dir : (w : World) (t : Thing) (seen : Seen) → SeesThing w t (Some seen) → seen.kind ≡ kind.Dir → t ≡ thing.Directory
seen_dir w thing.Nothing seen s k = absurd (let none : Some seen ≡ None = s in cc)
seen_dir w (thing.File g) seen s k = absurd (let file : seen.kind ≡ kind.File = s.0 in cc)
seen_dir w thing.Directory seen s k = refl
seen_dir w thing.Other seen s k = absurd (let other : seen.kind ≡ kind.Other = s in cc)

pub seen_none : (w : World) (t : Thing) → SeesThing w t None → t ≡ thing.Nothing
seen_none w thing.Nothing s = refl
seen_none w (thing.File g) s = absurd s
seen_none w thing.Directory s = absurd s
seen_none w thing.Other s = absurd s

pub is_nothing : (t : Thing) → (t ≢ thing.Nothing → ⊥) → t ≡ thing.Nothing
is_nothing thing.Nothing h = refl
is_nothing (thing.File g) h = absurd (h (λ e. cc))
is_nothing thing.Directory h = absurd (h (λ e. cc))
is_nothing thing.Other h = absurd (h (λ e. cc))

-- ---- a path names one thing

pub nothing_no_file : (t : Thing) (g : ℕ) → t ≡ thing.Nothing → t ≡ thing.File g → ⊥
nothing_no_file t g a b = cc

pub nothing_no_dir : (t : Thing) → t ≡ thing.Nothing → t ≡ thing.Directory → ⊥
nothing_no_dir t a b = cc

pub nothing_no_other : (t : Thing) → t ≡ thing.Nothing → t ≡ thing.Other → ⊥
nothing_no_other t a b = cc

pub file_no_dir : (t : Thing) (g : ℕ) → t ≡ thing.File g → t ≡ thing.Directory → ⊥
file_no_dir t g a b = cc

pub same_file : (t : Thing) (f g : ℕ) → t ≡ thing.File f → t ≡ thing.File g → f ≡ g
same_file t f g a b = cc

pub is_file_true : (t : Thing) (g : ℕ) → is_file t g ≡ true → t ≡ thing.File g
is_file_true (thing.File f) g e = let h : f ≡ g = grind (arith, e) in ap thing.File h
is_file_true thing.Nothing g e = absurd (cc)
is_file_true thing.Directory g e = absurd (cc)
is_file_true thing.Other g e = absurd (cc)

pub true_is_file : (t : Thing) (g : ℕ) → t ≡ thing.File g → is_file t g ≡ true
true_is_file t g e = ap (λ v. is_file v g) e ∙ eq_same g
