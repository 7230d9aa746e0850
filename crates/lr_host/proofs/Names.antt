-- One name put among names.
use Rattle.std.proofs.Common.{◌≡◌, ◌≢◌, ◌⊎◌, inl, inr, Bool, true, false, cond, bytes_eq, refl, sym, ap}
use Rattle.std.proofs.lemmas.Slice.Eq.{bytes_eq-Decides}
use Rattle.lr_rules.specs.declared.path.Path.{Path}
use Rattle.lr_host.specs.declared.thing.Thing.{Thing}
use Rattle.lr_host.specs.World.{Names, put}
use Rattle.lr_host.specs.Fits.{IsDirectoryAt}
use Rattle.lr_host.specs.declared.thing.Thing.TheVariants as thing

pub put_cases : (n : Names) (x : Path) (t : Thing) (y : Path) (v : Thing) → put n x t y ≡ v → ((y ≡ x) × (t ≡ v)) ⊎ ((y ≢ x) × (n y ≡ v))
put_cases n x t y v e = go (bytes_eq x y) refl e
  where
    go : (b : Bool) → bytes_eq x y ≡ b → cond b t (n y) ≡ v → ((y ≡ x) × (t ≡ v)) ⊎ ((y ≢ x) × (n y ≡ v))
    go true q e = inl (sym ((bytes_eq-Decides x y).0 q), e)
    go false q e = inr ((λ same. let h : bytes_eq x y ≡ true = (bytes_eq-Decides x y).1 (sym same) in cc), e)

pub put_here : (n : Names) (x y : Path) (t : Thing) → y ≡ x → put n x t y ≡ t
put_here n x y t e = let q : bytes_eq x y ≡ true = (bytes_eq-Decides x y).1 (sym e) in ap (λ b. cond b t (n y)) q

pub put_other : (n : Names) (x y : Path) (t : Thing) → (y ≡ x → ⊥) → put n x t y ≡ n y
put_other n x y t ne = go (bytes_eq x y) refl
  where
    go : (b : Bool) → bytes_eq x y ≡ b → cond b t (n y) ≡ n y
    go true q = absurd (ne (sym ((bytes_eq-Decides x y).0 q)))
    go false q = refl

-- a directory stays one
-- a directory stands where one is made, and where one stood
pub put_directory : (n : Names) (x y : Path) → IsDirectoryAt n y → IsDirectoryAt (put n x thing.Directory) y
put_directory n x y d = go (bytes_eq x y)
  where
    go : (b : Bool) → cond b thing.Directory (n y) ≡ thing.Directory
    go true = refl
    go false = d
