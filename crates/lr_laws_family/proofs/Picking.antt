-- Members by their paths.
use Rattle.std.proofs.Common.{◌≡◌, ◌⊎◌, inl, inr, Bool, true, false, bytes_eq, refl, sym, subst, List, [], ◌∷◌}
use Rattle.std.specs.Prelude.{All}
use Rattle.std.proofs.lemmas.List.Elements.{All-head, All-tail, All-contains}
use Rattle.std.proofs.lemmas.Slice.Eq.{bytes_eq-Decides}
use Rattle.lr_rules.specs.declared.path.Path.{Path}
use Rattle.lr_rules.specs.declared.rule.Naming.{Naming}
use Rattle.lr_rules.proofs.Bools.{not_both}
use Rattle.lr_host.specs.Fits.{IsFileAt}
use Rattle.lr_host.specs.Lists.{IsIn}
use Rattle.lr_host.specs.World.{Names}
use Rattle.lr_host.proofs.Lists.{in_to}
use Rattle.lr_family.specs.declared.stand.Member.{Member}
use Rattle.lr_family.specs.Places.{IsPlaceOf, AreNamed}
use Rattle.lr_laws_family.specs.Members.{NoMemberHas}

-- one of the members has the path, or none
pub has_or_none : (x : Path) (ms : List Member) → ((m : Member) × IsIn m ms × (m.path ≡ x)) ⊎ NoMemberHas ms x
has_or_none x [] = inr tt
has_or_none x (m ∷ ms) = go (bytes_eq m.path x) refl (has_or_none x ms)
  where
    go : (b : Bool) → bytes_eq m.path x ≡ b → ((k : Member) × IsIn k ms × (k.path ≡ x)) ⊎ NoMemberHas ms x → ((k : Member) × IsIn k (m ∷ ms) × (k.path ≡ x)) ⊎ NoMemberHas (m ∷ ms) x
    go true e r = inl (m, inl refl, (bytes_eq-Decides m.path x).0 e)
    go false e (inl r) = inl (r.0, inr r.1, r.2)
    go false e (inr r) = inr ((λ same. let t = (bytes_eq-Decides m.path x).1 (sym same) in not_both (bytes_eq m.path x) t e), r)

-- each of them has the path of its place
pub named_all : (n : Naming) (ms : List Member) (m : Member) → AreNamed n ms → IsIn m ms → IsPlaceOf n m.place m.path
named_all n ms m named i = All-contains (λ (m : Member). IsPlaceOf n m.place m.path) ms m named (in_to m ms i)

-- the member's path names a file
abbrev pub IsThere : Names → Member → Type 0
IsThere m member = IsFileAt m member.path

pub there_at : (n : Names) (ms : List Member) (m : Member) → All (IsThere n) ms → IsIn m ms → IsFileAt n m.path
there_at n [] m h i = absurd i
there_at n (y ∷ ys) m h (inl same) = subst (IsThere n) same (All-head (IsThere n) y ys h)
there_at n (y ∷ ys) m h (inr i) = there_at n ys m (All-tail (IsThere n) y ys h) i
