-- Stamps with their serial numbers and members determine each other.
use Rattle.std.proofs.Common.{◌≡◌, true, subst, sym, ◌∙◌, ℤ, ℕ, ◌++◌}
use Rattle.std.proofs.lemmas.Option.{same_Some}
use Rattle.lr_rules.specs.declared.path.Path.{Path}
use Rattle.lr_rules.specs.declared.rule.Format.{Format}
use Rattle.lr_rules.specs.declared.rule.Naming.{Naming}
use Rattle.lr_rules.specs.Limits.{is_format, or_none}
use Rattle.lr_rules.specs.Dated.{IsNumberedStamp, IsDatedAt}
use Rattle.lr_stamps.proofs.Formats.{format_apart}
use Rattle.lr_stamps.proofs.Members.{joined_same, middle_same}
use Rattle.lr_stamps.proofs.Serials.{one_numbered}
use Rattle.lr_stamps.proofs.StampLemmas.{member_same}

-- one member for each stamp and serial number
pub one_member : (n : Naming) (t : ℤ) (k : ℕ) (x y : Path) → or_none is_format n.dated ≡ true → IsDatedAt n t k x → IsDatedAt n t k y → x ≡ y
one_member n t k x y e a b = member_same n a.format t k x y a.dated (subst (λ d. or_none is_format d ≡ true) a.dated e) a b

-- one stamp and serial number for each member
pub one_stamp_at : (n : Naming) (t u : ℤ) (k l : ℕ) (x : Path) → or_none is_format n.dated ≡ true → IsDatedAt n t k x → IsDatedAt n u l x → (t ≡ u) × (k ≡ l)
one_stamp_at n t u k l x e a b = one_numbered a.format t u k l a.middle (format_apart a.format format) a.is (subst (IsNumberedStamp a.format u l) (sym middle) (subst (λ (g : Format). IsNumberedStamp g u l b.middle) (same_Some b.format a.format (sym b.dated ∙ a.dated)) b.is))
  where
    format : is_format a.format ≡ true
    format = subst (λ d. or_none is_format d ≡ true) a.dated e

    middle : a.middle ≡ b.middle
    middle = middle_same n.base n.ext a.middle b.middle (joined_same n.dir (n.base ++ a.middle ++ n.ext) (n.base ++ b.middle ++ n.ext) (sym a.named ∙ b.named))
