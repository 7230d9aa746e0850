-- What a word says meets the limit of its kind.
use Rattle.std.proofs.Common.{◌≡◌, ℕ, Bool, true, false, cond, not, ◌&&◌, List, Ok, Err, refl, ap, sym, ◌∙◌}
use Rattle.std.proofs.lemmas.Bool.{and_parts}
use Rattle.lr_rules.specs.declared.fault.ConfKind.TheVariants as kind
use Rattle.lr_rules.specs.Limits.{is_extension, is_address, is_olddir}
use Rattle.lr_rules.specs.Path.{is_empty}
use Rattle.lr_words.specs.Words.{or_bad_path, extension_value, address_value, olddir_value}

-- a word that is given passed its test, and is itself
passed : (p : List ℕ → Bool) (word said : List ℕ) → or_bad_path (p word) word ≡ Ok said → p said ≡ true
passed p word said h = by (p word) refl h
  where
    by : (is : Bool) → p word ≡ is → cond is (Ok word) (Err kind.BadPath) ≡ Ok said → p said ≡ true
    by false at e = absurd (cc)
    by true at e = let same : word ≡ said = cc in ap p (sym same) ∙ at

pub extension_meets : (word said : List ℕ) → extension_value word ≡ Ok said → is_extension said ≡ true
unfolding extension_value
extension_meets word said h = passed is_extension word said h

pub address_meets : (word said : List ℕ) → address_value word ≡ Ok said → is_address said ≡ true
unfolding address_value
address_meets word said h = passed is_address word said h

pub olddir_meets : (word said : List ℕ) → olddir_value word ≡ Ok said → is_olddir said ≡ true
unfolding olddir_value
olddir_meets word said h = (and_parts (not (is_empty said)) (is_olddir said) (passed (λ w. not (is_empty w) && is_olddir w) word said h)).1
