-- Words around the `=` behind the first of them.
use Rattle.std.proofs.Common.{◌≡◌, ℕ, ◌+◌, ◌≤◌, true, false, cond, eqb, List, [], ◌∷◌, ◌++◌, length, take, drop, ap, sym, ◌∙◌, append-nil, take-append-drop}
use Rattle.std.specs.Prelude.{Some}
use Rattle.lr_lex.specs.declared.sign.Sign.{Sign}
use Rattle.lr_lex.specs.declared.sign.Sign.TheVariants.{Blank}
use Rattle.lr_lex.specs.declared.scan.Scan.{Scan}
use Rattle.lr_lex.specs.Words.{words, parted}
use Rattle.lr_lex.specs.Scanning.{to_come}
use Rattle.lr_lex.proofs.Scanned.{fresh}

module _ (s0 s1 : Scan) (at p : ℕ) (ss : List Sign) (none : s0.words ≡ []) (outside : s0.inside ≡ false)
    (front : (more : List Sign) → to_come s0 at (take p ss ++ more) ≡ to_come s1 (at + p) more) where
  before : to_come s1 (at + p) [] ≡ words at (take p ss)
  before = sym (front []) ∙ ap (to_come s0 at) (append-nil (take p ss)) ∙ fresh s0 at (take p ss) none outside

  pub apart : (s2 : Scan) → eqb (length (to_come s1 (at + p) [])) 1 ≡ true → to_come s1 (at + p) (Blank ∷ drop (p + 1) ss) ≡ to_come s2 (at + p + 1) (drop (p + 1) ss)
      → to_come s2 (at + p + 1) (drop (p + 1) ss) ≡ words at (parted at ss (Some p))
  apart s2 one step =
      sym step ∙ sym (front (Blank ∷ drop (p + 1) ss)) ∙ fresh s0 at (take p ss ++ Blank ∷ drop (p + 1) ss) none outside
      ∙ sym (ap (λ b. words at (cond b (take p ss ++ Blank ∷ drop (p + 1) ss) ss)) (ap (λ ws. eqb (length ws) 1) (sym before) ∙ one))

  pub whole_words : p ≤ length ss → eqb (length (to_come s1 (at + p) [])) 1 ≡ false → to_come s1 (at + p) (drop p ss) ≡ words at (parted at ss (Some p))
  whole_words within other =
      sym (front (drop p ss)) ∙ ap (to_come s0 at) (take-append-drop p ss) ∙ fresh s0 at ss none outside
      ∙ sym (ap (λ b. words at (cond b (take p ss ++ Blank ∷ drop (p + 1) ss) ss)) (ap (λ ws. eqb (length ws) 1) (sym before) ∙ other))
