-- Two shapes that begin with as many bytes have something in common where these are the same and what is behind them has.
use Rattle.std.proofs.Common.{◌≡◌, ℕ, zero, suc, Bool, true, false, List, [], ◌∷◌, ◌++◌, length, take, drop, refl, sym, ap, ◌∙◌, arith, nat_eq, cond, bytes_eq}
use Rattle.std.proofs.lemmas.Bool.Decides.{Decides-eqb}
use Rattle.std.proofs.lemmas.Slice.Eq.{bytes_eq-Decides}
use Rattle.lr_shapes.specs.declared.token.Token.{Token}
use Rattle.lr_shapes.specs.declared.token.Token.TheVariants.{Byte}
use Rattle.lr_shapes.specs.declared.shape.Shape.{Shape}
use Rattle.lr_shapes.specs.Pieces.{plain, stamp_tokens}
use Rattle.lr_shapes.specs.Shapes.{tokens_of}
use Rattle.lr_shapes.specs.Deciding.{meet}

meet_behind : (xs : List ℕ) (ts us : List Token) → meet (plain xs ++ ts) (plain xs ++ us) ≡ meet ts us
meet_behind [] ts us = refl
meet_behind (x ∷ xs) ts us =
    ap (λ b. cond b (meet (plain xs ++ ts) (plain xs ++ us)) false) ((Decides-eqb x x).1 refl) ∙ meet_behind xs ts us

meet_not : (xs ys : List ℕ) (ts us : List Token) → length xs ≡ length ys → (xs ≡ ys → ⊥) → meet (plain xs ++ ts) (plain ys ++ us) ≡ false
meet_not [] [] ts us long other = absurd (other refl)
meet_not [] (y ∷ ys) ts us long other = absurd (omega arith)
meet_not (x ∷ xs) [] ts us long other = absurd (omega arith)
meet_not (x ∷ xs) (y ∷ ys) ts us long other = go (nat_eq x y) refl (λ apart. meet_not xs ys ts us (omega arith) apart)
  where
    go : (b : Bool) → nat_eq x y ≡ b → ((xs ≡ ys → ⊥) → meet (plain xs ++ ts) (plain ys ++ us) ≡ false) → cond b (meet (plain xs ++ ts) (plain ys ++ us)) false ≡ false
    go false e rest = refl
    go true e rest = let same : x ≡ y = (Decides-eqb x y).0 e in rest (λ t. other (cc))

-- bytes, before and behind a place of theirs
pub plain_split : (n : ℕ) (xs : List ℕ) (ts : List Token) → plain xs ++ ts ≡ plain (take n xs) ++ (plain (drop n xs) ++ ts)
plain_split zero xs ts = refl
plain_split (suc n) [] ts = refl
plain_split (suc n) (x ∷ xs) ts = ap (λ (r : List Token). Byte x ∷ r) (plain_split n xs ts)

-- what stands behind the first part of a shape
abbrev pub past : Shape → List Token
past s = plain s.slash.now ++ (plain s.base.now ++ (s.begun.now ++ (stamp_tokens s.pieces.now ++ (stamp_tokens s.number.now ++ (plain s.ext.now ++ plain s.end.now)))))

pub left_behind : (s : Shape) (n : ℕ) (rest : List ℕ) (ts : List Token) → rest ≡ drop n s.dir.now → ts ≡ plain rest ++ past s → tokens_of s ≡ plain (take n s.dir.now) ++ ts
left_behind s n rest ts same is =
    plain_split n s.dir.now (past s) ∙ ap (λ (r : List Token). plain (take n s.dir.now) ++ r) (sym (is ∙ ap (λ (r : List ℕ). plain r ++ past s) same))

pub walked : (xs ys : List ℕ) (ts us more rest : List Token) → bytes_eq xs ys ≡ true → ts ≡ plain xs ++ more → us ≡ plain ys ++ rest → meet more rest ≡ meet ts us
walked xs ys ts us more rest same is other =
    let e : xs ≡ ys = (bytes_eq-Decides xs ys).0 same in
    let one : meet ts us ≡ meet (plain xs ++ more) (plain ys ++ rest) = cc in
    sym (meet_behind xs more rest) ∙ (ap (λ (zs : List ℕ). meet (plain xs ++ more) (plain zs ++ rest)) e ∙ sym one)

pub walked_not : (xs ys : List ℕ) (ts us more rest : List Token) → length xs ≡ length ys → bytes_eq xs ys ≡ false → ts ≡ plain xs ++ more → us ≡ plain ys ++ rest → meet ts us ≡ false
walked_not xs ys ts us more rest long apart is other =
    let one : meet ts us ≡ meet (plain xs ++ more) (plain ys ++ rest) = cc in
    one ∙ meet_not xs ys more rest long (λ e. let t = (bytes_eq-Decides xs ys).1 e in absurd (cc))
