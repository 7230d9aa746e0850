-- Of two logs that meet the one finds the other.
use Rattle.std.proofs.Common.{◌≡◌, ◌∙◌, sym, ap, subst, refl, inl, inr, ⊎_elim, ◌⊎◌, ℕ, List, [], ◌∷◌, ◌++◌, append_assoc, append-nil, Option, Some, None, length, codes, if◌then◌else◌}
use Rattle.std.proofs.lemmas.List.{append_cancel_right}
use Rattle.std.specs.Prelude.{◌==◌}
use Rattle.std.proofs.Math.Logic.{⊎_swap}
use Rattle.lr_rules.specs.declared.rule.Naming.{Naming}
use Rattle.lr_rules.specs.declared.rule.Format.{Format}
use Rattle.lr_rules.specs.declared.rule.Piece.{Piece}
use Rattle.lr_rules.specs.declared.rule.Piece.TheVariants as piece
use Rattle.lr_rules.specs.Match.{part_end}
use Rattle.lr_rules.specs.Names.{aside_path, IsStampShape, number_pieces, IsMiddleShape, IsMemberShape, IsOwnName, the_log, set_aside, a_member, a_part, IsName, Meet, IsBesideLog}
use Rattle.lr_rules.specs.Path.{joined}
use Rattle.lr_shapes.specs.Fronts.{Begins}
use Rattle.lr_family.specs.declared.family.Family.{Family}
use Rattle.lr_kept.specs.Fronts.{before_field, middle_front, member_front, below, FindsFront}

begins_more : (front bytes more : List ℕ) → Begins front bytes → Begins front (bytes ++ more)
begins_more front bytes more h = (h.0 ++ more, ap (λ xs. xs ++ more) h.1 ∙ append_assoc front h.0 more)

stamp_begins : (pieces : List Piece) (middle : List ℕ) → IsStampShape pieces middle → Begins (before_field pieces) middle
stamp_begins [] middle h = (middle, refl)
stamp_begins (piece.Byte b ∷ pieces) middle h =
    let more = stamp_begins pieces h.0 h.2 in
    (more.0, h.1 ∙ ap (λ xs. b ∷ xs) more.1)
stamp_begins (piece.Field f ∷ pieces) middle h = (middle, refl)

-- also where more stands behind them
front_begins : (pieces more : List Piece) (middle : List ℕ) → IsStampShape (pieces ++ more) middle → Begins (before_field pieces) middle
front_begins [] more middle h = (middle, refl)
front_begins (piece.Byte b ∷ pieces) more middle h =
    let rest = front_begins pieces more h.0 h.2 in
    (rest.0, h.1 ∙ ap (λ xs. b ∷ xs) rest.1)
front_begins (piece.Field f ∷ pieces) more middle h = (middle, refl)

middle_begins : (dated : Option Format) (middle : List ℕ) → IsMiddleShape dated middle → Begins (middle_front dated) middle
middle_begins None middle h = (h.0, h.1)
middle_begins (Some format) middle (inl h) = stamp_begins format.pieces middle h
middle_begins (Some format) middle (inr h) = front_begins format.pieces number_pieces middle h.1

spelled : (dir base front rest ext end : List ℕ) → dir ++ 47 ∷ (((base ++ (front ++ rest)) ++ ext) ++ end) ≡ (dir ++ 47 ∷ (base ++ front)) ++ (rest ++ (ext ++ end))
spelled dir base front rest ext end = simp append_assoc

member_begins : (n : Naming) (last end : List ℕ) → IsMemberShape n last → Begins (member_front n) (joined n.dir (last ++ end))
member_begins n last end h =
    let more = middle_begins n.dated h.0 h.1 in (
      more.0 ++ (n.ext ++ end),
      ap (λ xs. joined n.dir (xs ++ end)) (h.2 ∙ ap (λ m. (n.base ++ m) ++ n.ext) more.1)
          ∙ spelled (if length n.dir == 1 then [] else n.dir) n.base (middle_front n.dated) more.0 n.ext end,
    )

-- what a name of the log's own is or begins with
abbrev OwnBegins : List ℕ → Naming → List ℕ → Type 0
OwnBegins log n x = (x ≡ log) ⊎ (Begins (member_front n) x ⊎ IsBesideLog log n x)

own_begins : (log : List ℕ) (n : Naming) (x : List ℕ) → IsOwnName log n x → OwnBegins log n x
own_begins log n x (the_log e) = inl e
own_begins log n x (set_aside on e) = inr (inr (on, e))
own_begins log n x (a_member last shape e) = inr (inl (subst (λ (y : List ℕ). Begins (member_front n) y) (ap (λ ys. joined n.dir ys) (append-nil last) ∙ sym e) (member_begins n last [] shape)))
own_begins log n x (a_part last shape e) = inr (inl (subst (λ (y : List ℕ). Begins (member_front n) y) (sym e) (member_begins n last part_end shape)))

-- of two that begin the same bytes the one begins the other
begin_alike : (f g x : List ℕ) → Begins f x → Begins g x → Begins f g ⊎ Begins g f
begin_alike [] g x h k = inl (g, refl)
begin_alike (c ∷ f) [] x h k = inr (c ∷ f, refl)
begin_alike (c ∷ f) (d ∷ g) x h k =
    let both : c ∷ (f ++ h.0) ≡ d ∷ (g ++ k.0) = sym h.1 ∙ k.1 in
    let head : c ≡ d = cc both in
    let tail : f ++ h.0 ≡ g ++ k.0 = cc both in
    ⊎_elim
    (λ (m : Begins f g). inl (m.0, ap (λ n. n ∷ g) (sym head) ∙ ap (λ xs. c ∷ xs) m.1))
    (λ (m : Begins g f). inr (m.0, ap (λ n. n ∷ f) head ∙ ap (λ xs. d ∷ xs) m.1))
    (begin_alike f g (f ++ h.0) (h.0, refl) (k.0, tail))

-- the bytes are a front of the log
abbrev pub IsFrontOf : Family → List ℕ → Type 0
IsFrontOf f bytes = (bytes ≡ f.log) ⊎ ((bytes ≡ member_front f.naming) ⊎ ((bytes ≡ below f.naming.dir) ⊎ IsBesideLog f.log f.naming bytes))

-- the one finds a front of the other
abbrev pub FindsIt : Family → Family → Type 0
FindsIt f g = (bytes : List ℕ) × IsFrontOf g bytes × FindsFront f bytes

-- the same bytes
begins_same : (front bytes : List ℕ) → bytes ≡ front → Begins front bytes
begins_same front bytes e = ([], e ∙ sym (append-nil front))

-- what a name of the log is or begins with
abbrev NameBegins : Family → List ℕ → Type 0
NameBegins g x = OwnBegins g.log g.naming x ⊎ (x ≡ g.naming.dir)

by_log : (f g : Family) → (f.log ≡ g.log → ⊥) → (x : List ℕ) → x ≡ f.log → NameBegins g x → FindsIt f g ⊎ FindsIt g f
by_log f g apart x e (inl (inl k)) = absurd (apart (sym e ∙ k))
by_log f g apart x e (inl (inr (inl k))) = inr (f.log, inl refl, inl (subst (λ (y : List ℕ). Begins (member_front g.naming) y) e k))
by_log f g apart x e (inl (inr (inr k))) = inr (f.log, inl refl, inr (inr (k.0, begins_same (aside_path g.log) f.log (sym e ∙ k.1))))
by_log f g apart x e (inr k) = inl (below g.naming.dir, inr (inr (inl refl)), inr (inl (begins_same (below f.log) (below g.naming.dir) (ap (λ xs. below xs) (sym k ∙ e)))))

by_members : (f g : Family) (x : List ℕ) → Begins (member_front f.naming) x → NameBegins g x → FindsIt f g ⊎ FindsIt g f
by_members f g x h (inl (inl k)) = inl (g.log, inl refl, inl (subst (λ (y : List ℕ). Begins (member_front f.naming) y) k h))
by_members f g x h (inl (inr (inl k))) = ⊎_elim
    (λ (m : Begins (member_front f.naming) (member_front g.naming)). inl (member_front g.naming, inr (inl refl), inl m))
    (λ (m : Begins (member_front g.naming) (member_front f.naming)). inr (member_front f.naming, inr (inl refl), inl m))
    (begin_alike (member_front f.naming) (member_front g.naming) x h k)
by_members f g x h (inl (inr (inr k))) = inl (aside_path g.log, inr (inr (inr (k.0, refl))), inl (subst (λ (y : List ℕ). Begins (member_front f.naming) y) k.1 h))
by_members f g x h (inr k) = inl (below g.naming.dir, inr (inr (inl refl)), inl (begins_more (member_front f.naming) g.naming.dir (47 ∷ []) (subst (λ (y : List ℕ). Begins (member_front f.naming) y) k h)))

by_aside : (f g : Family) → (f.log ≡ g.log → ⊥) → (x : List ℕ) → IsBesideLog f.log f.naming x → NameBegins g x → FindsIt f g ⊎ FindsIt g f
by_aside f g apart x h (inl (inl k)) = inl (g.log, inl refl, inr (inr (h.0, begins_same (aside_path f.log) g.log (sym k ∙ h.1))))
by_aside f g apart x h (inl (inr (inl k))) = inr (aside_path f.log, inr (inr (inr (h.0, refl))), inl (subst (λ (y : List ℕ). Begins (member_front g.naming) y) h.1 k))
by_aside f g apart x h (inl (inr (inr k))) = absurd (apart (append_cancel_right f.log g.log (codes ".tmp") (sym h.1 ∙ k.1)))
by_aside f g apart x h (inr k) = inl (below g.naming.dir, inr (inr (inl refl)), inr (inr (h.0, (47 ∷ [], ap (λ xs. below xs) (sym k ∙ h.1)))))

by_name : (f g : Family) → (f.log ≡ g.log → ⊥) → (x : List ℕ) → OwnBegins f.log f.naming x → NameBegins g x → FindsIt f g ⊎ FindsIt g f
by_name f g apart x (inl e) k = by_log f g apart x e k
by_name f g apart x (inr (inl h)) k = by_members f g x h k
by_name f g apart x (inr (inr h)) k = by_aside f g apart x h k

name_begins : (g : Family) (x : List ℕ) → IsName g.log g.naming x → NameBegins g x
name_begins g x (inl own) = inl (own_begins g.log g.naming x own)
name_begins g x (inr e) = inr e

by_meeting : (f g : Family) → (f.log ≡ g.log → ⊥) → (x : List ℕ) → (IsOwnName f.log f.naming x × IsName g.log g.naming x) ⊎ (IsName f.log f.naming x × IsOwnName g.log g.naming x) → FindsIt f g ⊎ FindsIt g f
by_meeting f g apart x (inl h) = by_name f g apart x (own_begins f.log f.naming x h.0) (name_begins g x h.1)
by_meeting f g apart x (inr h) = ⊎_swap (by_name g f (λ e. apart (sym e)) x (own_begins g.log g.naming x h.1) (name_begins f x h.0))

pub one_finds : (f g : Family) → (f.log ≡ g.log → ⊥) → Meet f.log f.naming g.log g.naming → FindsIt f g ⊎ FindsIt g f
one_finds f g apart m = by_meeting f g apart m.0 m.1

pub meet_back : (f g : Family) → Meet f.log f.naming g.log g.naming → Meet g.log g.naming f.log f.naming
meet_back f g m = (m.0, back m.1)
  where
    back : (IsOwnName f.log f.naming m.0 × IsName g.log g.naming m.0) ⊎ (IsName f.log f.naming m.0 × IsOwnName g.log g.naming m.0) → (IsOwnName g.log g.naming m.0 × IsName f.log f.naming m.0) ⊎ (IsName g.log g.naming m.0 × IsOwnName f.log f.naming m.0)
    back (inl h) = inr (h.1, h.0)
    back (inr h) = inl (h.1, h.0)
