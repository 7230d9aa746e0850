-- The names of dated members: they have no slash, aren't empty, and are longer than the log's. Each stands in the family's directory.
use Rattle.std.proofs.Common.{◌≡◌, inl, inr, ℕ, ℤ, ◌<◌, ◌≤◌, Bool, true, false, ◌||◌, refl, sym, ◌∙◌, ap, subst, arith, List, [], ◌∷◌, ◌++◌, length, Option, Some, true≢false, ◌+◌, ◌-◌, min, take, cond, length-append, None}
use Rattle.std.specs.List.{list_any, list_all}
use Rattle.std.proofs.lemmas.Bool.{and_parts}
use Rattle.std.proofs.lemmas.List.{length-take}
use Rattle.lr_rules.specs.declared.path.Path.{Path}
use Rattle.lr_rules.specs.declared.rule.Format.{Format}
use Rattle.lr_rules.specs.declared.rule.Naming.{Naming}
use Rattle.lr_rules.specs.declared.rule.Piece.{Piece}
use Rattle.lr_rules.specs.declared.rule.Piece.TheVariants as piece
use Rattle.lr_rules.specs.Dated.{IsDatedAt}
use Rattle.lr_rules.specs.Limits.{is_plain_piece, are_first, is_epoch_alone, is_format, or_none}
use Rattle.lr_rules.specs.Names.{IsStampShape, number_pieces, IsMiddleShape, naming_of, ext_of, base_of, ends_with}
use Rattle.lr_rules.specs.Path.{is_slash, is_empty, path_fault, parent_of, last_of}
use Rattle.lr_rules.proofs.PathLemmas.{plain_both, parent_joined, last_joined}
use Rattle.lr_stamps.proofs.StampShapes.{numbered_shape}
use Rattle.lr_host.specs.Fits.{IsPart}
use Rattle.lr_laws.proofs.PlainStamps.{field_some, middle_plain}
use Rattle.lr_family.specs.Kin.{IsKin}
use Rattle.lr_laws_family.specs.Members.{IsNoMember}
use Rattle.lr_rules.specs.declared.rule.Rule.{Rule}
use Rattle.lr_host.proofs.Reading.{some_long}
use Rattle.lr_family.proofs.Paths.{unbarred}

-- ---- shapes of stamps

left_some : (xs ys : List ℕ) → is_empty xs ≡ false → is_empty (xs ++ ys) ≡ false
left_some [] ys h = absurd (cc h)
left_some (x ∷ xs) ys h = refl

right_some : (xs ys : List ℕ) → is_empty ys ≡ false → is_empty (xs ++ ys) ≡ false
right_some [] ys h = h
right_some (x ∷ xs) ys h = refl

long_some : (xs : List ℕ) → 0 < length xs → is_empty xs ≡ false
long_some [] lt = absurd (omega (arith, lt))
long_some (x ∷ xs) lt = refl

shape_some : (ps : List Piece) (w : List ℕ) → (ps ≡ [] → ⊥) → IsStampShape ps w → is_empty w ≡ false
shape_some [] w some h = absurd (some refl)
shape_some (piece.Byte b ∷ ps) w some h = ap is_empty h.1
shape_some (piece.Field f ∷ ps) w some h = ap is_empty h.2 ∙ left_some h.0 h.1 (long_some h.0 (field_some f h.0 h.3))

-- ---- formats within their limits

pieces_some : (f : Format) → is_format f ≡ true → f.pieces ≡ [] → ⊥
pieces_some f good none =
    let a = (and_parts (list_all is_plain_piece f.pieces) _ good).1 in
    let b = (and_parts _ _ a).1 in
    let h : (are_first f.pieces || is_epoch_alone f.pieces) ≡ true = (and_parts _ (are_first f.pieces || is_epoch_alone f.pieces) b).1 in
    true≢false (sym (subst (λ (ps : List Piece). (are_first ps || is_epoch_alone ps) ≡ true) none h))

more_some : (ps qs : List Piece) → (ps ≡ [] → ⊥) → ps ++ qs ≡ [] → ⊥
more_some [] qs some e = some refl
more_some (p ∷ ps) qs some e = cc

pub middle_some : (f : Format) (w : List ℕ) → is_format f ≡ true → IsMiddleShape (Some f) w → is_empty w ≡ false
middle_some f w good (inl h) = shape_some f.pieces w (pieces_some f good) h
middle_some f w good (inr h) = shape_some (f.pieces ++ number_pieces) w (more_some f.pieces number_pieces (pieces_some f good)) h.1

-- ---- lengths

-- a base and an extension together are as long as the log's name, or longer
pub base_long : (ext name : List ℕ) → length name ≤ length (base_of ext name) + length ext
base_long ext name = go (ends_with ext name)
  where
    cut : length (take (length name - length ext) name) ≡ min (length name - length ext) (length name)
    cut = length-take (length name - length ext) name

    go : (b : Bool) → length name ≤ length (cond b (take (length name - length ext) name) name) + length ext
    go true = omega (arith, cut)
    go false = omega arith

-- ---- members

-- the last part of a dated member's path
abbrev pub name_of : (n : Naming) (t : ℤ) (k : ℕ) (x : Path) → IsDatedAt n t k x → List ℕ
name_of n t k x at = n.base ++ at.middle ++ n.ext

module _ (log : Path) (n : Naming) (t : ℤ) (k : ℕ) (x : Path) (kin : IsKin log n) (good : or_none is_format n.dated ≡ true) (at : IsDatedAt n t k x) where
  pub format : is_format at.format ≡ true
  format = subst (λ (d : Option Format). or_none is_format d ≡ true) at.dated good

  pub shape : IsMiddleShape (Some at.format) at.middle
  shape = numbered_shape at.format t k at.middle at.is

  pub name_plain : list_any is_slash (name_of n t k x at) ≡ false
  name_plain = plain_both (n.base ++ at.middle) n.ext (plain_both n.base at.middle (unbarred n.base kin.base) (middle_plain at.format at.middle format shape)) (unbarred n.ext kin.ext)

  -- it can stand behind a slash
  pub name_part : IsPart (name_of n t k x at)
  name_part = (left_some (n.base ++ at.middle) n.ext (right_some n.base at.middle (middle_some at.format at.middle format shape)), name_plain)

  -- it stands in the family's directory
  pub stands_in : path_fault n.dir ≡ None → parent_of x ≡ n.dir
  stands_in path = ap parent_of at.named ∙ parent_joined n.dir (name_of n t k x at) path name_plain

  -- the path has a longer last part than base and extension together
  pub longer : length n.base + length n.ext < length (last_of x)
  longer =
      let last : length (last_of x) ≡ length (name_of n t k x at) = ap length (ap last_of at.named ∙ last_joined n.dir (name_of n t k x at) name_plain) in
      let whole : length (name_of n t k x at) ≡ length (n.base ++ at.middle) + length n.ext = length-append (n.base ++ at.middle) n.ext in
      let front : length (n.base ++ at.middle) ≡ length n.base + length at.middle = length-append n.base at.middle in
      let some : 0 < length at.middle = some_long at.middle (middle_some at.format at.middle format shape) in
      omega (arith, last, whole, front, some)

pub log_apart : (rule : Rule) (log : Path) → or_none is_format rule.dated ≡ true → IsKin log (naming_of rule log) → (t : ℤ) (k : ℕ) → IsDatedAt (naming_of rule log) t k log → ⊥
log_apart rule log good kin t k at =
    let long = longer log (naming_of rule log) t k log kin good at in
    let short = base_long (ext_of rule.addextension rule.extension (last_of log)) (last_of log) in
    omega (arith, long, short)

-- and no member's name, be they numbers or dates
pub no_member : (rule : Rule) (log : Path) → or_none is_format rule.dated ≡ true → IsKin log (naming_of rule log) → IsNoMember (naming_of rule log) log
no_member rule log good kin (inl m) = kin.apart m.0 m.1.0 m.1.1
no_member rule log good kin (inr d) = log_apart rule log good kin d.0 d.1 d.2
