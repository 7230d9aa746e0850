-- Where the fronts stand that begin with given bytes.
use Rattle.std.proofs.Common.{◌≡◌, ◌∙◌, sym, subst, refl, ⊎_elim, ◌↔◌, ℕ, ◌<◌, ◌≤◌, List, length, get_or, drop, Bool, true, false, ◌||◌, Some, slice_get, eqb, true≢false, arith}
use Rattle.std.specs.List.{starts_with}
use Rattle.std.specs.List.Sorted.{IsPartitionedBy, IsPartitionPoint}
use Rattle.std.proofs.lemmas.Bool.{cases_Bool, cases_lt, or_left, or_right, or_cases}
use Rattle.std.proofs.lemmas.Bool.Decides.{Decides-eqb}
use Rattle.std.proofs.lemmas.List.Sorted.{sorted_far}
use Rattle.std.proofs.lemmas.List.MinMax.{ranks_by}
use Rattle.std.proofs.lemmas.Cmp.{nat_list_cmp_total}
use Rattle.std.proofs.lemmas.Option.{slice_get_within, slice_get-get_or, get_or_from_slice_get}
use Rattle.std.proofs.lemmas.Slice.Eq.{starts_is}
use Rattle.lr_shapes.specs.Fronts.{Begins}
use Rattle.lr_kept.specs.declared.front.Front.{Front}
use Rattle.lr_kept.specs.Fronts.{AreBegunWithin, AreInOrder}
use Rattle.lr_kept.proofs.Order.{lt, between, lower, not_before}

abbrev pub is_before : List ℕ → Front → Bool
is_before b f = lt f.bytes b

starts_from : (b x : List ℕ) → Begins b x → starts_with eqb x b ≡ true
starts_from b x h = (starts_is Decides-eqb x b (starts_with eqb x b) refl).1 h.0 h.1

starts_so : (b x : List ℕ) → starts_with eqb x b ≡ true → Begins b x
starts_so b x h = (drop (length b) x, (starts_is Decides-eqb x b (starts_with eqb x b) refl).0 h)

far : (fs : List Front) → AreInOrder fs → (i j : ℕ) (d : Front) → i ≤ j → j < length fs → lt (get_or fs j d).bytes (get_or fs i d).bytes ≡ false
far fs up i j d le l = sorted_far (λ (x y : Front). lt x.bytes y.bytes) (ranks_by nat_list_cmp_total (λ (f : Front). f.bytes)) fs up i j d le l

pub before_parted : (b : List ℕ) (fs : List Front) → AreInOrder fs → IsPartitionedBy (is_before b) fs
before_parted b fs up i j d le l h = lower (get_or fs i d).bytes (get_or fs j d).bytes b (far fs up i j d le l) h

down : (b g h : List ℕ) → lt h g ≡ false → Begins b h → (lt g b || starts_with eqb g b) ≡ true
down b g h up begins = ⊎_elim
    (λ (e : lt g b ≡ true). or_left (lt g b) (starts_with eqb g b) e)
    (λ (e : lt g b ≡ false). or_right (lt g b) (starts_with eqb g b) (starts_from b g (between b g begins.0 (subst (λ (x : List ℕ). lt x g ≡ false) begins.1 up) e)))
    (cases_Bool (lt g b))

module _ (p : Front → Bool) (fs : List Front) (i : ℕ) (point : IsPartitionPoint (λ y. p y ≡ true) (λ y. p y ≡ false) fs i) (t : ℕ) (f : Front) (at : slice_get fs t ≡ Some f) where
  holds_below : t < i → p f ≡ true
  holds_below l = subst (λ (y : Front). p y ≡ true) (get_or_from_slice_get fs t f f at) (point.0 t f (omega arith) l)

  fails_from : i ≤ t → p f ≡ false
  fails_from l = subst (λ (y : Front). p y ≡ false) (get_or_from_slice_get fs t f f at) (point.1 t f l (slice_get_within fs t f at))

  below_where : p f ≡ true → t < i
  below_where h = ⊎_elim (λ l. l) (λ (l : i ≤ t). absurd (true≢false (sym h ∙ fails_from l))) (cases_lt t i)

  from_where : p f ≡ false → i ≤ t
  from_where h = ⊎_elim (λ (l : t < i). absurd (true≢false (sym (holds_below l) ∙ h))) (λ l. l) (cases_lt t i)

module _ (b : List ℕ) (fs : List Front) (from to : ℕ) (order : AreInOrder fs) (first : IsPartitionPoint (λ y. is_before b y ≡ true) (λ y. is_before b y ≡ false) fs from)
    (le : from ≤ to) (begun : AreBegunWithin fs b from to) (ends : (f : Front) → slice_get fs to ≡ Some f → starts_with eqb f.bytes b ≡ false) where
  -- what begins so stands before the end, since the one there would begin so too
  before_end : (t : ℕ) (f : Front) → slice_get fs t ≡ Some f → Begins b f.bytes → to ≤ t → ⊥
  before_end t f at h up =
      let short : t < length fs = slice_get_within fs t f at in
      let g : Front = get_or fs to f in
      let there : slice_get fs to ≡ Some g = slice_get-get_or fs to f (omega arith) in
      let no : is_before b g ≡ false = fails_from (is_before b) fs from first to g there le in
      let over : lt f.bytes g.bytes ≡ false = subst (λ (x : Front). lt x.bytes g.bytes ≡ false) (get_or_from_slice_get fs t f f at) (far fs order to t f up short) in
      ⊎_elim
      (λ (e : lt g.bytes b ≡ true). true≢false (sym e ∙ no))
      (λ (e : starts_with eqb g.bytes b ≡ true). true≢false (sym e ∙ ends g there))
      (or_cases (lt g.bytes b) (starts_with eqb g.bytes b) (down b g.bytes f.bytes over h))

  pub exact : (t : ℕ) (f : Front) → slice_get fs t ≡ Some f → ((from ≤ t) × (t < to)) ↔ Begins b f.bytes
  exact t f at = (
    λ r. starts_so b f.bytes (begun t f at r.0 r.1),
    λ h. (
      from_where (is_before b) fs from first t f at (subst (λ (x : List ℕ). lt x b ≡ false) (sym h.1) (not_before b h.0)),
      ⊎_elim (λ (l : t < to). l) (λ (l : to ≤ t). absurd (before_end t f at h l)) (cases_lt t to),
    ),
  )
