-- First parts of what a tool left, and moments on the way.
use Rattle.std.proofs.Common.{◌≡◌, ◌⊎◌, inl, inr, ◌≤◌, refl, sym, ◌∙◌, ap, subst, arith, List, [], ◌∷◌, ◌++◌, reverse, append_assoc}
use Rattle.std.proofs.lemmas.List.{append-nil, reverse-append}
use Rattle.lr_rules.specs.declared.path.Path.{Path}
use Rattle.lr_rules.proofs.Heads.{heads, tails}
use Rattle.lr_host.specs.declared.entry.Entry.{Entry}
use Rattle.lr_host.specs.Fits.{Fits}
use Rattle.lr_host.specs.Safe.{IsPrefix, whole, shorter}
use Rattle.lr_host.specs.Quiet.{AttachedOnlySince}
use Rattle.lr_host.specs.Told.{IsTools, Made, at_first, by_writer, by_tool}
use Rattle.lr_host.specs.World.{Past, ◌▸◌, world}
use Rattle.lr_host.proofs.Made.{made_on, cut, CutAt, cut_one}
use Rattle.lr_host.proofs.Quiet.{size, since_before, since_behind}

-- ---- prefixes of a past

pub prefix_size : (p q : Past) → IsPrefix p q → size p ≤ size q
prefix_size p _ whole = omega arith
prefix_size p _ (shorter {q = q} i) = let r = prefix_size p q i in omega arith

pub prefix_on : (p q r : Past) → IsPrefix p q → IsPrefix q r → IsPrefix p r
prefix_on p q _ i whole = i
prefix_on p q _ i (shorter {q = r} j) = shorter (prefix_on p q r i j)

pub made_prefix : (p q : Past) (es : List Entry) → Made p es q → IsPrefix p q
made_prefix p _ _ at_first = whole
made_prefix p _ es (by_writer {q = q} m i f) = shorter (made_prefix p q es m)
made_prefix p _ _ (by_tool {es = es} {q = q} m i f) = shorter (made_prefix p q es m)

-- a moment on the way
pub record IsOnWay (p u q : Past) (es : List Entry) : Type 0 where
  pub old : List Entry
  pub new : List Entry
  pub es_are : es ≡ new ++ old
  pub before : Made p old u
  pub behind : Made u new q

-- a prefix of what has one more entry
pub prefix_last : (u r q : Past) (e : Entry) → IsPrefix u r → r ≡ q ▸ e → (u ≡ q ▸ e) ⊎ IsPrefix u q
prefix_last u _ q e whole is = inl is
prefix_last u _ q e (shorter {q = r} {e = d} i) is = inr (subst (IsPrefix u) same i)
  where
    same : r ≡ q
    same = cc

-- no prefix is longer
no_shorter : (p u : Past) → IsPrefix u p → size p ≤ size u → u ≡ p
no_shorter p u i le = go u p i le
  where
    go : (u p : Past) → IsPrefix u p → size p ≤ size u → u ≡ p
    go u _ whole le = refl
    go u _ (shorter {q = q} j) le = absurd (let r = prefix_size u q j in omega arith)

pub on_way : (p u q : Past) (es : List Entry) → Made p es q → IsPrefix p u → IsPrefix u q → IsOnWay p u q es
on_way p u _ _ at_first i j = record { old = []; new = []; es_are = refl; before = subst (λ (v : Past). Made p [] v) (sym (no_shorter p u j (prefix_size p u i))) at_first; behind = subst (λ (v : Past). Made v [] p) (sym (no_shorter p u j (prefix_size p u i))) at_first }
on_way p u _ es (by_writer {q = q} {e = e} m w f) i j = go (λ j. on_way p u q es m i j) (prefix_last u (q ▸ e) q e j refl)
  where
    go : (IsPrefix u q → IsOnWay p u q es) → (u ≡ q ▸ e) ⊎ IsPrefix u q → IsOnWay p u (q ▸ e) es
    go rest (inl same) = record { old = es; new = []; es_are = refl; before = subst (λ (v : Past). Made p es v) (sym same) (by_writer m w f); behind = subst (λ (v : Past). Made v [] (q ▸ e)) (sym same) at_first }
    go rest (inr k) = let r = rest k in record { old = r.old; new = r.new; es_are = r.es_are; before = r.before; behind = by_writer r.behind w f }
on_way p u _ _ (by_tool {es = es} {q = q} {e = e} m w f) i j = go (λ j. on_way p u q es m i j) (prefix_last u (q ▸ e) q e j refl)
  where
    go : (IsPrefix u q → IsOnWay p u q es) → (u ≡ q ▸ e) ⊎ IsPrefix u q → IsOnWay p u (q ▸ e) (e ∷ es)
    go rest (inl same) = record { old = e ∷ es; new = []; es_are = refl; before = subst (λ (v : Past). Made p (e ∷ es) v) (sym same) (by_tool m w f); behind = subst (λ (v : Past). Made v [] (q ▸ e)) (sym same) at_first }
    go rest (inr k) = let r = rest k in record { old = r.old; new = e ∷ r.new; es_are = ap (λ es. e ∷ es) r.es_are; before = r.before; behind = by_tool r.behind w f }

-- ---- in the order of the entries

-- what was left of these, and then of those, while writers were attached to such paths alone
pub record Middle (P : Path → Type 0) (p q : Past) (xs ys : List Entry) : Type 0 where
  pub mid : Past
  pub first : Made p (reverse xs) mid
  pub second : Made mid (reverse ys) q
  pub only_first : AttachedOnlySince P p mid
  pub only_second : AttachedOnlySince P mid q

pub middle : (P : Path → Type 0) (p q : Past) (xs ys : List Entry) → Made p (reverse (xs ++ ys)) q → AttachedOnlySince P p q → Middle P p q xs ys
middle P p q xs ys m only = let c = cut p q (reverse (xs ++ ys)) (reverse ys) (reverse xs) (reverse-append xs ys) m in
    record { mid = c.mid; first = c.first; second = c.second; only_first = since_before P p c.mid q (reverse xs) (reverse ys) c.first c.second only; only_second = since_behind P p c.mid q (reverse xs) (reverse ys) c.first c.second only }

-- the moment just before an entry
pub record At (P : Path → Type 0) (p q : Past) (xs : List Entry) (e : Entry) (ys : List Entry) : Type 0 where
  pub mid : Past
  pub first : Made p (reverse xs) mid
  pub fits : Fits (world mid) e
  pub second : Made (mid ▸ e) (reverse ys) q
  pub only_first : AttachedOnlySince P p mid
  pub only_second : AttachedOnlySince P (mid ▸ e) q

pub at : (P : Path → Type 0) (p q : Past) (xs : List Entry) (e : Entry) (ys : List Entry) → IsTools e → Made p (reverse (xs ++ (e ∷ ys))) q → AttachedOnlySince P p q → At P p q xs e ys
at P p q xs e ys i m only = one (middle P p q (xs ++ e ∷ []) ys (subst (λ (es : List Entry). Made p (reverse es) q) (sym (append_assoc xs (e ∷ []) ys)) m) only)
  where
    found : (v : Past) → Made p (reverse xs) v → Fits (world v) e → Made (v ▸ e) (reverse ys) q → At P p q xs e ys
    found v first fits second = record {
      mid = v;
      first = first;
      fits = fits;
      second = second;
      only_first = since_before P p v q (reverse xs) (reverse ys ++ e ∷ []) first (made_on v (v ▸ e) q (e ∷ []) (reverse ys) (by_tool at_first i fits) second) only;
      only_second = since_behind P p (v ▸ e) q (e ∷ reverse xs) (reverse ys) (by_tool first i fits) second only;
    }

    two : (r : Past) → Made r (reverse ys) q → CutAt p r [] e (reverse xs) → At P p q xs e ys
    two r second c = found c.mid c.first c.fits (subst (λ (es : List Entry). Made (c.mid ▸ e) es q) (append-nil (reverse ys)) (made_on (c.mid ▸ e) r q [] (reverse ys) c.second second))

    one : Middle P p q (xs ++ e ∷ []) ys → At P p q xs e ys
    one k = two k.mid k.second (cut_one p k.mid (reverse (xs ++ e ∷ [])) (reverse xs) e (reverse-append xs (e ∷ [])) k.first)

-- ---- first parts

-- A first part of a list that has an entry in its middle: it ends before the entry, or it has it.
pub data FirstPart (xs : List Entry) (e : Entry) (ys fs bs : List Entry) : Type 0 where
  ends_before : (rest : List Entry) → xs ≡ fs ++ rest → FirstPart xs e ys fs bs
  has_it : (more : List Entry) → fs ≡ xs ++ (e ∷ more) → ys ≡ more ++ bs → FirstPart xs e ys fs bs

pub first_part : (xs : List Entry) (e : Entry) (ys fs bs : List Entry) → xs ++ (e ∷ ys) ≡ fs ++ bs → FirstPart xs e ys fs bs
first_part xs e ys [] bs is = ends_before xs refl
first_part [] e ys (a ∷ fs) bs is = has_it fs (ap (λ x. x ∷ fs) (sym (heads e a ys (fs ++ bs) is))) (tails e a ys (fs ++ bs) is)
first_part (x ∷ xs) e ys (a ∷ fs) bs is = go (first_part xs e ys fs bs (tails x a (xs ++ (e ∷ ys)) (fs ++ bs) is))
  where
    same : x ≡ a
    same = heads x a (xs ++ (e ∷ ys)) (fs ++ bs) is

    go : FirstPart xs e ys fs bs → FirstPart (x ∷ xs) e ys (a ∷ fs) bs
    go (ends_before rest r) = ends_before rest (ap (λ y. y ∷ xs) same ∙ ap (λ zs. a ∷ zs) r)
    go (has_it more r s) = has_it more (ap (λ zs. a ∷ zs) r ∙ ap (λ y. y ∷ (xs ++ (e ∷ more))) (sym same)) s
