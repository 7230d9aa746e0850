-- What the tool left, with writers' entries between: joined, and cut in two.
use Rattle.std.proofs.Common.{◌≡◌, subst, refl, List, [], ◌∷◌, ◌++◌}
use Rattle.lr_host.specs.declared.entry.Entry.{Entry}
use Rattle.lr_host.specs.World.{Past, ◌▸◌, world, then}
use Rattle.lr_host.specs.Fits.{Fits}
use Rattle.lr_host.specs.Told.{Each, IsTools, Made, at_first, by_writer, by_tool}
use Rattle.lr_host.specs.Opening.{IsJournal}

pub then_append : (p : Past) (xs ys : List Entry) → then p (xs ++ ys) ≡ then (then p xs) ys
then_append p [] ys = refl
then_append p (e ∷ es) ys = then_append (p ▸ e) es ys

pub made_on : (p q r : Past) (es fs : List Entry) → Made p es q → Made q fs r → Made p (fs ++ es) r
made_on p q _ es _ m at_first = m
made_on p q _ es fs m (by_writer {q = r} n i f) = by_writer (made_on p q r es fs m n) i f
made_on p q _ es _ m (by_tool {es = fs} {q = r} n i f) = by_tool (made_on p q r es fs m n) i f

-- a journal stays one
pub made_journal : (p q : Past) (es : List Entry) → Made p es q → IsJournal p → IsJournal q
made_journal p _ _ at_first j = j
made_journal p _ es (by_writer {q = q} m i f) j = (made_journal p q es m j, f)
made_journal p _ _ (by_tool {es = es} {q = q} m i f) j = (made_journal p q es m j, f)

-- the entries are the tool's
pub made_tools : (p q : Past) (es : List Entry) → Made p es q → Each IsTools es
made_tools p _ _ at_first = tt
made_tools p _ es (by_writer {q = q} m i f) = made_tools p q es m
made_tools p _ _ (by_tool {es = es} {q = q} m i f) = (i, made_tools p q es m)

-- ---- cut in two

pub record Cut (p q : Past) (new old : List Entry) : Type 0 where
  pub mid : Past
  pub first : Made p old mid
  pub second : Made mid new q

pub cut : (p q : Past) (es new old : List Entry) → es ≡ new ++ old → Made p es q → Cut p q new old
cut p q es [] old e m = record { mid = q; first = subst (λ (xs : List Entry). Made p xs q) e m; second = at_first }
cut p _ _ (n ∷ new) old e at_first = absurd (cc)
cut p _ es (n ∷ new) old e (by_writer {q = q} {e = d} m i f) = let c = cut p q es (n ∷ new) old e m in record { mid = c.mid; first = c.first; second = by_writer c.second i f }
cut p _ _ (n ∷ new) old e (by_tool {es = es} {q = q} {e = d} m i f) =
    let c = cut p q es new old (tails d n es (new ++ old) e) m in
    record { mid = c.mid; first = c.first; second = subst (λ (x : Entry). Made c.mid (x ∷ new) (q ▸ d)) (heads d n es (new ++ old) e) (by_tool c.second i f) }
  where
    heads : (x y : Entry) (xs ys : List Entry) → x ∷ xs ≡ y ∷ ys → x ≡ y
    heads x y xs ys e = cc

    tails : (x y : Entry) (xs ys : List Entry) → x ∷ xs ≡ y ∷ ys → xs ≡ ys
    tails x y xs ys e = cc

-- at one entry
pub record CutAt (p q : Past) (new : List Entry) (e : Entry) (old : List Entry) : Type 0 where
  pub mid : Past
  pub first : Made p old mid
  pub fits : Fits (world mid) e
  pub second : Made (mid ▸ e) new q

pub cut_one : (p q : Past) (es old : List Entry) (e : Entry) → es ≡ e ∷ old → Made p es q → CutAt p q [] e old
cut_one p _ _ old e is at_first = absurd (cc)
cut_one p _ es old e is (by_writer {q = q} m i f) = let c = cut_one p q es old e is m in record { mid = c.mid; first = c.first; fits = c.fits; second = by_writer c.second i f }
cut_one p _ _ old e is (by_tool {es = es} {q = q} {e = d} m i f) = record {
  mid = q;
  first = subst (λ (xs : List Entry). Made p xs q) tails m;
  fits = subst (Fits (world q)) heads f;
  second = subst (λ (x : Entry). Made (q ▸ x) [] (q ▸ d)) heads at_first;
}
  where
    heads : d ≡ e
    heads = cc

    tails : es ≡ old
    tails = cc
