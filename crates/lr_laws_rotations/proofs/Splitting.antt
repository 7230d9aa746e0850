-- Woven steps, and what a run left of them, in two at one of the steps.
use Rattle.std.proofs.Common.{◌≡◌, Bool, true, false, cond, refl, sym, ◌∙◌, ap, subst, List, [], ◌∷◌, ◌++◌, reverse, append-nil}
use Rattle.std.specs.Prelude.{filter}
use Rattle.std.proofs.lemmas.List.{reverse-append}
use Rattle.lr_rules.proofs.Heads.{heads, tails}
use Rattle.lr_host.specs.declared.entry.Entry.{Entry}
use Rattle.lr_host.specs.Fits.{Fits}
use Rattle.lr_host.specs.Sets.{LogSet}
use Rattle.lr_host.specs.Steady.{NoneAttached}
use Rattle.lr_host.specs.Steps.{is_change}
use Rattle.lr_host.specs.Told.{Each, Made, at_first, by_writer, by_tool}
use Rattle.lr_host.specs.World.{Past, ◌▸◌, world}
use Rattle.lr_host.proofs.Made.{Cut, cut, CutAt, cut_one, made_on}
use Rattle.lr_laws.proofs.Writing.{attached_before}
use Rattle.lr_laws_family.specs.Weave.{Weave, none, own, other, FirstWoven}

-- ---- woven steps

-- A first part of the first steps; or all of them, the one step, and a first part of those behind it.
pub data FirstSplit (P : Entry → Type 0) (xs : List Entry) (e : Entry) (ys all : List Entry) : Type 0 where
  not_yet : FirstWoven P xs all → FirstSplit P xs e ys all
  further : (us vs : List Entry) → all ≡ us ++ (e ∷ vs) → Weave P xs us → FirstWoven P ys vs → FirstSplit P xs e ys all

split_first : (P : Entry → Type 0) (xs : List Entry) (e : Entry) (ys made after all : List Entry) → xs ++ (e ∷ ys) ≡ made ++ after → Weave P made all → FirstSplit P xs e ys all
split_first P xs e ys _ after _ is none = not_yet (record { made = []; first = (xs, refl); woven = none })
split_first P xs e ys made after _ is (other {all = all} d p w) = go (split_first P xs e ys made after all is w)
  where
    go : FirstSplit P xs e ys all → FirstSplit P xs e ys (d ∷ all)
    go (not_yet f) = not_yet (record { made = f.made; first = f.first; woven = other d p f.woven })
    go (further us vs eq v f) = further (d ∷ us) vs (ap (λ zs. d ∷ zs) eq) (other d p v) f
split_first P [] e ys _ after _ is (own {steps = made} {all = all} d w) =
    further [] all (ap (λ x. x ∷ all) (sym (heads e d ys (made ++ after) is))) none (record { made = made; first = (after, tails e d ys (made ++ after) is); woven = w })
split_first P (x ∷ xs) e ys _ after _ is (own {steps = made} {all = all} d w) = go (split_first P xs e ys made after all (tails x d (xs ++ (e ∷ ys)) (made ++ after) is) w)
  where
    same : x ≡ d
    same = heads x d (xs ++ (e ∷ ys)) (made ++ after) is

    go : FirstSplit P xs e ys all → FirstSplit P (x ∷ xs) e ys (d ∷ all)
    go (not_yet f) = not_yet (record { made = d ∷ f.made; first = (f.first.0, ap (λ z. z ∷ xs) same ∙ ap (λ zs. d ∷ zs) f.first.1); woven = own d f.woven })
    go (further us vs eq v f) = further (d ∷ us) vs (ap (λ zs. d ∷ zs) eq) (subst (λ (z : Entry). Weave P (z ∷ xs) (d ∷ us)) (sym same) (own d v)) f

pub first_split : (P : Entry → Type 0) (xs : List Entry) (e : Entry) (ys all : List Entry) → FirstWoven P (xs ++ (e ∷ ys)) all → FirstSplit P xs e ys all
first_split P xs e ys all f = split_first P xs e ys f.made f.first.0 all f.first.1 f.woven

-- steps that are of P themselves stand among the others
pub absorbed : (P : Entry → Type 0) (os es : List Entry) → Each P os → Weave P os es → Weave P [] es
absorbed P _ _ a none = none
absorbed P _ _ a (own {steps = os} {all = es} e w) = other e a.0 (absorbed P os es a.1 w)
absorbed P os _ a (other {all = es} e p w) = other e p (absorbed P os es a w)

-- what holds of the steps and of the others holds of all
pub each_woven : (P Q : Entry → Type 0) (os es : List Entry) → Each Q os → ((e : Entry) → P e → Q e) → Weave P os es → Each Q es
each_woven P Q _ _ a f none = tt
each_woven P Q _ _ a f (own {steps = os} {all = es} e w) = (a.0, each_woven P Q os es a.1 f w)
each_woven P Q os _ a f (other {all = es} e p w) = (f e p, each_woven P Q os es a f w)

-- ---- among entries of which some change nothing

-- what holds of the changes and of all else
pub each_unfiltered : (Q : Entry → Type 0) (es : List Entry) → ((e : Entry) → is_change e ≡ false → Q e) → Each Q (filter is_change es) → Each Q es
each_unfiltered Q [] f a = tt
each_unfiltered Q (e ∷ es) f a = go (each_unfiltered Q es f) (is_change e) refl a
  where
    go : (Each Q (filter is_change es) → Each Q es) → (b : Bool) → is_change e ≡ b → Each Q (cond b (e ∷ filter is_change es) (filter is_change es)) → Each Q (e ∷ es)
    go rest true h a = (a.0, rest a.1)
    go rest false h a = (f e h, rest a)

-- the entries in two at one of their changes
pub record FilterAt (acts us : List Entry) (e : Entry) (vs : List Entry) : Type 0 where
  pub front : List Entry
  pub back : List Entry
  pub joined : acts ≡ front ++ (e ∷ back)
  pub first : filter is_change front ≡ us
  pub second : filter is_change back ≡ vs

pub filter_at : (acts us : List Entry) (e : Entry) (vs : List Entry) → filter is_change acts ≡ us ++ (e ∷ vs) → FilterAt acts us e vs
filter_at [] [] e vs is = absurd (cc)
filter_at [] (u ∷ us) e vs is = absurd (cc)
filter_at (d ∷ acts) us e vs is = go (λ more eq. filter_at acts more e vs eq) (is_change d) refl is
  where
    passed : is_change d ≡ false → FilterAt acts us e vs → FilterAt (d ∷ acts) us e vs
    passed h f = record {
      front = d ∷ f.front;
      back = f.back;
      joined = ap (λ zs. d ∷ zs) f.joined;
      first = ap (λ (b : Bool). cond b (d ∷ filter is_change f.front) (filter is_change f.front)) h ∙ f.first;
      second = f.second;
    }

    here : ((more : List Entry) → filter is_change acts ≡ more ++ (e ∷ vs) → FilterAt acts more e vs) → (us : List Entry) → is_change d ≡ true → d ∷ filter is_change acts ≡ us ++ (e ∷ vs) → FilterAt (d ∷ acts) us e vs
    here rest [] h is = record {
      front = [];
      back = acts;
      joined = ap (λ x. x ∷ acts) (heads d e (filter is_change acts) vs is);
      first = refl;
      second = tails d e (filter is_change acts) vs is;
    }
    here rest (u ∷ us) h is = let f = rest us (tails d u (filter is_change acts) (us ++ (e ∷ vs)) is) in record {
      front = d ∷ f.front;
      back = f.back;
      joined = ap (λ zs. d ∷ zs) f.joined;
      first = ap (λ (b : Bool). cond b (d ∷ filter is_change f.front) (filter is_change f.front)) h ∙ (ap (λ zs. d ∷ zs) f.first ∙ ap (λ x. x ∷ us) (heads d u (filter is_change acts) (us ++ (e ∷ vs)) is));
      second = f.second;
    }

    go : ((more : List Entry) → filter is_change acts ≡ more ++ (e ∷ vs) → FilterAt acts more e vs) → (b : Bool) → is_change d ≡ b → cond b (d ∷ filter is_change acts) (filter is_change acts) ≡ us ++ (e ∷ vs) → FilterAt (d ∷ acts) us e vs
    go rest true h is = here rest us h is
    go rest false h is = passed h (rest us is)

-- ---- the moment of one of them

-- just before it, and behind it
pub record MadeAt (p q : Past) (front : List Entry) (e : Entry) (back : List Entry) : Type 0 where
  pub at : Past
  pub ahead : Made p (reverse front) at
  pub fits : Fits (world at) e
  pub behind : Made (at ▸ e) (reverse back) q

pub made_at : (p q : Past) (acts front : List Entry) (e : Entry) (back : List Entry) → acts ≡ front ++ (e ∷ back) → Made p (reverse acts) q → MadeAt p q front e back
made_at p q acts front e back joined m = record {
  at = a.mid;
  ahead = made_on p k.mid a.mid (reverse front) [] k.first a.first;
  fits = a.fits;
  behind = subst (λ (ts : List Entry). Made (a.mid ▸ e) ts q) (append-nil (reverse back)) (made_on (a.mid ▸ e) c.mid q [] (reverse back) a.second c.second);
}
  where
    k : Cut p q (reverse (e ∷ back)) (reverse front)
    k = cut p q (reverse acts) (reverse (e ∷ back)) (reverse front) (ap reverse joined ∙ reverse-append front (e ∷ back)) m

    c : Cut k.mid q (reverse back) (e ∷ [])
    c = cut k.mid q (reverse (e ∷ back)) (reverse back) (e ∷ []) (reverse-append (e ∷ []) back) k.second

    a : CutAt k.mid c.mid [] e []
    a = cut_one k.mid c.mid (e ∷ []) [] e refl c.first

-- no member had been attached before
pub attached_at : (s : LogSet) (p q : Past) (es : List Entry) → Made p es q → NoneAttached s q → NoneAttached s p
attached_at s p _ _ at_first a = a
attached_at s p _ es (by_writer {q = q} {e = e} m i f) a = attached_at s p q es m (attached_before s q e a)
attached_at s p _ _ (by_tool {es = es} {q = q} {e = e} m i f) a = attached_at s p q es m (attached_before s q e a)
