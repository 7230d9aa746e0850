-- The map of the paths that were found.
use Rattle.std.proofs.Common.{◌≡◌, ◌∙◌, sym, ap, subst, refl, inl, inr, ⊎_elim, ◌⊎◌, ℕ, ◌<◌, ◌≤◌, ◌+◌, List, [], ◌∷◌, ◌++◌, length, Bool, true, false, cond, Option, Some, None, slice_get, Vec, Global, true≢false, arith}
use Rattle.std.specs.Borrow.{Bor}
use Rattle.std.specs.Str.{bytes_eq}
use Rattle.std.proofs.lemmas.Bool.{cases_Bool, cases_lt}
use Rattle.std.proofs.lemmas.List.{length_push}
use Rattle.std.proofs.lemmas.Slice.Eq.{bytes_eq-Decides}
use Rattle.indexmap.specs.IndexMap.{insert_entry}
use Rattle.lr_family.specs.declared.family.Family.{Family}
use Rattle.lr_kept.specs.declared.choice.Choice.{Choice}
use Rattle.lr_kept.specs.declared.choice.Choice.TheVariants.{Kept, Again, MemberOf, Reserved, Meets}
use Rattle.lr_kept.specs.Begun.{IsBegun, AreBegun, Found, place_in, IsNoted, HasPathAt, ArePlaces}
use Rattle.lr_kept.specs.Chosen.{HaveOnePath}
use Rattle.lr_kept.proofs.Elements.{read_push_cases}

abbrev pub same : Vec ℕ Global → Vec ℕ Global → Bool
same x y = bytes_eq x.items y.items

-- what is found once a path is noted
insert_by : (q : List ℕ) (key : Vec ℕ Global) (place : ℕ) (e : Found) (es more : List Found) (b : Bool) → same key e.0 ≡ b → place_in more q ≡ cond (bytes_eq q key.items) (Some place) (place_in es q)
    → place_in (cond b ((e.0, place) ∷ es) (e ∷ more)) q ≡ cond (bytes_eq q key.items) (Some place) (place_in (e ∷ es) q)
insert_by q key place e es more true is next =
    let alike : key.items ≡ e.0.items = (bytes_eq-Decides key.items e.0.items).0 is in
    by (bytes_eq q e.0.items) ∙ ap (λ k. cond (bytes_eq q k) (Some place) (place_in (e ∷ es) q)) (sym alike)
  where
    by : (c : Bool) → cond c (Some place) (place_in es q) ≡ cond c (Some place) (cond c (Some e.1) (place_in es q))
    by true = refl
    by false = refl
insert_by q key place e es more false is next = ap (λ o. cond (bytes_eq q e.0.items) (Some e.1) o) next ∙ by (bytes_eq q e.0.items) (bytes_eq q key.items) refl refl
  where
    by : (c d : Bool) → bytes_eq q e.0.items ≡ c → bytes_eq q key.items ≡ d → cond c (Some e.1) (cond d (Some place) (place_in es q)) ≡ cond d (Some place) (cond c (Some e.1) (place_in es q))
    by true true one other =
        let alike : key.items ≡ e.0.items = sym ((bytes_eq-Decides q key.items).0 other) ∙ (bytes_eq-Decides q e.0.items).0 one in
        absurd (true≢false (sym ((bytes_eq-Decides key.items e.0.items).1 alike) ∙ is))
    by true false one other = refl
    by false true one other = refl
    by false false one other = refl

pub place_inserted : (es : List Found) (key : Vec ℕ Global) (place : ℕ) (q : List ℕ) → place_in (insert_entry same es key place) q ≡ cond (bytes_eq q key.items) (Some place) (place_in es q)
place_inserted [] key place q = refl
place_inserted (e ∷ es) key place q = insert_by q key place e es (insert_entry same es key place) (same key e.0) refl (place_inserted es key place q)

-- ---- the places of all paths

pub no_places : (logs : List (Bor Family)) (places : List ℕ → Option ℕ) → ((q : List ℕ) → places q ≡ None) → ArePlaces logs 0 places
no_places logs places none = record {
  below = λ q i h. absurd (cc (none q, h));
  there = λ q i h. absurd (cc (none q, h));
  first = λ q i j h. absurd (cc (none q, h));
  none = λ q j h lt. absurd (let l : j < 0 = lt in omega arith);
}

module _ (logs : List (Bor Family)) (n : ℕ) (f : Bor Family) (at : slice_get logs n ≡ Some f) (old new : List ℕ → Option ℕ) (so_far : ArePlaces logs n old) where
  -- a path at this place is that of this log
  its_path : (q : List ℕ) → HasPathAt logs n q → f.now.log ≡ q
  its_path q h = let is : f ≡ h.0 = cc (at, h.1) in ap (λ (g : Bor Family). g.now.log) is ∙ h.2

  -- a path among one place more
  path_more : (q : List ℕ) (j : ℕ) → j < n + 1 → HasPathAt logs j q → ((j < n) × HasPathAt logs j q) ⊎ (f.now.log ≡ q)
  path_more q j lt h = ⊎_elim (λ (lo : j < n). inl (lo, h))
      (λ (hi : n ≤ j). let e : j ≡ n = omega arith in inr (its_path q (subst (λ k. HasPathAt logs k q) e h)))
      (cases_lt j n)

  again_places : (i : ℕ) → old f.now.log ≡ Some i → ((q : List ℕ) → new q ≡ old q) → ArePlaces logs (n + 1) new
  again_places i known is = record {
    below = λ q k h. let lt = so_far.below q k (sym (is q) ∙ h) in omega (arith, lt);
    there = λ q k h. so_far.there q k (sym (is q) ∙ h);
    first = λ q k j h. so_far.first q k j (sym (is q) ∙ h);
    none = λ q j h lt has. ⊎_elim
        (λ o. so_far.none q j (sym (is q) ∙ h) o.0 o.1)
        (λ (e : f.now.log ≡ q). absurd (cc (known, ap old e, is q, h)))
        (path_more q j lt has);
  }

  -- of a path there is what was there, or it is that of this log
  new_cases : ((q : List ℕ) → new q ≡ cond (bytes_eq q f.now.log) (Some n) (old q)) → (q : List ℕ) → ((q ≡ f.now.log) × (new q ≡ Some n)) ⊎ ((q ≡ f.now.log → ⊥) × (new q ≡ old q))
  new_cases is q = ⊎_elim
      (λ (e : bytes_eq q f.now.log ≡ true). inl ((bytes_eq-Decides q f.now.log).0 e, is q ∙ ap (λ b. cond b (Some n) (old q)) e))
      (λ (e : bytes_eq q f.now.log ≡ false). inr ((λ s. true≢false (sym ((bytes_eq-Decides q f.now.log).1 s) ∙ e)), is q ∙ ap (λ b. cond b (Some n) (old q)) e))
      (cases_Bool (bytes_eq q f.now.log))

  new_places : old f.now.log ≡ None → ((q : List ℕ) → new q ≡ cond (bytes_eq q f.now.log) (Some n) (old q)) → ArePlaces logs (n + 1) new
  new_places unknown is = record {
    below = λ q i h. ⊎_elim
        (λ e. let same_place : n ≡ i = cc (e.1, h) in omega arith)
        (λ o. let lt = so_far.below q i (sym o.1 ∙ h) in omega (arith, lt))
        (new_cases is q);
    there = λ q i h. ⊎_elim
        (λ e. let same_place : n ≡ i = cc (e.1, h) in (f, ap (λ k. slice_get logs k) (sym same_place) ∙ at, sym e.0))
        (λ o. so_far.there q i (sym o.1 ∙ h))
        (new_cases is q);
    first = λ q i j h lt has. ⊎_elim
        (λ e. let same_place : n ≡ i = cc (e.1, h) in so_far.none q j (ap old e.0 ∙ unknown) (omega arith) has)
        (λ o. so_far.first q i j (sym o.1 ∙ h) lt has)
        (new_cases is q);
    none = λ q j h lt has. ⊎_elim
        (λ e. absurd (cc (e.1, h)))
        (λ o. ⊎_elim
        (λ p. so_far.none q j (sym o.1 ∙ h) p.0 p.1)
        (λ (s : f.now.log ≡ q). o.0 (sym s))
        (path_more q j lt has))
        (new_cases is q);
  }

  pub more_places : (c : Choice) → IsNoted old new f.now.log n c → ArePlaces logs (n + 1) new
  more_places Kept h = new_places h.0 h.1
  more_places (Again i) h = again_places i h.0 h.1
  more_places (MemberOf i) h = absurd h
  more_places (Reserved i) h = absurd h
  more_places (Meets i) h = absurd h

  -- two places with one path: the earlier one has the path of this log
  one_path : (i : ℕ) → HaveOnePath logs i n → HasPathAt logs i f.now.log
  one_path i h = (h.one, h.at_one, h.holds ∙ sym (its_path h.other.now.log (h.other, h.at_other, refl)))

  pub more_begun : (c : Choice) → IsNoted old new f.now.log n c → IsBegun logs n c
  more_begun Kept h = λ i lt same_path. so_far.none f.now.log i h.0 lt (one_path i same_path)
  more_begun (Again i) h =
      let there = so_far.there f.now.log i h.0 in
      record {
        before = so_far.below f.now.log i h.0;
        same = record { one = there.0; other = f; at_one = there.1; at_other = at; holds = there.2 };
        first = λ j lt same_path. so_far.first f.now.log i j h.0 lt (one_path j same_path);
      }
  more_begun (MemberOf i) h = absurd h
  more_begun (Reserved i) h = absurd h
  more_begun (Meets i) h = absurd h

-- ---- the choices so far

-- for each of the first n logs whether its path was found before
pub record HaveBegun (logs : List (Bor Family)) (n : ℕ) (choices : List Choice) : Type 0 where
  pub as_many : length choices ≡ n
  pub each : (k : ℕ) (c : Choice) → slice_get choices k ≡ Some c → IsBegun logs k c

pub none_begun : (logs : List (Bor Family)) → HaveBegun logs 0 []
none_begun logs = record { as_many = refl; each = λ k c h. absurd (cc h) }

pub one_begun : (logs : List (Bor Family)) (n : ℕ) (old new : List Choice) (c : Choice) → HaveBegun logs n old → IsBegun logs n c → new ≡ old ++ c ∷ [] → HaveBegun logs (n + 1) new
one_begun logs n old new c so_far is grown = subst (λ (cs : List Choice). HaveBegun logs (n + 1) cs) (sym grown) (record {
  as_many = length_push old c ∙ ap (λ m. m + 1) so_far.as_many;
  each = λ k d h. ⊎_elim
      (λ (o : slice_get old k ≡ Some d). so_far.each k d o)
      (λ e. subst (λ (x : Choice). IsBegun logs k x) (sym e.1) (subst (λ m. IsBegun logs m c) (sym (e.0 ∙ so_far.as_many)) is))
      (read_push_cases old c d k h);
})

pub all_begun : (logs : List (Bor Family)) (n : ℕ) (choices : List Choice) → n ≡ length logs → HaveBegun logs n choices → AreBegun logs choices
all_begun logs n choices e h = record { as_many = h.as_many ∙ e; each = h.each }
