-- How far a pattern goes, and that the last `*` is enough.
use Rattle.std.proofs.Common.{◌≡◌, ◌<◌, ℕ, length, length-append, arith, Bool, true, false, List, [], ◌∷◌, ◌++◌, refl, sym, ap, ◌∙◌, subst, eq-eqb, append_assoc}
use Rattle.lr_rules.specs.Match.{IsClass, Matches, EndsWith}
use Rattle.lr_match.specs.declared.sign.Sign.{Sign}
use Rattle.lr_match.specs.declared.sign.Sign.TheVariants as sign
use Rattle.lr_match.specs.declared.class.Class.{Class}
use Rattle.lr_match.specs.Signs.{BeginsWithSign, sign_has, IsSingle}
use Rattle.lr_match.specs.Reached.{MatchesEnd, MatchLeadsTo}
use Rattle.lr_match.proofs.Matching.{head_is, tail_is, not_empty, differ, RunWent, run_went, MayGo, single_from, single_to, single_some, same_of, empty_to, loosened}

pub leads_over : (pattern name text left rest : List ℕ) → MatchLeadsTo pattern name text left → text ≡ 42 ∷ rest → MatchLeadsTo pattern name (42 ∷ rest) left
leads_over pattern name text left rest l e = subst (λ t. MatchLeadsTo pattern name t left) e l

free : (s : Sign) (c : ℕ) → MayGo s false c
free sign.Run c = λ is. absurd (cc)
free sign.One c = λ is. absurd (cc)
free (sign.Itself d) c = tt
free (sign.Class k) c = λ is. absurd (cc)

-- the end of a name without its first character
shorter_end : (rest : List ℕ) (c d : ℕ) (name end front : List ℕ) → c ∷ name ≡ front ++ d ∷ end → Matches false rest end → MatchesEnd rest name
shorter_end rest c d name end [] e m = record { end = end; ends = ([], tail_is refl e); matched = m }
shorter_end rest c d name end (x ∷ front) e m =
    let behind : name ≡ front ++ d ∷ end = tail_is refl e in
    record { end = end; ends = (front ++ d ∷ [], behind ∙ sym (append_assoc front (d ∷ []) end)); matched = m }

one_end : (text : List ℕ) (s : Sign) (rest : List ℕ) (c : ℕ) (name : List ℕ) → BeginsWithSign text s rest → IsSingle s → MatchesEnd text (c ∷ name) → MatchesEnd rest name
one_end text s rest c name b single m = by m.end m.ends m.matched
  where
    by : (end : List ℕ) → EndsWith (c ∷ name) end → Matches false text end → MatchesEnd rest name
    by [] ends matched = absurd (single_some false text s rest b single matched)
    by (d ∷ end) ends matched = shorter_end rest c d name end ends.0 ends.1 (single_from false text s rest d end b single matched).goes

-- one sign further
pub leads_on : (pattern name text : List ℕ) (s : Sign) (rest : List ℕ) (c : ℕ) (left left' : List ℕ) → MatchLeadsTo pattern name text left → left ≡ c ∷ left' → BeginsWithSign text s rest → IsSingle s → sign_has s c ≡ true → MatchLeadsTo pattern name rest left'
leads_on pattern name text s rest c left left' l e b single has =
    let here : MatchLeadsTo pattern name text (c ∷ left') = subst (MatchLeadsTo pattern name text) e l in
    record {
      on = λ m. (single_from false text s rest c left' b single (here.on m)).goes;
      back = λ m. here.back (single_to false text s rest c left' b single (record { has = has; may = free s c; goes = m }));
      ends = λ m. one_end text s rest c left' b single (here.ends m);
    }

-- ---- a `*`

-- it takes in more
absorbed : (pattern front end : List ℕ) → Matches false (42 ∷ pattern) end → Matches false (42 ∷ pattern) (front ++ end)
absorbed pattern [] end m = m
absorbed pattern (c ∷ front) end m = Matches.run_goes_on refl (λ is. absurd (cc)) (absorbed pattern front end m)

pub run_of_end : (pattern name : List ℕ) → MatchesEnd (42 ∷ pattern) name → Matches false (42 ∷ pattern) name
run_of_end pattern name m = subst (Matches false (42 ∷ pattern)) (sym m.ends.1) (absorbed pattern m.ends.0 m.end m.matched)

further : (pattern : List ℕ) (c : ℕ) (name : List ℕ) → MatchesEnd pattern name → MatchesEnd pattern (c ∷ name)
further pattern c name m = record { end = m.end; ends = (c ∷ m.ends.0, ap (λ n. c ∷ n) m.ends.1); matched = m.matched }

end_of : (f : Bool) (text pattern name : List ℕ) → text ≡ 42 ∷ pattern → Matches f text name → MatchesEnd pattern name
end_of f _ pattern _ e Matches.ends = absurd (not_empty refl e)
end_of f _ pattern _ e (Matches.itself plain m) = absurd (plain.no_run (head_is refl e))
end_of f _ pattern _ e (Matches.escaped is m) = absurd (differ 92 42 refl (sym is ∙ head_is refl e))
end_of f _ pattern _ e (Matches.any_one is o m) = absurd (differ 63 42 refl (sym is ∙ head_is refl e))
end_of f _ pattern name e (Matches.run_ends {part = part} is m) = record { end = name; ends = ([], refl); matched = loosened f pattern name (subst (λ p. Matches f p name) (tail_is refl e) m) }
end_of f _ pattern _ e (Matches.run_goes_on {sign = s} {c = c} {part = part} {name = name} is o m) = further pattern c name (end_of false (s ∷ part) pattern name e m)
end_of f _ pattern _ e (Matches.of_class is k o has m) = absurd (differ 91 42 refl (sym is ∙ head_is refl e))

-- a `*` matches where what is behind it matches an end
pub end_of_run : (pattern name : List ℕ) → Matches false (42 ∷ pattern) name → MatchesEnd pattern name
end_of_run pattern name m = end_of false (42 ∷ pattern) pattern name refl m

-- from one `*` to the next
pub run_to_run : (asked left behind rest : List ℕ) → MatchLeadsTo asked left (42 ∷ behind) rest → Matches false (42 ∷ asked) left → Matches false (42 ∷ behind) rest
run_to_run asked left behind rest l m = run_of_end behind rest (l.ends (end_of_run asked left m))

pub run_from_run : (asked left behind rest : List ℕ) → MatchLeadsTo asked left (42 ∷ behind) rest → Matches false (42 ∷ behind) rest → Matches false (42 ∷ asked) left
run_from_run asked left behind rest l m = Matches.run_ends refl (l.back m)

-- where the pattern behind it doesn't match, a `*` takes in a character
pub run_takes : (asked : List ℕ) (c : ℕ) (left left' : List ℕ) → left ≡ c ∷ left' → (Matches false asked left → ⊥) → Matches false (42 ∷ asked) left → Matches false (42 ∷ asked) left'
run_takes asked c left left' e none m = by (run_went false (42 ∷ asked) asked left refl m)
  where
    by : RunWent false asked left → Matches false (42 ∷ asked) left'
    by (RunWent.ends m) = absurd (none m)
    by (RunWent.goes_on d r ne o m) = subst (Matches false (42 ∷ asked)) (tail_is ne e) m

pub run_took : (asked : List ℕ) (c : ℕ) (left left' : List ℕ) → left ≡ c ∷ left' → Matches false (42 ∷ asked) left' → Matches false (42 ∷ asked) left
run_took asked c left left' e m = subst (Matches false (42 ∷ asked)) (sym e) (Matches.run_goes_on refl (λ is. absurd (cc)) m)

-- ---- a first dot

-- a `*` doesn't go with it
pub run_passed : (text pattern name : List ℕ) → text ≡ 42 ∷ pattern → Matches true text (46 ∷ name) → Matches true pattern (46 ∷ name)
run_passed text pattern name e m = by (run_went true text pattern (46 ∷ name) e m)
  where
    by : RunWent true pattern (46 ∷ name) → Matches true pattern (46 ∷ name)
    by (RunWent.ends m) = m
    by (RunWent.goes_on d r ne o m) = absurd (o refl (head_is ne refl))

pub run_put : (text pattern name : List ℕ) → text ≡ 42 ∷ pattern → Matches true pattern (46 ∷ name) → Matches true text (46 ∷ name)
run_put text pattern name e m = subst (λ t. Matches true t (46 ∷ name)) (sym e) (Matches.run_ends refl m)

-- a single sign that isn't the dot itself
pub dot_other : (text : List ℕ) (s : Sign) (rest name : List ℕ) → BeginsWithSign text s rest → IsSingle s → (MayGo s true 46 → ⊥) → Matches true text (46 ∷ name) → ⊥
dot_other text s rest name b single closed m = closed (single_from true text s rest 46 name b single m).may

pub dot_itself : (text : List ℕ) (s : Sign) (d : ℕ) (rest name : List ℕ) → BeginsWithSign text s rest → s ≡ sign.Itself d → (Matches true text (46 ∷ name) → (d ≡ 46) × Matches false rest name) × (d ≡ 46 → Matches false rest name → Matches true text (46 ∷ name))
dot_itself text s d rest name b is =
    let here : BeginsWithSign text (sign.Itself d) rest = subst (λ x. BeginsWithSign text x rest) is b in (
      λ m. let o = single_from true text (sign.Itself d) rest 46 name here tt m in (same_of d 46 o.has, o.goes),
      λ dot m. single_to true text (sign.Itself d) rest 46 name here tt (record { has = eq-eqb d 46 dot; may = tt; goes = m }),
    )

pub not_closed : (text : List ℕ) (s : Sign) (rest name : List ℕ) → BeginsWithSign text s rest → s ≡ sign.One → Matches true text (46 ∷ name) → ⊥
not_closed text s rest name b is m = dot_other text sign.One rest name (subst (λ x. BeginsWithSign text x rest) is b) tt (λ o. o refl refl) m

pub not_classed : (text : List ℕ) (s : Sign) (k : Class) (rest name : List ℕ) → BeginsWithSign text s rest → s ≡ sign.Class k → Matches true text (46 ∷ name) → ⊥
not_classed text s k rest name b is m = dot_other text (sign.Class k) rest name (subst (λ x. BeginsWithSign text x rest) is b) tt (λ o. o refl refl) m

-- ---- lengths

class_shorter : (part : List ℕ) (t : Bool) (signs rest : List ℕ) → IsClass part t signs rest → length rest < length part
class_shorter part _ _ _ (IsClass.straight a more rest n o e) = let l = ap length e in let m = length-append more (93 ∷ rest) in omega arith
class_shorter part _ _ _ (IsClass.turned a more rest o e) = let l = ap length e in let m = length-append more (93 ∷ rest) in omega arith

pub begins_shorter : (text : List ℕ) (s : Sign) (rest : List ℕ) → BeginsWithSign text s rest → length rest < length text
begins_shorter text _ _ (BeginsWithSign.run rest e) = let l = ap length e in omega arith
begins_shorter text _ _ (BeginsWithSign.one rest e) = let l = ap length e in omega arith
begins_shorter text _ _ (BeginsWithSign.itself c rest e plain) = let l = ap length e in omega arith
begins_shorter text _ _ (BeginsWithSign.escaped c rest e) = let l = ap length e in omega arith
begins_shorter text _ _ (BeginsWithSign.of_class k part rest e is) = let l = ap length e in let m = class_shorter part k.turned _ rest is in omega arith

-- ---- where it is stuck, and where it ends

pub stuck_short : (pattern name text left : List ℕ) (s : Sign) (rest : List ℕ) → MatchLeadsTo pattern name text left → BeginsWithSign text s rest → IsSingle s → left ≡ [] → Matches false pattern name → ⊥
stuck_short pattern name text left s rest l b single none m = single_some false text s rest b single (subst (Matches false text) none (l.on m))

pub stuck_other : (pattern name text left : List ℕ) (s : Sign) (rest : List ℕ) (c : ℕ) (left' : List ℕ) → MatchLeadsTo pattern name text left → BeginsWithSign text s rest → IsSingle s → left ≡ c ∷ left' → sign_has s c ≡ false → Matches false pattern name → ⊥
stuck_other pattern name text left s rest c left' l b single e other m =
    let has = (single_from false text s rest c left' b single (subst (Matches false text) e (l.on m))).has in
    absurd (cc)

pub both_end : (pattern name text left : List ℕ) → MatchLeadsTo pattern name text left → text ≡ [] → left ≡ [] → Matches false pattern name
both_end pattern name text left l e e' = l.back (empty_to text left e e')
