-- A first part of steps that lie aside of a set, with entries between that change nothing, lies aside.
use Rattle.std.proofs.Common.{◌≡◌, Bool, true, false, cond, refl, sym, subst, List, ◌∷◌, reverse}
use Rattle.std.specs.Prelude.{filter}
use Rattle.lr_host.specs.declared.entry.Entry.{Entry}
use Rattle.lr_host.specs.World.{Past}
use Rattle.lr_host.specs.Told.{Each, Made, at_first, by_writer, by_tool}
use Rattle.lr_host.specs.Steps.{is_change}
use Rattle.lr_host.specs.Sets.{LogSet}
use Rattle.lr_host.proofs.Each.{filter_reverse, each_reverse, each_first}
use Rattle.lr_laws.specs.Rotation.{IsAside}
use Rattle.lr_laws.proofs.Calls.{passed_aside}
use Rattle.lr_laws_family.specs.Weave.{IsFirstOf}

-- where the changes lie aside, all that the tool left does
aside_all : (s : LogSet) (v q : Past) (es : List Entry) → Made v es q → Each (IsAside s) (filter is_change es) → Each (IsAside s) es
aside_all s v _ _ at_first a = tt
aside_all s v _ es (by_writer {q = q} m i f) a = aside_all s v q es m a
aside_all s v _ _ (by_tool {es = es} {q = q} {e = e} m i f) a = go (λ b. aside_all s v q es m b) (is_change e) refl a
  where
    go : (Each (IsAside s) (filter is_change es) → Each (IsAside s) es) → (b : Bool) → is_change e ≡ b → Each (IsAside s) (cond b (e ∷ filter is_change es) (filter is_change es)) → Each (IsAside s) (e ∷ es)
    go further true h a = (a.0, further a.1)
    go further false h a = (passed_aside s e i h, further a)

-- a first part of steps that lie aside, and what stands between them that changes nothing, lies aside
pub first_aside : (s : LogSet) (steps back : List Entry) (v q : Past) → IsFirstOf steps (filter is_change back) → Each (IsAside s) steps → Made v (reverse back) q → Each (IsAside s) (reverse back)
first_aside s steps back v q first aside m =
    aside_all s v q (reverse back) m (subst (Each (IsAside s)) (sym (filter_reverse is_change back)) (each_reverse (IsAside s) (filter is_change back) (each_first (IsAside s) (filter is_change back) first.0 (subst (Each (IsAside s)) first.1 aside))))
