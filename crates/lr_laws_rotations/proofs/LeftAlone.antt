-- A set is left as it was where all changes lie apart of it.
use Rattle.std.proofs.Common.{◌≡◌, Bool, true, false, cond, refl, sym, ◌∙◌, ap, subst, List, ◌∷◌, ◌++◌, reverse, ℤ, Some}
use Rattle.std.specs.Prelude.{filter}
use Rattle.std.proofs.lemmas.List.Elements.{filter-append}
use Rattle.lr_rules.specs.declared.path.Path.{Path}
use Rattle.lr_rules.proofs.Bools.{not_both}
use Rattle.lr_host.specs.declared.thing.Thing.TheVariants as thing
use Rattle.lr_host.specs.declared.entry.Entry.{Entry}
use Rattle.lr_host.specs.declared.entry.Entry.TheVariants as entry
use Rattle.lr_host.specs.declared.entry.Entry.TheVariants.{Renames, Unlinks}
use Rattle.lr_host.specs.World.{Past, ◌▸◌, world, names, put}
use Rattle.lr_host.specs.Sets.{LogSet, in_reach}
use Rattle.lr_host.specs.Steady.{NoneAttached}
use Rattle.lr_host.specs.Steps.{is_change}
use Rattle.lr_host.specs.Told.{Each, IsTools, Made, at_first, by_writer, by_tool}
use Rattle.lr_host.proofs.Each.{each_reverse, filter_reverse}
use Rattle.lr_host.proofs.Names.{put_other}
use Rattle.lr_host.specs.Quiet.{AreQuiet}
use Rattle.lr_host.proofs.Quiet.{looked_names, no_disk_change, quiet_changes}
use Rattle.lr_laws.proofs.Writing.{attached_before, wrote_member}
use Rattle.lr_laws.proofs.Reach.{keyed_reach}
use Rattle.lr_laws_rotations.proofs.Weaving.{IsApart}

-- an entry apart leaves the names of the set alone
apart_names : (s : LogSet) (q : Past) (e : Entry) (y : Path) → IsTools e → is_change e ≡ true → IsApart s e → in_reach s y ≡ true → names (world (q ▸ e)) y ≡ names (world q) y
apart_names s q (Renames from to) y i c out h =
    put_other (put (names (world q)) from thing.Nothing) to y (names (world q) from) (λ same. not_both (in_reach s y) h (ap (in_reach s) same ∙ out.1))
    ∙ put_other (names (world q)) from y thing.Nothing (λ same. not_both (in_reach s y) h (ap (in_reach s) same ∙ out.0))
apart_names s q (Unlinks x) y i c out h = put_other (names (world q)) x y thing.Nothing (λ same. not_both (in_reach s y) h (ap (in_reach s) same ∙ out))
apart_names s q (entry.MakesDir x mode) y i c out h = put_other (names (world q)) x y thing.Directory (λ same. not_both (in_reach s y) h (ap (in_reach s) same ∙ out))
apart_names s q (entry.Makes x mode) y i c out h = put_other (names (world q)) x y (thing.File (world q).drawn) (λ same. not_both (in_reach s y) h (ap (in_reach s) same ∙ out))
apart_names s q (entry.Appends x bytes) y i c out h = refl
apart_names s q (entry.Truncates x) y i c out h = refl
apart_names s q (entry.Starts state now rules) y i c out h = absurd out
apart_names s q _ y i c out h = absurd (cc)

-- a member names what it named
same_walk : (s : LogSet) (y : Path) (k : ℤ) → s.key y ≡ Some k → (p q : Past) (es : List Entry) → Made p es q → Each (IsApart s) (filter is_change es) → NoneAttached s q → names (world q) y ≡ names (world p) y
same_walk s y k key p _ _ at_first a none = refl
same_walk s y k key p _ es (by_writer {q = q} {e = e} m i f) a none = wrote_member s q e y k i none key ∙ same_walk s y k key p q es m a (attached_before s q e none)
same_walk s y k key p _ _ (by_tool {es = es} {q = q} {e = e} m i f) a none = go (λ a. same_walk s y k key p q es m a (attached_before s q e none)) (is_change e) refl a
  where
    go : (Each (IsApart s) (filter is_change es) → names (world q) y ≡ names (world p) y) → (b : Bool) → is_change e ≡ b → Each (IsApart s) (cond b (e ∷ filter is_change es) (filter is_change es)) → names (world (q ▸ e)) y ≡ names (world p) y
    go further true h a = apart_names s q e y i h a.0 (keyed_reach s y k key) ∙ further a.1
    go further false h a = looked_names q e y i (no_disk_change e h) ∙ further a

-- where the changes behind looks lie apart
pub apart_left : (s : LogSet) (p q : Past) (tail looks acts : List Entry) → tail ≡ looks ++ acts → AreQuiet looks → Each (IsApart s) (filter is_change acts) → Made p (reverse tail) q → NoneAttached s q → (y : Path) (k : ℤ) → s.key y ≡ Some k → names (world q) y ≡ names (world p) y
apart_left s p q tail looks acts joined quiet out m none y k key = same_walk s y k key p q (reverse tail) m apart none
  where
    changes : filter is_change tail ≡ filter is_change acts
    changes = ap (filter is_change) joined ∙ (filter-append is_change looks acts ∙ ap (λ xs. xs ++ filter is_change acts) (quiet_changes looks quiet))

    apart : Each (IsApart s) (filter is_change (reverse tail))
    apart = subst (Each (IsApart s)) (sym (filter_reverse is_change tail)) (each_reverse (IsApart s) (filter is_change tail) (subst (Each (IsApart s)) (sym changes) out))
