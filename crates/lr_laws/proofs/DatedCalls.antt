-- Safe goes on over calls that make the steps of a dated rotation.
use Rattle.std.proofs.Common.{◌≡◌, ◌⊎◌, inl, Bool, true, false, cond, ◌||◌, refl, sym, ap, ◌∙◌, subst, is_some, List, [], ◌∷◌, ◌++◌, Option, Some, None, ℤ}
use Rattle.std.specs.Prelude.{filter}
use Rattle.lr_host.specs.declared.entry.Entry.{Entry}
use Rattle.lr_host.specs.declared.entry.Entry.TheVariants as entry
use Rattle.lr_host.specs.declared.journal.Journal.{Journal}
use Rattle.lr_host.specs.World.{Past, past, world, names, names_after, Change}
use Rattle.lr_host.specs.Told.{Made, at_first, by_writer, by_tool, Left, not_told, is_told}
use Rattle.lr_host.specs.Steps.{changes_of, is_change, FitAll, CanAll, TookSteps}
use Rattle.lr_host.specs.Safe.{KeepsSafe}
use Rattle.lr_host.specs.Sets.{LogSet}
use Rattle.lr_host.proofs.Left.{changes_filter, later_fit}
use Rattle.lr_laws.specs.Rotation.{IsAside}
use Rattle.lr_laws.proofs.Calls.{passed_aside, taken}
use Rattle.lr_laws.proofs.Walk.{log_fits, log_filter}
use Rattle.lr_laws.specs.DatedRotation.{is_log_turned, IsDatedStep, IsDatedRotation}
use Rattle.lr_laws.specs.Stays.{StaysSafe, RotatesDated, KeepsSafeWhere}
use Rattle.lr_laws.proofs.DatedWalk.{dated_walked}

turned_filter : (s : LogSet) (es : List Entry) → is_log_turned s (filter is_change es) ≡ is_log_turned s es
turned_filter s [] = refl
turned_filter s (e ∷ es) = go (is_change e) refl (turned_filter s es)
  where
    over : (e : Entry) → is_log_turned s (filter is_change es) ≡ is_log_turned s es → is_log_turned s (e ∷ filter is_change es) ≡ is_log_turned s (e ∷ es)
    over (entry.Renames from to) r = ap (λ (b : Bool). is_some (s.key to) || b) r
    over _ r = r

    passed : (e : Entry) → is_change e ≡ false → is_log_turned s (e ∷ es) ≡ is_log_turned s es
    passed (entry.Renames from to) h = absurd (cc)
    passed _ h = refl

    go : (b : Bool) → is_change e ≡ b → is_log_turned s (filter is_change es) ≡ is_log_turned s es → is_log_turned s (cond b (e ∷ filter is_change es) (filter is_change es)) ≡ is_log_turned s (e ∷ es)
    go true h r = over e r
    go false h r = r ∙ sym (passed e h)

-- the entries of a walk are the tool's
rotation_filter : (s : LogSet) (newest : ℤ) (p q : Past) (es : List Entry) → Made p es q → IsDatedRotation s p newest (filter is_change es) → IsDatedRotation s p newest es
rotation_filter s newest p _ _ at_first r = tt
rotation_filter s newest p _ es (by_writer {q = q} m i f) r = rotation_filter s newest p q es m r
rotation_filter s newest p _ _ (by_tool {es = es} {q = q} {e = e} m i f) r = go (rotation_filter s newest p q es m) (is_change e) refl r
  where
    go : (IsDatedRotation s p newest (filter is_change es) → IsDatedRotation s p newest es) → (b : Bool) → is_change e ≡ b → IsDatedRotation s p newest (cond b (e ∷ filter is_change es) (filter is_change es)) → IsDatedRotation s p newest (e ∷ es)
    go further true h r = (
      further r.0,
      subst (λ (b : Bool). IsAside s e ⊎ IsDatedStep s p newest (names_after (names (world p)) (changes_of es)) b e) (turned_filter s es)
          (subst (λ (cs : List Change). IsAside s e ⊎ IsDatedStep s p newest (names_after (names (world p)) cs) (is_log_turned s (filter is_change es)) e) (changes_filter es) r.1),
    )
    go further false h r = (further r, inl (passed_aside s e i h))

later_rotation : (s : LogSet) (p : Past) (newest : ℤ) (new es : List Entry) → IsDatedRotation s p newest (new ++ es) → IsDatedRotation s p newest es
later_rotation s p newest [] es r = r
later_rotation s p newest (e ∷ new) es r = later_rotation s p newest new es r.0

took_dated : {steps : List Entry} {ok : Bool} {o n : Option Journal} → Left (TookSteps steps ok) o n → CanAll o steps → StaysSafe (RotatesDated steps) o n
took_dated not_told can = tt
took_dated {steps} {ok} (is_told {j = j} {k = k} {es = es} m h) can = λ s r v safe a.
    let t = taken steps ok es h in
    let fit : FitAll (names (world (past j))) (filter is_change es) = later_fit (names (world (past j))) t.0 (filter is_change es) (subst (λ (xs : List Entry). FitAll (names (world (past j))) xs) t.1 can.can) in
    let rot : IsDatedRotation s (past j) r.newest (filter is_change es) = later_rotation s (past j) r.newest t.0 (filter is_change es) (subst (λ (xs : List Entry). IsDatedRotation s (past j) r.newest xs) t.1 r.rotation) in
    dated_walked s (past j) (past k) r.newest es r.dated v safe r.not_begun r.forward m (log_filter s (names (world (past j))) es (log_fits s (names (world (past j))) (filter is_change es) fit)) (rotation_filter s r.newest (past j) (past k) es m rot) a

pub dated_took : (steps : List Entry) (ok : Bool) (o n : Option Journal) → Left (TookSteps steps ok) o n → CanAll o steps → StaysSafe (RotatesDated steps) o n
dated_took steps ok o n left can = took_dated left can

-- ---- under a condition

pub safe_where : (when : LogSet → Past → Type 0) (o n : Option Journal) → KeepsSafe o n → KeepsSafeWhere when o n
safe_where when (Some j) (Some k) h = λ s w journal safe steady. h s journal safe steady
safe_where when None None h = tt
safe_where when (Some j) None h = h
safe_where when None (Some k) h = h
