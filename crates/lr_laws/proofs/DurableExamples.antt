-- A state that is written behind one rename.
use Rattle.std.proofs.Common.{◌≡◌, ◌≢◌, inl, inr, ⊎_elim, ◌≤◌, ◌+◌, ℕ, true, false, refl, sym, ap, subst, arith, List, [], ◌∷◌, reverse, codes, None, bytes_eq}
use Rattle.std.specs.Prelude.{pos}
use Rattle.std.proofs.lemmas.Slice.Eq.{bytes_eq-Decides}
use Rattle.std.proofs.lemmas.Bool.{both_ways}
use Rattle.lr_rules.specs.declared.path.Path.{Path}
use Rattle.lr_rules.specs.Path.{parent_of}
use Rattle.lr_rules.specs.StatePath.{state_part}
use Rattle.lr_host.specs.declared.thing.Thing.TheVariants as thing
use Rattle.lr_host.specs.declared.entry.Entry.{Entry}
use Rattle.lr_host.specs.declared.entry.Entry.TheVariants as entry
use Rattle.lr_host.specs.Fits.{Fits}
use Rattle.lr_host.specs.Opening.{IsJournal}
use Rattle.lr_host.specs.Quiet.{from_here, further}
use Rattle.lr_host.specs.Safe.{IsPrefix, whole, shorter}
use Rattle.lr_host.specs.Told.{Made, at_first, by_tool}
use Rattle.lr_host.specs.World.{Past, Opens, ◌▸◌, world}
use Rattle.lr_host.proofs.Quiet.{size}
use Rattle.lr_laws.specs.Chain.{second, third, found}
use Rattle.lr_laws.proofs.Example.{found_valid}
use Rattle.lr_laws.specs.Renewing.{MayRenew, renewed}
use Rattle.lr_laws.specs.StateWhole.{IsSettled, WritersSpareState, LeftAs, by_last, still, IsOldOrNew, IsWholeAt}
use Rattle.lr_laws.specs.DurableWorked.{state, text, filled, in_order, not_synced, made_since, too_early, in_place}
use Rattle.lr_laws.proofs.Lists.{prefix_size, prefix_last}
use Rattle.lr_laws.proofs.Whole.{whole_at}

abbrev part : Path
part = state_part state

abbrev pub start : Past
start = Opens found

pub other : (x y : Path) → bytes_eq x y ≡ false → x ≢ y
other x y e same = let yes : bytes_eq x y ≡ true = (bytes_eq-Decides x y).1 same in both_ways (bytes_eq x y) e yes

-- ---- the entries fit

renames_fit : Fits (world start) (entry.Renames second third)
renames_fit = ((2, refl), λ e. cc, λ e. cc, refl, other second third refl)

pub in_place_journal : IsJournal in_place
in_place_journal = ((found_valid, (refl, refl)), (3, refl))

pub too_early_journal : IsJournal too_early
too_early_journal = (((found_valid, (refl, refl)), (3, refl)), ((3, refl), λ e. cc, λ e. cc, refl, other part state refl))

filled_journal : IsJournal (filled (start ▸ entry.Renames second third))
filled_journal = ((((found_valid, renames_fit), (refl, refl)), (3, refl)), (3, refl))

pub not_synced_journal : IsJournal not_synced
not_synced_journal = (filled_journal, ((3, refl), λ e. cc, λ e. cc, refl, other part state refl))

abbrev attached : Past
attached = start ▸ entry.Attach 0 third (pos 0)

abbrev dropped : Past
dropped = attached ▸ entry.Unlinks third

pub made_since_journal : IsJournal made_since
made_since_journal = ((((((found_valid, (inr (refl, refl), refl)), (3, refl)), (refl, refl)), (4, refl)), (4, refl)), ((4, refl), λ e. cc, λ e. cc, refl, other part state refl))

-- ---- in order

pub settled : IsSettled state start
settled = record { synced = λ g e. absurd (cc); durable = refl }

abbrev entries : List Entry
entries = entry.SyncsDir (codes "/s") ∷ entry.Renames part state ∷ entry.SyncsDir (codes "/v") ∷ entry.SyncsFile part ∷ entry.Appends part text ∷ entry.Makes part None ∷ entry.Renames second third ∷ []

made : Made start entries in_order
made = by_tool (by_tool (by_tool (by_tool (by_tool (by_tool (by_tool at_first tt renames_fit) tt (refl, refl)) tt (3, refl)) tt (3, refl)) tt refl) tt ((3, refl), λ e. cc, λ e. cc, refl, other part state refl)) tt refl

spare : WritersSpareState state start in_order
spare = record { held = λ v g e. absurd (cc); attached = further (further (further (further (further (further (further from_here tt) tt) tt) tt) tt) tt) tt }

may : MayRenew state (λ bytes. bytes ≡ text) (reverse entries)
may = renewed (codes "/v" ∷ []) text refl (record {
  front = entry.Renames second third ∷ [];
  mode = None;
  pieces = text ∷ [];
  after = entry.SyncsDir (codes "/s") ∷ [];
  ts_are = refl;
  aside = ((λ i. ⊎_elim (λ e. other second state refl e) (λ j. ⊎_elim (λ e. other third state refl e) (λ none. none) j) i), tt);
  within = ((λ x i. inr (inl (⊎_elim (λ e. sym (ap parent_of (sym e))) (λ j. ⊎_elim (λ e. sym (ap parent_of (sym e))) (λ none. absurd none) j) i))), tt);
  text_is = refl;
  nothing_more = (refl, tt);
})

pub in_order_whole : (u : Past) → IsPrefix start u → IsPrefix u in_order → IsWholeAt state (λ bytes. bytes ≡ text) start u
in_order_whole u since until = whole_at state (λ bytes. bytes ≡ text) start in_order entries made found_valid may settled spare u since until

-- ---- without the sync of the directory

-- the rename to the state is the last entry, where none came before
last_turn : (p t : Past) → (IsPrefix (t ▸ entry.Renames part state) p → ⊥) → IsPrefix (t ▸ entry.Renames part state) (filled p ▸ entry.Renames part state) → t ≡ filled p
last_turn p t before i = ⊎_elim (λ e. cc) (λ j. absurd (none j)) (prefix_last (t ▸ entry.Renames part state) (filled p ▸ entry.Renames part state) (filled p) (entry.Renames part state) i refl)
  where
    none : IsPrefix (t ▸ entry.Renames part state) (filled p) → ⊥
    none a = ⊎_elim (λ e. cc) (λ b. ⊎_elim (λ e. cc) (λ c. ⊎_elim (λ e. cc) before
        (prefix_last (t ▸ entry.Renames part state) (p ▸ entry.Makes part None) p (entry.Makes part None) c refl))
        (prefix_last (t ▸ entry.Renames part state) (p ▸ entry.Makes part None ▸ entry.Appends part text) (p ▸ entry.Makes part None) (entry.Appends part text) b refl))
        (prefix_last (t ▸ entry.Renames part state) (filled p) (p ▸ entry.Makes part None ▸ entry.Appends part text) (entry.SyncsFile part) a refl)

at_start : (t : Past) → IsPrefix (t ▸ entry.Renames part state) start → ⊥
at_start t k = let le : size t + 1 ≤ 0 = prefix_size (t ▸ entry.Renames part state) start k in absurd (omega (arith, le))

behind_rename : (t : Past) → IsPrefix (t ▸ entry.Renames part state) (start ▸ entry.Renames second third) → ⊥
behind_rename t i = ⊎_elim (λ e. other part second refl (same e)) (at_start t) (prefix_last (t ▸ entry.Renames part state) (start ▸ entry.Renames second third) start (entry.Renames second third) i refl)
  where
    same : t ▸ entry.Renames part state ≡ start ▸ entry.Renames second third → part ≡ second
    same e = cc

behind_unlink : (t : Past) → IsPrefix (t ▸ entry.Renames part state) dropped → ⊥
behind_unlink t i = ⊎_elim (λ e. cc) (λ j. ⊎_elim (λ e. cc) (at_start t) (prefix_last (t ▸ entry.Renames part state) attached start (entry.Attach 0 third (pos 0)) j refl))
    (prefix_last (t ▸ entry.Renames part state) dropped attached (entry.Unlinks third) i refl)

-- the cut keeps the two changes of the state alone
abbrev the_cut : Entry
the_cut = entry.Cut (1 ∷ 2 ∷ []) []

cut_fits : Fits (world not_synced) the_cut
cut_fits = record { places = (omega arith, (omega arith, omega arith)); closed = (((tt, λ l. absurd (cc)), λ l. refl), λ l. refl); apart = tt; within = tt }

-- what the run left of the second member
second_left : LeftAs start second thing.Nothing 3 (filled (start ▸ entry.Renames second third) ▸ entry.Renames part state)
second_left = still (still (still (still (by_last whole (inl refl) refl refl) (λ i. ⊎_elim (λ e. other part second refl e) (λ none. none) i)) (λ i. i)) (λ i. i)) (λ i. ⊎_elim (λ e. other part second refl e) (λ j. ⊎_elim (λ e. other state second refl e) (λ none. none) j) i)

pub not_synced_lost : IsWholeAt state (λ bytes. bytes ≡ text) start not_synced → ⊥
not_synced_lost h = go (h.cut the_cut tt cut_fits)
  where
    go : IsOldOrNew state (λ bytes. bytes ≡ text) start not_synced (not_synced ▸ the_cut) → ⊥
    go (inl a) = let same : thing.File 3 ≡ thing.Nothing = a.named in cc
    go (inr r) = ⊎_elim (λ e. let same : thing.File 2 ≡ thing.Nothing = e in cc) (λ n. let is : thing.File 2 ≡ thing.File n.1.0 = n.1.1 in let le : 3 ≤ n.1.0 = n.1.2 in absurd (two n.1.0 is le))
        (r.applied second thing.Nothing 3 (subst (λ (t : Past). LeftAs start second thing.Nothing 3 (t ▸ entry.Renames part state)) (sym (last_turn (start ▸ entry.Renames second third) r.turning (behind_rename r.turning) r.until)) second_left))
      where
        two : (g : ℕ) → thing.File 2 ≡ thing.File g → 3 ≤ g → ⊥
        two g is le = let same : 2 ≡ g = cc in absurd (omega arith)

-- ---- without that of an unlink, of a file that was made in the call

-- the cut brings the file back
abbrev bringing_back : Entry
bringing_back = entry.Cut (0 ∷ 2 ∷ 3 ∷ []) []

back_fits : Fits (world made_since) bringing_back
back_fits = record { places = (omega arith, (omega arith, (omega arith, omega arith))); closed = ((((tt, λ l. refl), λ l. absurd (cc)), λ l. refl), λ l. refl); apart = tt; within = tt }

-- what the run left of its path
third_left : LeftAs start third thing.Nothing 4 (filled dropped ▸ entry.Renames part state)
third_left = still (still (still (still (by_last (shorter whole) (inl refl) refl refl) (λ i. ⊎_elim (λ e. other part third refl e) (λ none. none) i)) (λ i. i)) (λ i. i)) (λ i. ⊎_elim (λ e. other part third refl e) (λ j. ⊎_elim (λ e. other state third refl e) (λ none. none) j) i)

pub made_since_lost : IsWholeAt state (λ bytes. bytes ≡ text) start made_since → ⊥
made_since_lost h = go (h.cut bringing_back tt back_fits)
  where
    go : IsOldOrNew state (λ bytes. bytes ≡ text) start made_since (made_since ▸ bringing_back) → ⊥
    go (inl a) = let same : thing.File 4 ≡ thing.Nothing = a.named in cc
    go (inr r) = ⊎_elim (λ e. let same : thing.File 3 ≡ thing.Nothing = e in cc) (λ n. let is : thing.File 3 ≡ thing.File n.1.0 = n.1.1 in let le : 4 ≤ n.1.0 = n.1.2 in absurd (three n.1.0 is le))
        (r.applied third thing.Nothing 4 (subst (λ (t : Past). LeftAs start third thing.Nothing 4 (t ▸ entry.Renames part state)) (sym (last_turn dropped r.turning (behind_unlink r.turning) r.until)) third_left))
      where
        three : (g : ℕ) → thing.File 3 ≡ thing.File g → 4 ≤ g → ⊥
        three g is le = let same : 3 ≡ g = cc in absurd (omega arith)

-- ---- the other two

pub too_early_lost : IsWholeAt state (λ bytes. bytes ≡ text) start too_early → ⊥
too_early_lost h = go (h.cut (entry.Cut (0 ∷ 1 ∷ []) ((3, 0) ∷ [])) tt fits)
  where
    fits : Fits (world too_early) (entry.Cut (0 ∷ 1 ∷ []) ((3, 0) ∷ []))
    fits = record { places = (omega arith, (omega arith, omega arith)); closed = ((tt, λ l. refl), λ l. refl); apart = (refl, tt); within = ((state, refl), omega arith, omega arith, tt) }

    go : IsOldOrNew state (λ bytes. bytes ≡ text) start too_early (too_early ▸ entry.Cut (0 ∷ 1 ∷ []) ((3, 0) ∷ [])) → ⊥
    go (inl a) = let same : thing.File 3 ≡ thing.Nothing = a.named in cc
    go (inr r) = let is : thing.File 3 ≡ thing.File r.file = r.named in bytes r.file is r.text
      where
        bytes : (f : ℕ) → thing.File 3 ≡ thing.File f → ((world (too_early ▸ entry.Cut (0 ∷ 1 ∷ []) ((3, 0) ∷ []))).files f).bytes ≡ text → ⊥
        bytes f is e = let three : 3 ≡ f = cc in let none : [] ≡ text = subst (λ (g : ℕ). ((world (too_early ▸ entry.Cut (0 ∷ 1 ∷ []) ((3, 0) ∷ []))).files g).bytes ≡ text) (sym three) e in cc

pub in_place_lost : IsWholeAt state (λ bytes. bytes ≡ text) start in_place → ⊥
in_place_lost h = go h.now
  where
    go : IsOldOrNew state (λ bytes. bytes ≡ text) start in_place in_place → ⊥
    go (inl a) = let same : thing.File 3 ≡ thing.Nothing = a.named in cc
    go (inr r) = let is : thing.File 3 ≡ thing.File r.file = r.named in bytes r.file is r.text
      where
        bytes : (f : ℕ) → thing.File 3 ≡ thing.File f → ((world in_place).files f).bytes ≡ text → ⊥
        bytes f is e = let three : 3 ≡ f = cc in let part : codes "ne" ≡ text = subst (λ (g : ℕ). ((world in_place).files g).bytes ≡ text) (sym three) e in cc
