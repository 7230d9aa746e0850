-- The log with two members, where a member goes that the rule keeps.
use Rattle.std.proofs.Common.{◌≡◌, ◌⊎◌, inl, inr, ℕ, zero, suc, ◌+◌, ◌≤◌, Bool, true, false, not, cond, ◌&&◌, ◌||◌, bytes_eq, refl, sym, ◌∙◌, ap, arith, Option, Some, None, [], pos, codes}
use Rattle.lr_rules.specs.declared.path.Path.{Path}
use Rattle.lr_rules.specs.declared.civil.Moment.{Moment}
use Rattle.lr_rules.specs.declared.rule.Rule.{Rule}
use Rattle.lr_rules.specs.declared.rule.Naming.{Naming}
use Rattle.lr_rules.specs.declared.rule.Count.TheVariants.{Keep}
use Rattle.lr_host.specs.declared.entry.Entry.{Entry}
use Rattle.lr_host.specs.declared.entry.Entry.TheVariants.{Starts, Ends, Renames, Unlinks}
use Rattle.lr_host.specs.World.{World, Past, Opens, ◌▸◌, world, names, is_file, Drops}
use Rattle.lr_host.specs.Opening.{IsJournal}
use Rattle.lr_host.specs.Sets.{LogSet, Order}
use Rattle.lr_host.specs.Runs.{rotations, has_begun, turns}
use Rattle.lr_host.specs.Later.{later, counted, leaves, left_at, stood, first_place, place_among, place_by}
use Rattle.lr_host.specs.Released.{IsReleased, Releases, ByCount, ByAge}
use Rattle.lr_host.specs.Kept.{IsKept, Stands, IsWhole}
use Rattle.lr_host.specs.Safe.{IsSafe, whole, shorter}
use Rattle.lr_host.specs.Steady.{IsSteady}
use Rattle.lr_laws.specs.Chain.{log, first, second, third, found, rule, rules, IsOfChain, begins, goes_early}
use Rattle.lr_laws.proofs.Disk.{Came, made, moved, stayed, came, leaves_now}
use Rattle.lr_laws.proofs.Sound.{IsSound}
use Rattle.lr_laws.proofs.Stated.{sound_safe}
use Rattle.lr_laws.proofs.Example.{IsGood, all_turned, numbered, key_first, steady_on}

-- behind its rename the log has begun one rotation at most
abbrev turned : Moment → Past
turned now = begins (Opens found) now ▸ Renames second third ▸ Renames first second ▸ Renames log first

-- the first member's file isn't renamed away from the log's path
not_left : (s : LogSet) (w : World) (from to : Path) → is_file (names w s.log) 1 ≡ false → leaves s w (Renames from to) 1 ≡ false
not_left s w from to no_file = go (bytes_eq s.log from) (is_file (names w s.log) 1) no_file
  where
    go : (a b : Bool) → b ≡ false → (a && b) ≡ false
    go true b q = q
    go false b q = refl

still_none : (s : LogSet) (p : Past) (from to : Path) → is_file (names (world p) s.log) 1 ≡ false → left_at s p 1 ≡ None → left_at s (p ▸ Renames from to) 1 ≡ None
still_none s p from to no_file none = ap (λ b. cond b (Some (rotations s (p ▸ Renames from to))) (left_at s p 1)) (not_left s (world p) from to no_file) ∙ none

never_left : (s : LogSet) (now : Moment) → IsOfChain s → left_at s (turned now ▸ Unlinks second) 1 ≡ None
never_left s now c = still_none s (begins (Opens found) now ▸ Renames second third ▸ Renames first second) log first (ap (λ (l : Path). is_file (names (world (begins (Opens found) now ▸ Renames second third ▸ Renames first second)) l) 1) c.log_is)
    (still_none s (begins (Opens found) now ▸ Renames second third) first second (ap (λ (l : Path). is_file (names (world (begins (Opens found) now ▸ Renames second third)) l) 1) c.log_is)
    (still_none s (begins (Opens found) now) second third (ap (λ (l : Path). is_file (names (world (begins (Opens found) now)) l) 1) c.log_is) refl))

-- the rotations begun, and the one that the run may begin yet
abbrev room : LogSet → Past → ℕ
room s p = rotations s p + cond (has_begun s p) 0 1

room_stays : (s : LogSet) (p : Past) (e : Entry) → has_begun s (p ▸ e) ≡ (has_begun s p || turns s e) → room s (p ▸ e) ≡ room s p
room_stays s p e is = ap (λ b. rotations s (p ▸ e) + cond b 0 1) is ∙ go (has_begun s p) (turns s e)
  where
    go : (b t : Bool) → rotations s p + cond (t && not b) 1 0 + cond (b || t) 0 1 ≡ rotations s p + cond b 0 1
    go true true = omega arith
    go true false = omega arith
    go false true = omega arith
    go false false = omega arith

one_rotation : (s : LogSet) (now : Moment) → rotations s (turned now ▸ Unlinks second) ≤ 1
one_rotation s now =
    let a : room s (turned now ▸ Unlinks second) ≡ room s (begins (Opens found) now) = room_stays s (turned now) (Unlinks second) refl ∙ (room_stays s (begins (Opens found) now ▸ Renames second third ▸ Renames first second) (Renames log first) refl
    ∙ (room_stays s (begins (Opens found) now ▸ Renames second third) (Renames first second) refl ∙ room_stays s (begins (Opens found) now) (Renames second third) refl)) in
    let b : room s (begins (Opens found) now) ≡ 1 = refl in
    omega (arith, a, b)

at_place_zero : (s : LogSet) → IsOfChain s → first_place s found.names 1 ≡ 0
at_place_zero s c = ap (λ (o : Order). place_among o s.key found.names first) (numbered s c) ∙ ap place_by (key_first s c)

few_later : (s : LogSet) (now : Moment) → IsOfChain s → later s (turned now ▸ Unlinks second) 1 ≤ 1
few_later s now c = go (left_at s (turned now ▸ Unlinks second) 1) (stood s (turned now ▸ Unlinks second) 1) (never_left s now c)
  where
    go : (l : Option ℕ) (b : Bool) → l ≡ None → counted l b (rotations s (turned now ▸ Unlinks second)) (first_place s found.names 1) ≤ 1
    go (Some n) b q = absurd (cc)
    go None true q = omega arith
    go None false q = omega (arith, one_rotation s now, at_place_zero s c)

-- the rule keeps two, and has no age
no_cause : (s : LogSet) (p : Past) (l : ℕ) (r : Rule) → rule ≡ r → l ≤ 1 → ByCount l r ⊎ ByAge p 1 r → ⊥
no_cause s p l r is le (inl (n, count, enough)) = let e : 2 ≡ n = same (ap (λ (r : Rule). r.count) is ∙ count) in omega arith
  where
    same : {n : ℕ} → Keep 2 ≡ Keep n → 2 ≡ n
    same e = cc
no_cause s p l r is le (inr (days, age, old)) = clash (ap (λ (r : Rule). r.maxage) is ∙ age)
  where
    clash : {n : ℕ} → None ≡ Some n → ⊥
    clash e = cc

pub early_lost : (s : LogSet) (now : Moment) → IsOfChain s → IsKept s (turned now ▸ Unlinks second) → ⊥
early_lost s now c kept = go (kept 1 (inr (record { at = first; key = pos 0; member = key_first s c; named = refl })))
  where
    good : IsGood s (turned now)
    good = all_turned s now c

    sound : IsSound s (turned now)
    sound = sound_safe s (turned now) good.journal good.safe

    gone : (x : Path) → Came (Drops second) (names (world (turned now))) x 1 → ⊥
    gone x (made i) = cc
    gone x (moved z i j) = cc
    gone x (stayed i l) = l (sound.unique (names (world (turned now))) [] (leaves_now (world (turned now))) second x 1 refl i)

    never_aside : true ≡ false → ⊥
    never_aside e = cc

    cause : Releases s (turned now) (Unlinks second) 1 → ⊥
    cause (inl a) = never_aside (sym a.asked ∙ ap (λ (n : Naming). n.aside) c.naming_is)
    cause (inr (zero, r, lt, is, (gives, why))) = no_cause s (turned now) (later s (turned now ▸ Unlinks second) 1) r is (few_later s now c) why
    cause (inr (suc k, r, lt, is, (gives, why))) = omega arith

    go : IsReleased s (turned now ▸ Unlinks second) 1 ⊎ (Stands s (names (world (turned now ▸ Unlinks second))) (later s (turned now ▸ Unlinks second) 1) 1 × IsWhole (turned now ▸ Unlinks second) 1) → ⊥
    go (inl (un, inl (named, release))) = cause release
    go (inl (un, inr (unnamed, r))) = unnamed second refl
    go (inr (st, w)) = gone st.at (came (Drops second) (names (world (turned now))) st.at 1 st.named)

pub early_unsafe : (s : LogSet) (now : Moment) → IsOfChain s → IsSafe s (goes_early now) → ⊥
early_unsafe s now c safe = early_lost s now c (safe.each _ (shorter whole)).kept

pub early_journal : (s : LogSet) (now : Moment) → IsOfChain s → IsJournal (goes_early now)
early_journal s now c = (((all_turned s now c).journal, (1, refl)), refl)

pub early_steady : (s : LogSet) (now : Moment) → IsOfChain s → IsSteady s (goes_early now)
early_steady s now c = steady_on s c _ Ends refl refl tt (steady_on s c _ (Unlinks second) refl refl tt (steady_on s c _ (Renames log first) refl refl tt (steady_on s c _ (Renames first second) refl refl tt
    (steady_on s c _ (Renames second third) refl refl tt (steady_on s c _ (Starts (codes "/s/status") now rules) refl refl tt tt)))))
