-- The log with two members.
use Rattle.std.proofs.Common.{◌≡◌, ◌⊎◌, inl, inr, ℕ, zero, suc, ◌+◌, ◌≤◌, ◌<◌, Bool, true, false, not, ◌&&◌, ◌++◌, bytes_eq, refl, sym, ◌∙◌, ap, subst, arith, Some, List, [], ◌∷◌, length, pos}
use Rattle.std.specs.Prelude.{slice_index_or, All, Contains, count_by, ◌==◌, codes, get_or}
use Rattle.std.proofs.lemmas.List.Elements.{All-cons}
use Rattle.std.proofs.lemmas.Slice.Eq.{bytes_eq-Decides}
use Rattle.std.proofs.lemmas.Fmt.{decimal_digit}
use Rattle.std.specs.Fmt.{decimal}
use Rattle.std.proofs.lemmas.Bool.{and_parts}
use Rattle.lr_rules.specs.declared.path.Path.{Path}
use Rattle.lr_rules.specs.declared.civil.Moment.{Moment}
use Rattle.lr_rules.specs.declared.rule.Count.TheVariants.{Keep}
use Rattle.lr_rules.specs.Path.{parent_of, joined}
use Rattle.lr_rules.specs.Match.{WordGives, literal, wildcard, literal_path, is_wildcard, RuleGives}
use Rattle.lr_rules.specs.declared.rule.Rule.{Rule}
use Rattle.lr_rules.specs.declared.rule.Way.TheVariants.{Rename}
use Rattle.lr_rules.specs.Names.{naming_of, IsMemberAt, the_log, set_aside, a_member, a_part, IsName, Meet}
use Rattle.lr_host.specs.Steady.{IsSteady, IsSteadyAt, IsPassedOver, AttachesNoMember}
use Rattle.lr_host.specs.declared.thing.Thing.{Thing}
use Rattle.lr_host.specs.declared.thing.Thing.TheVariants as thing
use Rattle.lr_host.specs.declared.entry.Entry.{Entry}
use Rattle.lr_host.specs.declared.entry.Entry.TheVariants.{Starts, Ends, Renames, Unlinks}
use Rattle.lr_host.specs.declared.journal.OpenFile.{OpenFile}
use Rattle.lr_host.specs.Lists.{IsNotIn, AreDistinct}
use Rattle.lr_host.specs.World.{World, Names, Past, Opens, ◌▸◌, world, names, Moves, changed}
use Rattle.lr_host.specs.Fits.{Fits}
use Rattle.lr_host.specs.Opening.{IsValid, IsJournal, opening_paths}
use Rattle.lr_host.specs.Sets.{LogSet, Order, Numbered, order, order_of, IsKeyBy}
use Rattle.lr_host.specs.Runs.{SomeRule, rules_of, state_of}
use Rattle.lr_host.specs.Later.{later, IsGeneration}
use Rattle.lr_host.specs.Released.{IsReleased}
use Rattle.lr_host.specs.Kept.{IsKept, Stands, IsWhole}
use Rattle.lr_host.specs.Safe.{IsSafe, whole, shorter}
use Rattle.lr_host.proofs.Looked.{nothing_no_other, nothing_no_dir, file_no_dir}
use Rattle.lr_laws.specs.Follow.{MayFollow}
use Rattle.lr_laws.specs.Room.{MayMoveOn}
use Rattle.lr_laws.specs.Chain.{log, first, second, third, found, rule, rules, IsOfChain, begins, chain, resumed, failed_without_effect, failed_with_effect, lowest_first, log_first}
use Rattle.lr_laws.proofs.Disk.{Came, made, moved, stayed, came}
use Rattle.lr_laws.proofs.Opened.{opened}
use Rattle.lr_laws.proofs.Going.{safe_on}
use Rattle.lr_laws.proofs.Moves.{may_turn}
use Rattle.lr_laws.proofs.Stated.{at_first, quiet_safe, unlinks, moves, ready_first, ready_behind, ready_behind_unlink}

-- ---- the opening is a disk

pub none_of : {A : Type 0} (P : A → Type 0) → All P []
none_of P k d lt = absurd (omega arith)

abbrev pub EachOf : {A : Type 0} → (A → Type 0) → List A → Type 0
EachOf P [] = Unit {0}
EachOf P (x ∷ xs) = P x × EachOf P xs

pub each : {A : Type 0} (P : A → Type 0) (xs : List A) → EachOf P xs → All P xs
each P [] h = none_of P
each P (x ∷ xs) h = All-cons P x xs h.0 (each P xs h.1)

abbrev pub is_new : Path → List Path → Bool
is_new x [] = true
is_new x (y ∷ ys) = not (bytes_eq x y) && is_new x ys

abbrev pub are_new : List Path → Bool
are_new [] = true
are_new (y ∷ ys) = is_new y ys && are_new ys

pub not_in : (x : Path) (ys : List Path) → is_new x ys ≡ true → IsNotIn x ys
not_in x [] h = tt
not_in x (y ∷ ys) h = let s = and_parts (not (bytes_eq x y)) (is_new x ys) h in ((λ same. let t : bytes_eq x y ≡ true = (bytes_eq-Decides x y).1 same in clash (bytes_eq x y) s.0 t), not_in x ys s.1)
  where
    clash : (b : Bool) → not b ≡ true → b ≡ true → ⊥
    clash b p q = cc

pub distinct : (ys : List Path) → are_new ys ≡ true → AreDistinct ys
distinct [] h = tt
distinct (y ∷ ys) h = let s = and_parts (is_new y ys) (are_new ys) h in (not_in y ys s.0, distinct ys s.1)

pub found_valid : IsValid found
found_valid = record {
  once = distinct (opening_paths found) refl;
  root = (0, omega arith, refl);
  inside = each In (opening_paths found) (in_v, (in_v, (in_v, (in_root, (in_root, (in_root, tt))))));
  named = one;
  known = each Known found.names (omega arith, (omega arith, (omega arith, tt)));
  held = none_of (λ h. h.1 < length found.files);
  hold_once = tt;
  synced = each Synced found.files (omega arith, (omega arith, (omega arith, tt)));
}
  where
    In : Path → Type 0
    In x = Contains found.dirs (parent_of x)

    Known : Path × ℕ → Type 0
    Known n = n.1 < length found.files

    Synced : OpenFile → Type 0
    Synced f = f.synced ≤ length f.bytes

    in_v : (k : ℕ) × (k < length found.dirs) × (slice_index_or found.dirs k (codes "/v") ≡ codes "/v")
    in_v = (1, omega arith, refl)

    in_root : (k : ℕ) × (k < length found.dirs) × (slice_index_or found.dirs k (codes "/") ≡ codes "/")
    in_root = (0, omega arith, refl)

    one : (g : ℕ) → g < length found.files → count_by (λ n. n.1 == g) found.names ≡ 1
    one zero lt = refl
    one (suc zero) lt = refl
    one (suc (suc zero)) lt = refl
    one (suc (suc (suc g))) lt = absurd (omega arith)

-- ---- the rule gives the log, and its naming gives the members

gives_log : WordGives log log
gives_log = literal refl refl

rule_gives : RuleGives rule log
rule_gives = (0, log, omega arith, refl, gives_log)

some_rule : (s : LogSet) → IsOfChain s → SomeRule (rule ∷ []) s.log (λ r. r.count ≡ Keep 2)
some_rule s c = (0, rule, omega arith, refl, (subst (λ (x : Path). RuleGives rule x) (sym c.log_is) rule_gives, refl))

pub numbered : (s : LogSet) → IsOfChain s → order s ≡ Numbered
numbered s c = ap (λ n. order_of n.dated) c.naming_is

named_by : (d place : ℕ) → d ≡ 1 + place → d < 10 → IsMemberAt (naming_of rule log) place (joined (codes "/v") (codes "a.log" ++ 46 ∷ (48 + d) ∷ []))
named_by d place e lt = record { bound = omega arith; named = ap (λ (ds : List ℕ). joined (codes "/v") (codes "a.log" ++ 46 ∷ ds ++ [])) (sym (decimal_digit d lt) ∙ ap decimal e) }

key_at : (s : LogSet) → IsOfChain s → (place : ℕ) (x : Path) → IsMemberAt (naming_of rule log) place x → s.key x ≡ Some (pos place)
key_at s c place x m = (keys x (pos place)).1 (place, refl, subst (λ n. IsMemberAt n place x) (sym c.naming_is) m)
  where
    keys : IsKeyBy Numbered s.naming s.key
    keys = subst (λ (o : Order). IsKeyBy o s.naming s.key) (numbered s c) s.keys

pub key_first : (s : LogSet) → IsOfChain s → s.key first ≡ Some (pos 0)
key_first s c = key_at s c 0 first (named_by 1 0 refl (omega arith))

pub key_second : (s : LogSet) → IsOfChain s → s.key second ≡ Some (pos 1)
key_second s c = key_at s c 1 second (named_by 2 1 refl (omega arith))

pub key_third : (s : LogSet) → IsOfChain s → s.key third ≡ Some (pos 2)
key_third s c = key_at s c 2 third (named_by 3 2 refl (omega arith))

-- ---- step by step

-- a journal of a disk, and safe
pub record IsGood (s : LogSet) (p : Past) : Type 0 where
  pub journal : IsJournal p
  pub safe : IsSafe s p

good_on : (s : LogSet) (p : Past) (e : Entry) → IsGood s p → Fits (world p) e → MayFollow s p e → IsGood s (p ▸ e)
good_on s p e good f m = record { journal = (good.journal, f); safe = safe_on s p e (good.journal, f) good.safe m }

-- a rename of a file to a path that names nothing
rename_fits : (w : World) (from to : Path) (g : ℕ) → names w from ≡ thing.File g → names w to ≡ thing.Nothing → names w (parent_of to) ≡ thing.Directory → bytes_eq from to ≡ false → Fits w (Renames from to)
rename_fits w from to g file free dir other = ((g, file), (λ e. nothing_no_dir (names w to) free e), (λ e. nothing_no_other (names w to) free e), dir, (λ same. let t : bytes_eq from to ≡ true = (bytes_eq-Decides from to).1 same in cc))

-- a member that is ready goes one place further, and those before it stay ready
pub record IsReadyGood (s : LogSet) (p : Past) (limit : ℕ) : Type 0 where
  pub good : IsGood s p
  pub ready : MayMoveOn s p limit

pub moved_on : (s : LogSet) → IsOfChain s → (p : Past) (from to : Path) (place limit g : ℕ) → IsReadyGood s p limit → place < limit → s.key from ≡ Some (pos place) → s.key to ≡ Some (pos (place + 1))
    → names (world p) from ≡ thing.File g → names (world p) to ≡ thing.Nothing → names (world p) (parent_of to) ≡ thing.Directory → bytes_eq from to ≡ false → IsReadyGood s (p ▸ Renames from to) place
moved_on s c p from to place limit g r lt is is' file free dir other = record {
  good = good_on s p (Renames from to) r.good fits (moves s p from to place r.good.journal r.good.safe (numbered s c) is is' free (r.ready from place is lt));
  ready = ready_behind s p from to place limit (r.good.journal, fits) r.good.safe (numbered s c) is is' lt r.ready;
}
  where
    fits : Fits (world p) (Renames from to)
    fits = rename_fits (world p) from to g file free dir other

pub turned_on : (s : LogSet) → IsOfChain s → (p : Past) (g : ℕ) → IsGood s p → names (world p) log ≡ thing.File g → names (world p) first ≡ thing.Nothing → names (world p) (parent_of first) ≡ thing.Directory → IsGood s (p ▸ Renames log first)
turned_on s c p g good file free dir = good_on s p (Renames log first) good (rename_fits (world p) log first g file free dir refl) (subst (λ (x : Path). MayFollow s p (Renames x first)) c.log_is (may_turn s p s.log first (numbered s c) (key_first s c) free))

pub gone_on : (s : LogSet) → IsOfChain s → (p : Past) (g : ℕ) → rules_of p ≡ rule ∷ [] → IsGood s p → names (world p) third ≡ thing.File g → IsGood s (p ▸ Unlinks third)
gone_on s c p g same good file = good_on s p (Unlinks third) good (g, file) (unlinks s p third 2 2 good.journal good.safe (numbered s c) (key_third s c) (omega arith) (subst (λ rs. SomeRule rs s.log (λ r. r.count ≡ Keep 2)) (sym same) (some_rule s c)))

gone_ready : (s : LogSet) → IsOfChain s → (p : Past) (g limit : ℕ) → rules_of p ≡ rule ∷ [] → IsReadyGood s p limit → names (world p) third ≡ thing.File g → IsReadyGood s (p ▸ Unlinks third) limit
gone_ready s c p g limit same r file = record { good = gone_on s c p g same r.good file; ready = ready_behind_unlink s p third limit (r.good.journal, (g, file)) r.good.safe r.ready }

pub begun_on : (s : LogSet) → IsOfChain s → (p : Past) (now : Moment) → IsGood s p → names (world p) (parent_of (codes "/s/status")) ≡ thing.Directory → IsReadyGood s (begins p now) 2
begun_on s c p now good dir = record { good = here; ready = ready_first s (begins p now) 2 here.safe (numbered s c) refl }
  where
    here : IsGood s (begins p now)
    here = record { journal = (good.journal, dir); safe = quiet_safe s p (Starts (codes "/s/status") now rules) (good.journal, dir) good.safe (tt, refl) }

pub ended_on : (s : LogSet) (p : Past) → IsGood s p → (world p).running ≡ true → IsGood s (p ▸ Ends)
ended_on s p good is = record { journal = (good.journal, is); safe = quiet_safe s p Ends (good.journal, is) good.safe (tt, refl) }

pub opens : (s : LogSet) → IsGood s (Opens found)
opens s = record { journal = found_valid; safe = at_first s found found_valid }

first_run : (s : LogSet) (now : Moment) → IsOfChain s → IsReadyGood s (begins (Opens found) now) 2
first_run s now c = begun_on s c (Opens found) now (opens s) refl

-- the member at place 1 has moved
one_moved : (s : LogSet) (now : Moment) → IsOfChain s → IsReadyGood s (begins (Opens found) now ▸ Renames second third) 1
one_moved s now c = moved_on s c (begins (Opens found) now) second third 1 2 2 (first_run s now c) (omega arith) (key_second s c) (key_third s c) refl refl refl refl

both_moved : (s : LogSet) (now : Moment) → IsOfChain s → IsReadyGood s (begins (Opens found) now ▸ Renames second third ▸ Renames first second) 0
both_moved s now c = moved_on s c (begins (Opens found) now ▸ Renames second third) first second 0 1 1 (one_moved s now c) (omega arith) (key_first s c) (key_second s c) refl refl refl refl

pub all_turned : (s : LogSet) (now : Moment) → IsOfChain s → IsGood s (begins (Opens found) now ▸ Renames second third ▸ Renames first second ▸ Renames log first)
all_turned s now c = turned_on s c (begins (Opens found) now ▸ Renames second third ▸ Renames first second) 0 (both_moved s now c).good refl refl refl

pub chain_safe : (s : LogSet) (now : Moment) → IsOfChain s → IsJournal (chain now) × IsSafe s (chain now)
chain_safe s now c = (done.journal, done.safe)
  where
    done : IsGood s (chain now)
    done = ended_on s _ (gone_on s c _ 2 refl (all_turned s now c) refl) refl

pub resumed_safe : (s : LogSet) (now again : Moment) → IsOfChain s → IsJournal (resumed now again) × IsSafe s (resumed now again)
resumed_safe s now again c = (done.journal, done.safe)
  where
    begun : IsReadyGood s (begins (begins (Opens found) now ▸ Renames second third) again) 2
    begun = begun_on s c _ again (one_moved s now c).good refl

    gone : IsReadyGood s (begins (begins (Opens found) now ▸ Renames second third) again ▸ Unlinks third) 2
    gone = gone_ready s c _ 2 2 refl begun refl

    moved : IsReadyGood s (begins (begins (Opens found) now ▸ Renames second third) again ▸ Unlinks third ▸ Renames first second) 0
    moved = moved_on s c _ first second 0 2 1 gone (omega arith) (key_first s c) (key_second s c) refl refl refl refl

    done : IsGood s (resumed now again)
    done = ended_on s _ (turned_on s c _ 0 moved.good refl refl refl) refl

pub without_effect_safe : (s : LogSet) (now again : Moment) → IsOfChain s → IsJournal (failed_without_effect now again) × IsSafe s (failed_without_effect now again)
without_effect_safe s now again c = (done.journal, done.safe)
  where
    ended : IsGood s (begins (Opens found) now ▸ Renames second third ▸ Ends)
    ended = ended_on s _ (one_moved s now c).good refl

    gone : IsReadyGood s (begins (begins (Opens found) now ▸ Renames second third ▸ Ends) again ▸ Unlinks third) 2
    gone = gone_ready s c _ 2 2 refl (begun_on s c _ again ended refl) refl

    moved : IsReadyGood s (begins (begins (Opens found) now ▸ Renames second third ▸ Ends) again ▸ Unlinks third ▸ Renames first second) 0
    moved = moved_on s c _ first second 0 2 1 gone (omega arith) (key_first s c) (key_second s c) refl refl refl refl

    done : IsGood s (failed_without_effect now again)
    done = ended_on s _ (turned_on s c _ 0 moved.good refl refl refl) refl

pub with_effect_safe : (s : LogSet) (now again : Moment) → IsOfChain s → IsJournal (failed_with_effect now again) × IsSafe s (failed_with_effect now again)
with_effect_safe s now again c = (done.journal, done.safe)
  where
    ended : IsGood s (begins (Opens found) now ▸ Renames second third ▸ Renames first second ▸ Ends)
    ended = ended_on s _ (both_moved s now c).good refl

    gone : IsReadyGood s (begins (begins (Opens found) now ▸ Renames second third ▸ Renames first second ▸ Ends) again ▸ Unlinks third) 2
    gone = gone_ready s c _ 2 2 refl (begun_on s c _ again ended refl) refl

    moved : IsReadyGood s (begins (begins (Opens found) now ▸ Renames second third ▸ Renames first second ▸ Ends) again ▸ Unlinks third ▸ Renames second third) 1
    moved = moved_on s c _ second third 1 2 1 gone (omega arith) (key_second s c) (key_third s c) refl refl refl refl

    done : IsGood s (failed_with_effect now again)
    done = ended_on s _ (gone_on s c _ 1 refl (turned_on s c _ 0 moved.good refl refl refl) refl) refl

-- ---- the wrong orders

-- a rename to a path takes the name of the file there, which had no other
unnamed_by : (n : Names) (from to : Path) (f g : ℕ) → n from ≡ thing.File f → (f ≡ g → ⊥) → n to ≡ thing.File g → ((x : Path) → n x ≡ thing.File g → x ≡ to) → changed (Moves from to) n to ≡ thing.File f → (x : Path) → changed (Moves from to) n x ≡ thing.File g → ⊥
unnamed_by n from to f g file other over only now x is = at (came (Moves from to) n x g is)
  where
    same_file : (t : Thing) → t ≡ thing.File f → t ≡ thing.File g → f ≡ g
    same_file t a b = cc

    at : Came (Moves from to) n x g → ⊥
    at (made i) = cc
    at (moved z i j) = let e : from ≡ z = cc in other (same_file (n from) file (ap n e ∙ j))
    at (stayed i l) = other (same_file (changed (Moves from to) n to) now (subst (λ y. changed (Moves from to) n y ≡ thing.File g) (only x i) is))

-- a file that lost its last name by a rename is not kept
lost_by : (s : LogSet) (p : Past) (from to : Path) (f g : ℕ) → ((x : Path) → names (world p) x ≡ thing.File g → x ≡ to) → names (world p) from ≡ thing.File f → (f ≡ g → ⊥)
    → names (world p) to ≡ thing.File g → changed (Moves from to) (names (world p)) to ≡ thing.File f → IsGeneration s (p ▸ Renames from to) g → IsKept s (p ▸ Renames from to) → ⊥
lost_by s p from to f g only file other over now gen kept = go (kept g gen)
  where
    gone : (x : Path) → changed (Moves from to) (names (world p)) x ≡ thing.File g → ⊥
    gone = unnamed_by (names (world p)) from to f g file other over only now

    go : IsReleased s (p ▸ Renames from to) g ⊎ (Stands s (names (world (p ▸ Renames from to))) (later s (p ▸ Renames from to) g) g × IsWhole (p ▸ Renames from to) g) → ⊥
    go (inl (un, inl (named, none))) = none
    go (inl (un, inr (unnamed, r))) = unnamed to over
    go (inr (st, w)) = gone st.at st.named

only_one : (x : Path) (g : ℕ) (y : Path) → names (world (Opens found)) y ≡ thing.File g → names (world (Opens found)) x ≡ thing.File g → x ≡ y
only_one x g y is it = (opened found found_valid).unique x y g it is

pub lowest_lost : (s : LogSet) (now : Moment) → IsOfChain s → IsKept s (begins (Opens found) now ▸ Renames first second) → ⊥
lowest_lost s now c = lost_by s (begins (Opens found) now) first second 1 2 (λ x is. only_one x 2 second refl is) refl (λ e. absurd (cc)) refl refl (inr (record { at = second; key = pos 1; member = key_second s c; named = refl }))

pub log_lost : (s : LogSet) (now : Moment) → IsOfChain s → IsKept s (begins (Opens found) now ▸ Renames log first) → ⊥
log_lost s now c = lost_by s (begins (Opens found) now) log first 0 1 (λ x is. only_one x 1 first refl is) refl (λ e. absurd (cc)) refl refl (inr (record { at = first; key = pos 0; member = key_first s c; named = refl }))

pub lowest_unsafe : (s : LogSet) (now : Moment) → IsOfChain s → IsSafe s (lowest_first now) → ⊥
lowest_unsafe s now c safe = lowest_lost s now c (safe.each _ (shorter (shorter (shorter (shorter whole))))).kept

pub log_unsafe : (s : LogSet) (now : Moment) → IsOfChain s → IsSafe s (log_first now) → ⊥
log_unsafe s now c safe = log_lost s now c (safe.each _ (shorter (shorter (shorter (shorter whole))))).kept

-- a rename of a file over another
rename_over : (w : World) (from to : Path) (f g : ℕ) → names w from ≡ thing.File f → names w to ≡ thing.File g → names w (parent_of to) ≡ thing.Directory → bytes_eq from to ≡ false → Fits w (Renames from to)
rename_over w from to f g file over dir other = ((f, file), (λ e. file_no_dir (names w to) g over e), (λ e. clash_other (names w to) over e), dir, (λ same. let t : bytes_eq from to ≡ true = (bytes_eq-Decides from to).1 same in cc))
  where
    clash_other : (t : Thing) → t ≡ thing.File g → t ≡ thing.Other → ⊥
    clash_other t a b = cc

pub lowest_journal : (now : Moment) → IsJournal (lowest_first now)
lowest_journal now = (
  (
    (
      (((found_valid, refl), rename_over (world (begins (Opens found) now)) first second 1 2 refl refl refl refl), rename_fits (world (begins (Opens found) now ▸ Renames first second)) second third 1 refl refl refl refl),
      rename_fits (world (begins (Opens found) now ▸ Renames first second ▸ Renames second third)) log first 0 refl refl refl refl,
    ),
    (1, refl),
  ),
  refl,
)

pub log_journal : (now : Moment) → IsJournal (log_first now)
log_journal now = (
  (
    (
      (((found_valid, refl), rename_over (world (begins (Opens found) now)) log first 0 1 refl refl refl refl), rename_fits (world (begins (Opens found) now ▸ Renames log first)) second third 2 refl refl refl refl),
      rename_fits (world (begins (Opens found) now ▸ Renames log first ▸ Renames second third)) first second 0 refl refl refl refl,
    ),
    (2, refl),
  ),
  refl,
)

-- ---- the premises are met, also by the wrong orders

-- the rule gives no other path
gives_only : (x : Path) → RuleGives rule x → x ≡ log
gives_only x (zero, word, lt, is, g) = at g
  where
    at : WordGives word x → x ≡ log
    at (literal l e) = e ∙ ap literal_path (sym is)
    at (wildcard w m n) = absurd (let f : is_wildcard word ≡ false = ap is_wildcard (sym is) in cc)
gives_only x (suc k, word, lt, is, g) = absurd (omega arith)

-- names of the set stand in `/v`
not_name : (y : Path) → get_or y 1 0 ≡ 115 → IsName log (naming_of rule log) y → ⊥
not_name y at (inl (the_log e)) = let h : get_or y 1 0 ≡ 118 = ap (λ (z : Path). get_or z 1 0) e in omega (arith, at, h)
not_name y at (inl (set_aside asked e)) = absurd (cc asked)
not_name y at (inl (a_member last shape e)) = let h : get_or y 1 0 ≡ 118 = ap (λ (z : Path). get_or z 1 0) e in omega (arith, at, h)
not_name y at (inl (a_part last shape e)) = let h : get_or y 1 0 ≡ 118 = ap (λ (z : Path). get_or z 1 0) e in omega (arith, at, h)
not_name y at (inr e) = let h : get_or y 1 0 ≡ 118 = ap (λ (z : Path). get_or z 1 0) e in omega (arith, at, h)

no_name : (s : LogSet) → IsOfChain s → (y : Path) → get_or y 1 0 ≡ 115 → IsName s.log s.naming y → ⊥
no_name s c y at h = not_name y at (subst (λ n. IsName log n y) c.naming_is (subst (λ (l : Path). IsName l s.naming y) c.log_is h))

one_rule : (P : Rule → Type 0) (p : Past) → rules_of p ≡ rule ∷ [] → P rule → All P (rules_of p)
one_rule P p same h = subst (λ rs. All P rs) (sym same) (All-cons P rule [] h (none_of P))

same_some : (x y : Path) → Some x ≡ Some y → x ≡ y
same_some x y e = cc

steady_at : (s : LogSet) → IsOfChain s → (p : Past) → rules_of p ≡ rule ∷ [] → state_of p ≡ Some (codes "/s/status") → IsSteadyAt s p
steady_at s c p same state = record {
  rules = one_rule (λ r. RuleGives r s.log → (r.way ≡ Rename) × (naming_of r s.log ≡ s.naming)) p same (λ g. (refl, ap (naming_of rule) c.log_is ∙ sym c.naming_is));
  agree = one_rule (λ r. All (λ q. RuleGives r s.log → RuleGives q s.log → (r.count ≡ q.count) × (r.maxage ≡ q.maxage)) (rules_of p)) p same
      (one_rule (λ q. RuleGives rule s.log → RuleGives q s.log → (rule.count ≡ q.count) × (rule.maxage ≡ q.maxage)) p same (λ g h. (refl, refl)));
  state = λ x is h. no_name s c x (sym (ap (λ (z : Path). get_or z 1 0) (at x is))) h;
  new_state = λ x is h. no_name s c (x ++ codes ".tmp") (sym (ap (λ (z : Path). get_or (z ++ codes ".tmp") 1 0) (at x is))) h;
  lock = λ x is h. no_name s c (x ++ codes ".lock") (sym (ap (λ (z : Path). get_or (z ++ codes ".lock") 1 0) (at x is))) h;
  apart = λ x other file. one_rule (λ r. RuleGives r x → Meet s.log s.naming x (naming_of r x) → IsPassedOver s p x) p same (λ g m. absurd (other (gives_only x g ∙ sym c.log_is)));
}
  where
    at : (x : Path) → state_of p ≡ Some x → codes "/s/status" ≡ x
    at x is = same_some (codes "/s/status") x (sym state ∙ is)

pub steady_on : (s : LogSet) → IsOfChain s → (p : Past) (e : Entry) → rules_of (p ▸ e) ≡ rule ∷ [] → state_of (p ▸ e) ≡ Some (codes "/s/status") → AttachesNoMember s e → IsSteady s p → IsSteady s (p ▸ e)
steady_on s c p e same state a st = (st, steady_at s c (p ▸ e) same state, a)

pub chain_steady : (s : LogSet) (now : Moment) → IsOfChain s → IsSteady s (chain now)
chain_steady s now c = steady_on s c _ Ends refl refl tt (steady_on s c _ (Unlinks third) refl refl tt (steady_on s c _ (Renames log first) refl refl tt (steady_on s c _ (Renames first second) refl refl tt
    (steady_on s c _ (Renames second third) refl refl tt (steady_on s c _ (Starts (codes "/s/status") now rules) refl refl tt tt)))))

pub lowest_steady : (s : LogSet) (now : Moment) → IsOfChain s → IsSteady s (lowest_first now)
lowest_steady s now c = steady_on s c _ Ends refl refl tt (steady_on s c _ (Unlinks third) refl refl tt (steady_on s c _ (Renames log first) refl refl tt (steady_on s c _ (Renames second third) refl refl tt
    (steady_on s c _ (Renames first second) refl refl tt (steady_on s c _ (Starts (codes "/s/status") now rules) refl refl tt tt)))))

pub log_steady : (s : LogSet) (now : Moment) → IsOfChain s → IsSteady s (log_first now)
log_steady s now c = steady_on s c _ Ends refl refl tt (steady_on s c _ (Unlinks third) refl refl tt (steady_on s c _ (Renames first second) refl refl tt (steady_on s c _ (Renames second third) refl refl tt
    (steady_on s c _ (Renames log first) refl refl tt (steady_on s c _ (Starts (codes "/s/status") now rules) refl refl tt tt)))))
