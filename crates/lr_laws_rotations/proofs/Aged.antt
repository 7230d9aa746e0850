-- What looks at the members tell of their age lets those go that the run takes for too old.
use Rattle.std.proofs.Common.{◌≡◌, ◌⊎◌, inl, inr, ⊎_elim, ℕ, suc, ◌*◌, true, refl, sym, ◌∙◌, ap, subst, Option, Some, None, List, reverse, ℤ, pos, ◌-ℤ◌, ◌<ℤ◌}
use Rattle.std.proofs.lemmas.Bool.{or_cases}
use Rattle.std.proofs.lemmas.List.Elements.{All-contains}
use Rattle.lr_rules.specs.declared.path.Path.{Path}
use Rattle.lr_rules.specs.declared.rule.Count.{Count}
use Rattle.lr_rules.specs.declared.rule.Rule.{Rule}
use Rattle.lr_host.specs.declared.thing.Thing.TheVariants as thing
use Rattle.lr_host.specs.declared.thing.Seen.{Seen}
use Rattle.lr_host.specs.declared.entry.Entry.{Entry}
use Rattle.lr_host.specs.declared.entry.Entry.TheVariants as entry
use Rattle.lr_host.specs.Lists.{IsIn}
use Rattle.lr_host.specs.Quiet.{IsQuiet}
use Rattle.lr_host.specs.Released.{SawOlder, ByAge}
use Rattle.lr_host.specs.Runs.{rules_of, SomeRule}
use Rattle.lr_host.specs.Sets.{LogSet, order_of}
use Rattle.lr_host.specs.Steady.{NoneAttached}
use Rattle.lr_host.specs.Told.{Each, Made, at_first, by_writer, by_tool}
use Rattle.lr_host.specs.World.{Past, ◌▸◌, world, names}
use Rattle.lr_host.proofs.Lists.{in_to, from_reverse}
use Rattle.lr_host.proofs.Quiet.{looked_names, no_disk_change}
use Rattle.lr_laws.specs.Rotation.{IsPastAge}
use Rattle.lr_laws.proofs.Moves.{some_rule}
use Rattle.lr_laws.proofs.Rising.{IsStarts}
use Rattle.lr_laws.proofs.Walk.{IsSameRun, same_run_on}
use Rattle.lr_laws.proofs.Writing.{attached_before, wrote_member, not_starts}
use Rattle.lr_family.specs.declared.place.Place.TheVariants as place_of
use Rattle.lr_family.specs.declared.stand.Member.{Member}
use Rattle.lr_family.specs.Spots.{path_at}
use Rattle.lr_family.specs.Stands.{number_in}
use Rattle.lr_family.specs.Looks.{WasSeen}
use Rattle.lr_chain.specs.Rotation.{is_left, is_expired, going}
use Rattle.lr_chain.proofs.DatedOrder.{lt_true}
use Rattle.lr_laws_family.specs.Numbered.{HasName}
use Rattle.lr_laws_family.specs.Shown.{Shown}
use Rattle.lr_laws_family.proofs.Numbers.{at_number}
use Rattle.lr_laws_family.proofs.Picking.{named_all}
use Rattle.lr_laws_rotations.proofs.GoingMembers.{Goer, goer}
use Rattle.lr_laws_rotations.proofs.Places.{MayGo}
use Rattle.lr_laws_rotations.proofs.Turning.{key_at}

-- ---- the run

quiet_no_start : (e : Entry) → IsQuiet e → IsStarts e → ⊥
quiet_no_start (entry.Starts state now rules) (i, h) st = cc
quiet_no_start _ i st = st

pub same_run : (p : Past) → IsSameRun p p
same_run p = record { rules = refl; now = refl; saw = λ g moment h. h }

-- behind looks it is the same run
pub looked_run : (p q : Past) (es : List Entry) → Made p es q → Each IsQuiet es → IsSameRun p q
looked_run p _ _ at_first a = same_run p
looked_run p _ es (by_writer {q = q} {e = e} m i f) a = same_run_on p q e (not_starts e i) (looked_run p q es m a)
looked_run p _ _ (by_tool {es = es} {q = q} {e = e} m i f) a = same_run_on p q e (quiet_no_start e a.0) (looked_run p q es m a.1)

-- ---- the looks

-- A look at a member saw what it names behind the looks: an old file.
saw_older : (s : LogSet) (p q : Past) (es : List Entry) (x : Path) (k : ℤ) (seen : Seen) (g : ℕ) (moment : ℤ) → Made p es q → Each IsQuiet es → NoneAttached s q → s.key x ≡ Some k → seen.mtime <ℤ moment → IsIn (entry.Look x (Some seen)) es
    → names (world q) x ≡ thing.File g → SawOlder q g moment
saw_older s p _ _ x k seen g moment at_first a none key old i is = absurd i
saw_older s p _ es x k seen g moment (by_writer {q = q} {e = e} m i f) a none key old there is =
    (same_run_on q q e (not_starts e i) (same_run q)).saw g moment (saw_older s p q es x k seen g moment m a (attached_before s q e none) key old there (sym (wrote_member s q e x k i none key) ∙ is))
saw_older s p _ _ x k seen g moment (by_tool {es = es} {q = q} {e = e} m i f) a none key old there is =
    go (λ rest. (same_run_on q q e (quiet_no_start e a.0) (same_run q)).saw g moment (saw_older s p q es x k seen g moment m a.1 (attached_before s q e none) key old rest before)) there
  where
    before : names (world q) x ≡ thing.File g
    before = sym (looked_names q e x i (no_disk_change e a.0.1)) ∙ is

    go : (IsIn (entry.Look x (Some seen)) es → SawOlder (q ▸ e) g moment) → (e ≡ entry.Look x (Some seen)) ⊎ IsIn (entry.Look x (Some seen)) es → SawOlder (q ▸ e) g moment
    go further (inl same) = subst (λ (d : Entry). SawOlder (q ▸ d) g moment) (sym same) (inl (before, old))
    go further (inr rest) = further rest

-- What a member names that a look saw too old a rule lets go by its age, in the run of the look.
pub goes_by_age : (s : LogSet) (p q : Past) (es : List Entry) (x : Path) (k : ℤ) (m : Member) (rule : Rule) (g : ℕ) → Made p es q → Each IsQuiet es → NoneAttached s q → s.key x ≡ Some k → IsIn (entry.Look x (Some m.seen)) es → is_expired rule.maxage (world q).now m ≡ true
    → names (world q) x ≡ thing.File g → ByAge q g rule
goes_by_age s p q es x k m rule g made quiet none key look = go rule.maxage refl
  where
    go : (o : Option ℕ) → rule.maxage ≡ o → is_expired o (world q).now m ≡ true → names (world q) x ≡ thing.File g → ByAge q g rule
    go None e old is = absurd (cc)
    go (Some days) e old is = let moment = (world q).now -ℤ pos (days * 86_400) in (days, e, saw_older s p q es x k m.seen g moment made quiet none key (lt_true m.seen.mtime moment old) look is)

-- So does a rule that lets files go by this age.
pub old_goes : (s : LogSet) (p q : Past) (es : List Entry) (maxage : Option ℕ) (m : Member) (k : ℤ) → Made p es q → Each IsQuiet es → NoneAttached s q → SomeRule (rules_of q) s.log (λ r. r.maxage ≡ maxage) → s.key m.path ≡ Some k → WasSeen (reverse es) m
    → is_expired maxage (world q).now m ≡ true → IsPastAge s q (names (world q)) m.path
old_goes s p q es maxage m k made quiet none rule key seen old g there = some_rule (rules_of q) s.log (λ r. r.maxage ≡ maxage) (ByAge q g)
    (λ r same. goes_by_age s p q es m.path k m r g made quiet none key (from_reverse (entry.Look m.path (Some m.seen)) es seen.1) (subst (λ (days : Option ℕ). is_expired days (world q).now m ≡ true) (sym same) old) there) rule

-- ---- the members that go

pub may_go : (s : LogSet) (p q : Past) (es : List Entry) (c : Count) (maxage : Option ℕ) (members : List Member) → s.naming.dated ≡ None → Made p es q → Each IsQuiet es → NoneAttached s q → SomeRule (rules_of q) s.log (λ r. r.maxage ≡ maxage)
    → Shown s.naming members (reverse es) → MayGo s q c (going c maxage (world q).now members)
may_go s p q es c maxage members numbers made quiet none rule shown place h =
    ⊎_elim (λ full. inl full) (λ old. inr (subst (λ (x : Path). IsPastAge s q (names (world q)) x) here (old_goes s p q es maxage goes.one (pos (number_in goes.one.place)) made quiet none rule key seen old)))
    (or_cases (is_left c (suc place)) (is_expired maxage (world q).now goes.one) goes.why)
  where
    goes : Goer c maxage (world q).now members place
    goes = goer c maxage (world q).now members place h

    at : HasName s.naming (number_in goes.one.place) × (goes.one.path ≡ path_at s.naming (number_in goes.one.place)) × (goes.one.place ≡ place_of.Number (number_in goes.one.place))
    at = at_number s.naming numbers goes.one.place goes.one.path (named_all s.naming members goes.one shown.named goes.there)

    here : goes.one.path ≡ path_at s.naming place
    here = at.1 ∙ ap (path_at s.naming) goes.number

    key : s.key goes.one.path ≡ Some (pos (number_in goes.one.place))
    key = ap s.key at.1 ∙ key_at s (number_in goes.one.place) (ap order_of numbers) at.0

    seen : WasSeen (reverse es) goes.one
    seen = All-contains (WasSeen (reverse es)) members goes.one shown.files (in_to goes.one members goes.there)
