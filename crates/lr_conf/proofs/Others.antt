-- Which files lines ask for, and what they make taboo, line by line.
use Rattle.std.proofs.Common.{◌≡◌, ℕ, Bool, true, false, not, cond, List, [], ◌∷◌, ◌++◌, Option, Some, None, Result, Ok, Err, refl, ap, sym, ◌∙◌}
use Rattle.std.specs.List.{filter_map, cons_option}
use Rattle.std.specs.Prelude.{option_to_list}
use Rattle.lr_rules.specs.declared.path.Path.{Path}
use Rattle.lr_rules.specs.declared.fault.ConfKind.{ConfKind}
use Rattle.lr_rules.specs.declared.fault.Fault.{Fault}
use Rattle.lr_forms.specs.declared.said.LineSaid.{LineSaid}
use Rattle.lr_forms.specs.declared.said.LineSaid.TheVariants as says
use Rattle.lr_forms.specs.Says.{closes_definition, item_says}
use Rattle.lr_conf.specs.declared.draft.Draft.{Draft}
use Rattle.lr_conf.specs.declared.place.Place.{Place}
use Rattle.lr_conf.specs.declared.place.Place.TheVariants.{Outside, Good, Dropped}
use Rattle.lr_conf.specs.declared.stop.Include.{Include}
use Rattle.lr_conf.specs.declared.stop.LayerStop.{LayerStop}
use Rattle.lr_conf.specs.declared.stop.LayerStop.TheVariants as stop
use Rattle.lr_words.specs.declared.taboo.TabooItems.{TabooItems}
use Rattle.lr_match.specs.declared.taboo.Taboo.{Taboo}
use Rattle.lr_conf.specs.Scripts.{script_fault}
use Rattle.lr_conf.specs.Meaning.{ConfLine, Read, Spoiled, End, Cut, OutsideLine, stands, spoiled, file_ends, breaks_off, opened_at, opens_definition, outside_line, ends, asks, asked, bans, after_bans, banned, outsiders}
use Rattle.lr_conf.specs.Setting.{default_fields}
use Rattle.lr_conf.specs.Internal.Draft.{State, spoken, turned, outside, scripted, with_said, good, dropped, left, step, is_inside, asks_at, bans_at, state_of, asking_from, banning_from, Stepped, Unchanged, Steps, AsksIn, BansIn}

-- ---- where the next line stands

abbrev inside_next : Place → ConfLine → Bool
inside_next Outside e = opens_definition (outside_line e)
inside_next p e = not (ends e)

turned_inside : (o : Option ℕ) (s : State) → is_inside (turned true o s).place ≡ true
turned_inside None s = refl
turned_inside (Some n) s = refl

spoken_place : (s : State) (at : ℕ) (v : LineSaid) → (spoken s at v).place ≡ s.place
spoken_place s at (says.Sets v) = refl
spoken_place s at says.Quiet = refl
spoken_place s at (says.OwnerPassed v) = refl
spoken_place s at (says.Script phase text stray) = refl
spoken_place s at (says.Include path) = refl
spoken_place s at (says.Taboo patterns items) = refl
spoken_place s at (says.Passed word) = refl
spoken_place s at (says.Names ws) = refl
spoken_place s at says.Open = refl
spoken_place s at says.Close = refl
spoken_place s at says.Unknown = refl
spoken_place s at (says.Bad k) = refl
spoken_place s at (says.BadNames k) = refl

outside_place : (s : State) (p : OutsideLine) → s.place ≡ Outside → is_inside (outside s p).place ≡ opens_definition p
outside_place s (stands at false v) is = ap is_inside (spoken_place s at v ∙ is)
outside_place s (stands at true v) is = turned_inside (opened_at s.first (stands at true v)) (spoken s at v)
outside_place s (spoiled f) is = ap is_inside is
outside_place s file_ends is = ap is_inside is
outside_place s breaks_off is = ap is_inside is

said_place : (s : State) (v : LineSaid) → s.place ≡ Good → is_inside (with_said s v).place ≡ true
said_place s (says.Sets v) is = ap is_inside is
said_place s says.Quiet is = ap is_inside is
said_place s (says.OwnerPassed v) is = ap is_inside is
said_place s (says.Script p text stray) is = by (script_fault s.scripts p stray)
  where
    by : (o : Option ConfKind) → is_inside (scripted s p text o).place ≡ true
    by None = ap is_inside is
    by (Some k) = refl
said_place s (says.Include path) is = ap is_inside is
said_place s (says.Taboo patterns items) is = ap is_inside is
said_place s (says.Passed word) is = ap is_inside is
said_place s (says.Names ws) is = ap is_inside is
said_place s says.Open is = ap is_inside is
said_place s says.Close is = ap is_inside is
said_place s says.Unknown is = ap is_inside is
said_place s (says.Bad k) is = refl
said_place s (says.BadNames k) is = ap is_inside is

good_place : (s : State) (e : ConfLine) → s.place ≡ Good → is_inside (good s e).place ≡ not (ends e)
good_place s (Read file i) is = by (closes_definition i)
  where
    by : (c : Bool) → is_inside (cond c (record s { place = Outside; words = []; first = None; fields = default_fields }) (with_said s (item_says true i))).place ≡ not c
    by true = refl
    by false = said_place s (item_says true i) is
good_place s (Spoiled f) is = refl
good_place s (End file) is = refl
good_place s Cut is = refl

dropped_place : (s : State) (e : ConfLine) → s.place ≡ Dropped → is_inside (dropped s e).place ≡ not (ends e)
dropped_place s e is = by (ends e)
  where
    by : (c : Bool) → is_inside (cond c (left s) s).place ≡ not c
    by true = refl
    by false = ap is_inside is

next_place : (p : Place) (s : State) (e : ConfLine) → s.place ≡ p → is_inside (step p s e).place ≡ inside_next p e
next_place Outside s e is = outside_place s (outside_line e) is
next_place Good s e is = good_place s e is
next_place Dropped s e is = dropped_place s e is

-- ---- one line

cons_is : {A : Type 0} (o : Option A) (xs : List A) → cons_option o xs ≡ option_to_list o ++ xs
cons_is None xs = refl
cons_is (Some x) xs = refl

asked_one : (p : Place) (e : ConfLine) (es : List ConfLine) → asked (is_inside p) (e ∷ es) ≡ option_to_list (asks_at p e) ++ asked (inside_next p e) es
asked_one Outside e es = cons_is (asks (outside_line e)) (asked (opens_definition (outside_line e)) es)
asked_one Good e es = refl
asked_one Dropped e es = refl

after_cons : (t : Taboo) (o : Option (Bool × TabooItems)) (cs : List (Bool × TabooItems)) → after_bans t (cons_option o cs) ≡ after_bans (after_bans t (option_to_list o)) cs
after_cons t None cs = refl
after_cons t (Some c) cs = refl

banned_one : (p : Place) (t : Taboo) (e : ConfLine) (es : List ConfLine) → banned (is_inside p) t (e ∷ es) ≡ banned (inside_next p e) (after_bans t (option_to_list (bans_at p e))) es
banned_one Outside t e es = after_cons t (bans (outside_line e)) (filter_map bans (outsiders (opens_definition (outside_line e)) es))
banned_one Good t e es = refl
banned_one Dropped t e es = refl

-- where it stands, as the draft has it
behind : (old new : Draft) (e : ConfLine) (faults : List Fault) (includes : List Include) → Stepped old new e faults includes → inside_next old.place e ≡ is_inside new.place
behind old new e faults includes s = sym (ap (λ t. is_inside t.place) s.state ∙ next_place old.place (state_of old) e refl)

asks_step : (old new : Draft) (e : ConfLine) (faults : List Fault) (includes : List Include) → Stepped old new e faults includes → (lines : List ConfLine) → asking_from old (e ∷ lines) ≡ includes ++ asking_from new lines
asks_step old new e faults includes s lines =
    asked_one old.place e lines
    ∙ ap (λ is. is ++ asked (inside_next old.place e) lines) s.includes_are
    ∙ ap (λ c. includes ++ asked c lines) (behind old new e faults includes s)

bans_step : (old new : Draft) (e : ConfLine) (faults : List Fault) (includes : List Include) → Stepped old new e faults includes → (lines : List ConfLine) → banning_from old (e ∷ lines) ≡ banning_from new lines
bans_step old new e faults includes s lines =
    banned_one old.place old.taboo e lines
    ∙ ap (λ t. banned (inside_next old.place e) t lines) (sym s.taboo)
    ∙ ap (λ c. banned c new.taboo lines) (behind old new e faults includes s)

asks_same : (old new : Draft) → Unchanged old new → (lines : List ConfLine) → asking_from new lines ≡ asking_from old lines
asks_same old new u lines = ap (λ t. asked (is_inside t.place) lines) u.state

bans_same : (old new : Draft) → Unchanged old new → (lines : List ConfLine) → banning_from new lines ≡ banning_from old lines
bans_same old new u lines =
    ap (λ t. banned (is_inside t.place) new.taboo lines) u.state
    ∙ ap (λ t. banned (is_inside old.place) t lines) u.table.taboo

-- ---- answers

pub asks_in : (old new : Draft) (file : Path) (e : ConfLine) (r : Result (Option Include) LayerStop) → Steps old new file e r → AsksIn old new e r
asks_in old new file e (Ok i) s = asks_step old new e _ _ s
asks_in old new file e (Err stop.Memory) s = asks_same old new s
asks_in old new file e (Err (stop.Conf at k)) s = asks_step old new e _ _ s
asks_in old new file e (Err (stop.NoBraceAnd first at k)) s = asks_step old new e _ _ s
asks_in old new file e (Err (stop.NoBraceThen first i)) s = asks_step old new e _ _ s

pub bans_in : (old new : Draft) (file : Path) (e : ConfLine) (r : Result (Option Include) LayerStop) → Steps old new file e r → BansIn old new e r
bans_in old new file e (Ok i) s = bans_step old new e _ _ s
bans_in old new file e (Err stop.Memory) s = bans_same old new s
bans_in old new file e (Err (stop.Conf at k)) s = bans_step old new e _ _ s
bans_in old new file e (Err (stop.NoBraceAnd first at k)) s = bans_step old new e _ _ s
bans_in old new file e (Err (stop.NoBraceThen first i)) s = bans_step old new e _ _ s
