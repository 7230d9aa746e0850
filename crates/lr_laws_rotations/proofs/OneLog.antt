-- The run over both logs whose steps stand between one another: it is a journal, and all that is asked of a rotated family is so.
use Rattle.std.proofs.Common.{◌≡◌, ◌≢◌, inl, inr, ℕ, zero, suc, ◌≤◌, ◌<◌, Bool, true, false, bytes_eq, refl, sym, ◌∙◌, ap, subst, arith, Some, None, List, [], ◌∷◌, length, get_or, eqb, eq-eqb, reverse, Contains, codes, pos}
use Rattle.std.specs.Prelude.{slice_index_or, count_by, ◌==◌, filter}
use Rattle.std.proofs.lemmas.Slice.Eq.{bytes_eq-Decides}
use Rattle.lr_rules.specs.declared.path.Path.{Path}
use Rattle.lr_rules.specs.declared.civil.Moment.{Moment}
use Rattle.lr_rules.specs.Path.{parent_of, joined}
use Rattle.lr_stamps.proofs.Members.{joined_same}
use Rattle.lr_host.specs.declared.thing.Thing.TheVariants as thing
use Rattle.lr_host.specs.declared.entry.Entry.{Entry}
use Rattle.lr_host.specs.declared.entry.Entry.TheVariants as entry
use Rattle.lr_host.specs.declared.journal.OpenFile.{OpenFile}
use Rattle.lr_host.specs.Lists.{IsIn}
use Rattle.lr_host.specs.World.{◌▸◌, world, names}
use Rattle.lr_host.specs.Fits.{IsPart, AreNamesIn}
use Rattle.lr_host.specs.Opening.{IsValid, opening_paths}
use Rattle.lr_host.specs.Told.{Made, at_first, by_writer, by_tool}
use Rattle.lr_host.specs.Quiet.{is_disk_change, from_here, further}
use Rattle.lr_host.proofs.Lists.{in_from, in_to}
use Rattle.lr_laws.proofs.Example.{distinct, each}
use Rattle.lr_chain.specs.Rotation.{places_of}
use Rattle.lr_chain.specs.Standing.{AreGoing}
use Rattle.lr_chain.proofs.Going.{going_are}
use Rattle.lr_laws_family.specs.Made.{AttachedFarOnly, AreOutside, RotatesAmong}
use Rattle.lr_laws_family.specs.Members.{IsNoMember, IsFamily, AreThere}
use Rattle.lr_laws_family.specs.Numbered.{HaveNextNames}
use Rattle.lr_laws_family.specs.Rotation.{Rename}
use Rattle.lr_laws_family.specs.Turned.{IsFamilyRotation, IsTurned}
use Rattle.lr_laws_family.proofs.Numbers.{numbered_is_one, steps_are}
use Rattle.lr_laws_family.proofs.Whole.{turned as family_turned}
use Rattle.lr_laws_family.proofs.Woven.{among}
use Rattle.lr_laws_rotations.proofs.Places as places
use Rattle.lr_laws_rotations.proofs.Whole.{shown_more}
use Rattle.lr_laws_family.specs.Beside.{IsBeside}
use Rattle.lr_laws_family.specs.Weave.{Weave, none, own, other}
use Rattle.lr_laws_rotations.specs.Logs.{state, part, rules, a_log, a_first, a_second, a_third, a_count, a_naming, a_stand, a_from, a_listed, b_log, b_first, b_listed, file, directory, looks}
use Rattle.lr_laws_rotations.specs.OneLog.{paths, turn, stood, begun, looked, renamed, over}
use Rattle.lr_laws_rotations.specs.TwoLogs.{a_steps}
use Rattle.lr_laws_rotations.proofs.Naming.{a_family, a_rotation}
use Rattle.lr_laws_rotations.proofs.Seen.{a_falling, a_members, family_of}

differ : (x y : Path) → bytes_eq x y ≡ false → x ≡ y → ⊥
differ x y e same = let t : bytes_eq x y ≡ true = (bytes_eq-Decides x y).1 same in cc

-- ---- what the two directories have

abbrev in_v : List ℕ → Path
in_v name = joined (codes "/v") name

abbrev in_w : List ℕ → Path
in_w name = joined (codes "/w") name

unnamed_in_v : (name : List ℕ) → bytes_eq a_log (in_v name) ≡ false → bytes_eq a_first (in_v name) ≡ false → bytes_eq a_second (in_v name) ≡ false → names (world begun) (in_v name) ≡ thing.Nothing
unnamed_in_v name log first second = rw (log, first, second)

unnamed_in_w : (name : List ℕ) → bytes_eq b_log (in_w name) ≡ false → names (world begun) (in_w name) ≡ thing.Nothing
unnamed_in_w name log = rw log

-- what has a name there is listed
listed_in_v : (name : List ℕ) → names (world begun) (in_v name) ≢ thing.Nothing → IsIn name a_listed
listed_in_v name some = by_log (bytes_eq a_log (in_v name)) refl
  where
    by_second : (b : Bool) → bytes_eq a_second (in_v name) ≡ b → bytes_eq a_log (in_v name) ≡ false → bytes_eq a_first (in_v name) ≡ false → IsIn name a_listed
    by_second true e log first = inl (joined_same (codes "/v") (codes "a.log.2") name ((bytes_eq-Decides a_second (in_v name)).0 e))
    by_second false e log first = absurd (some (unnamed_in_v name log first e))

    by_first : (b : Bool) → bytes_eq a_first (in_v name) ≡ b → bytes_eq a_log (in_v name) ≡ false → IsIn name a_listed
    by_first true e log = inr (inr (inl (joined_same (codes "/v") (codes "a.log.1") name ((bytes_eq-Decides a_first (in_v name)).0 e))))
    by_first false e log = by_second (bytes_eq a_second (in_v name)) refl log e

    by_log : (b : Bool) → bytes_eq a_log (in_v name) ≡ b → IsIn name a_listed
    by_log true e = inr (inl (joined_same (codes "/v") (codes "a.log") name ((bytes_eq-Decides a_log (in_v name)).0 e)))
    by_log false e = by_first (bytes_eq a_first (in_v name)) refl e

listed_in_w : (name : List ℕ) → names (world begun) (in_w name) ≢ thing.Nothing → IsIn name b_listed
listed_in_w name some = by_log (bytes_eq b_log (in_w name)) refl
  where
    by_log : (b : Bool) → bytes_eq b_log (in_w name) ≡ b → IsIn name b_listed
    by_log true e = inl (joined_same (codes "/w") (codes "b.log") name ((bytes_eq-Decides b_log (in_w name)).0 e))
    by_log false e = absurd (some (unnamed_in_w name e))

abbrev IsThereInV : List ℕ → Type 0
IsThereInV name = IsPart name × (names (world begun) (in_v name) ≢ thing.Nothing)

there_in_v : (name : List ℕ) → IsIn name a_listed → IsThereInV name
there_in_v name (inl e) = subst IsThereInV e ((refl, refl), (λ t. cc))
there_in_v name (inr (inl e)) = subst IsThereInV e ((refl, refl), (λ t. cc))
there_in_v name (inr (inr (inl e))) = subst IsThereInV e ((refl, refl), (λ t. cc))
there_in_v name (inr (inr (inr never))) = absurd never

abbrev IsThereInW : List ℕ → Type 0
IsThereInW name = IsPart name × (names (world begun) (in_w name) ≢ thing.Nothing)

there_in_w : (name : List ℕ) → IsIn name b_listed → IsThereInW name
there_in_w name (inl e) = subst IsThereInW e ((refl, refl), (λ t. cc))
there_in_w name (inr never) = absurd never

names_in_v : AreNamesIn (names (world begun)) (codes "/v") a_listed
names_in_v = record {
  all = λ name. ((λ c. there_in_v name (in_from name a_listed c)), (λ h. in_to name a_listed (listed_in_v name h.1)));
  once = ((differ (codes "a.log.2") (codes "a.log") refl, (differ (codes "a.log.2") (codes "a.log.1") refl, tt)), ((differ (codes "a.log") (codes "a.log.1") refl, tt), (tt, tt)));
}

names_in_w : AreNamesIn (names (world begun)) (codes "/w") b_listed
names_in_w = record { all = λ name. ((λ c. there_in_w name (in_from name b_listed c)), (λ h. in_to name b_listed (listed_in_w name h.1))); once = (tt, tt) }

-- ---- the entries of the tool, the newest first

abbrev left_looked : Moment → List Entry
left_looked now =
    entry.List (codes "/w") b_listed ∷ entry.Look (codes "/w") (Some directory) ∷ entry.Look a_second (Some file) ∷ entry.Look a_first (Some file) ∷ entry.List (codes "/v") a_listed ∷ entry.Look (codes "/v") (Some directory)
    ∷ entry.Look b_log (Some file) ∷ entry.Look a_log (Some file) ∷ entry.Starts state now rules ∷ entry.Look (codes "/s") (Some directory) ∷ []

abbrev left_renamed : Moment → List Entry
left_renamed now = entry.Renames a_log a_first ∷ entry.Renames b_log b_first ∷ entry.Renames a_first a_second ∷ entry.Makes part None ∷ entry.Renames a_second a_third ∷ left_looked now

abbrev pub left : Moment → List Entry
left now = entry.Ends ∷ entry.Renames part state ∷ entry.Unlinks a_third ∷ entry.Appends part (codes "new state") ∷ left_renamed now

-- in order, behind the looks
abbrev moves : List Entry
moves =
    entry.Renames a_second a_third ∷ entry.Makes part None ∷ entry.Renames a_first a_second ∷ entry.Renames b_log b_first ∷ entry.Renames a_log a_first ∷ entry.Appends part (codes "new state") ∷ entry.Unlinks a_third ∷ entry.Renames part state ∷ entry.Ends
    ∷ []

made_looked : (now : Moment) → Made begun (left_looked now) (looked now)
made_looked now =
    by_tool (by_tool (by_tool (by_tool (by_tool (by_tool (by_tool (by_tool (by_tool (by_tool at_first tt refl) tt refl) tt (refl, refl, refl, refl)) tt (refl, refl, refl, refl)) tt refl) tt (refl, names_in_v)) tt (refl, refl, refl, refl)) tt (refl, refl, refl, refl)) tt refl)
    tt (refl, names_in_w)

made_renamed : (now : Moment) → Made begun (left_renamed now) (renamed now)
made_renamed now =
    by_tool (by_writer (by_tool (by_tool (by_tool (by_tool (by_writer (made_looked now) tt (0, refl)) tt ((2, refl), (λ e. cc), (λ e. cc), refl, differ a_second a_third refl)) tt (refl, refl)) tt ((1, refl), (λ e. cc), (λ e. cc), refl, differ a_first a_second refl))
    tt ((3, refl), (λ e. cc), (λ e. cc), refl, differ b_log b_first refl)) tt (0, refl)) tt ((0, refl), (λ e. cc), (λ e. cc), refl, differ a_log a_first refl)

pub made : (now : Moment) → Made begun (left now) (over now)
made now =
    by_tool (by_tool (by_writer (by_tool (by_tool (by_writer (by_writer (made_renamed now) tt (inr (refl, refl), refl)) tt (0, refl)) tt (4, refl)) tt (2, refl)) tt (5, refl)) tt ((4, refl), (λ e. cc), (λ e. cc), refl, differ part state refl)) tt refl

-- ---- what is asked of the rotation

pub next : HaveNextNames a_naming a_count (places_of a_stand.members)
next = omega arith

pub family : IsFamily a_log a_naming
family = family_of a_log a_naming a_family

pub unattached : (now : Moment) → AttachedFarOnly a_naming turn begun (over now)
unattached now = further (further (further (further (further (further attached tt) tt) tt) tt) tt) tt
  where
    seen : AttachedFarOnly a_naming turn begun (looked now)
    seen = further (further (further (further (further (further (further (further (further (further from_here tt) tt) tt) tt) tt) tt) tt) tt) tt) tt

    turned : AttachedFarOnly a_naming turn begun (renamed now)
    turned = further (further (further (further (further (further (further seen tt) tt) tt) tt) tt) tt) tt

    attached : AttachedFarOnly a_naming turn begun (renamed now ▸ entry.Attach 8 a_log (pos 3))
    attached = further turned (family.apart, λ never. never)

abbrev IsApart : Path → Type 0
IsApart x = (x ≢ a_log) × places.IsNoMember a_naming x

-- the second byte of the log's path and of each member's is a `v`
elsewhere : (x : Path) → eqb (get_or x 1 0) 118 ≡ false → IsApart x
elsewhere x differs = ((λ e. clash (ap (λ (y : Path). get_or y 1 0) e)), λ place has e. clash (ap (λ (y : Path). get_or y 1 0) e))
  where
    clash : get_or x 1 0 ≡ 118 → ⊥
    clash e = let same : eqb (get_or x 1 0) 118 ≡ true = eq-eqb (get_or x 1 0) 118 e in cc

apart : (x : Path) → IsIn x paths → IsApart x
apart x (inl e) = subst IsApart e (elsewhere state refl)
apart x (inr (inl e)) = subst IsApart e (elsewhere part refl)
apart x (inr (inr (inl e))) = subst IsApart e (elsewhere b_log refl)
apart x (inr (inr (inr (inl e)))) = subst IsApart e (elsewhere b_first refl)
apart x (inr (inr (inr (inr never)))) = absurd never

pub outside : AreOutside paths a_naming turn
outside x i = (on_way, no_member)
  where
    o : IsApart x
    o = apart x i

    on_way : IsIn x (a_log ∷ []) → ⊥
    on_way (inl same) = o.0 (sym same)
    on_way (inr never) = never

    no_member : IsNoMember a_naming x
    no_member (inl m) = o.1 m.1.0 m.1.1.bound m.1.1.named
    no_member (inr d) = let no : None ≡ Some d.2.format = d.2.dated in cc

-- between the log's own steps stand the making of the part file, the other log's rename, the writing of the state and its rename
woven : Weave (IsBeside paths a_log) a_steps (filter is_disk_change moves)
woven = own _ (other _ (inl (inr (inl refl))) (own _ (other _ (inl (inr (inr (inl refl)), inr (inr (inr (inl refl))))) (own _ (other _ (inl (inr (inl refl))) (own _ (other _ (inl (inr (inl refl), inl refl)) none)))))))

-- the second of the members goes: the count leaves no room at its new place
a_going : AreGoing a_count (places_of a_stand.members) a_from
a_going = going_are a_count None (pos 0) a_stand.members a_falling

pub is_one : IsFamilyRotation a_naming turn
is_one = numbered_is_one a_naming a_count a_from a_stand.members a_log a_log Rename family refl family.apart a_members.named next a_going

abbrev front : Moment → List Entry
front now = entry.Look (codes "/s") (Some directory) ∷ entry.Starts state now rules ∷ looks

pub rotates : (now : Moment) → RotatesAmong paths a_naming turn (reverse (left now))
rotates now = among paths a_naming turn (front now) moves refl refl (file, refl, inr (inr (inl refl))) (shown_more a_naming a_stand.members looks (front now) (λ e h. inr (inr h)) a_members)
    (subst (λ steps. Weave (IsBeside paths a_log) steps (filter is_disk_change moves)) (sym (steps_are a_naming a_count a_from a_stand.members a_log a_log Rename family refl family.apart a_members.named next a_going ∙ a_rotation)) woven)

-- ---- the opening

-- it is a disk
pub valid : IsValid stood
valid = record {
  once = distinct (opening_paths stood) refl;
  root = (0, omega arith, refl);
  inside = each InDirs (opening_paths stood) (in_dir_v, (in_dir_v, (in_dir_v, (in_dir_w, (in_root, (in_root, (in_root, (in_root, tt))))))));
  named = one;
  known = each Known stood.names (omega arith, (omega arith, (omega arith, (omega arith, tt))));
  held = each (λ (h : ℕ × ℕ). h.1 < 4) stood.holds (omega arith, tt);
  hold_once = (tt, tt);
  synced = each Synced stood.files (omega arith, (omega arith, (omega arith, (omega arith, tt))));
}
  where
    InDirs : Path → Type 0
    InDirs x = Contains stood.dirs (parent_of x)

    Known : Path × ℕ → Type 0
    Known n = n.1 < length stood.files

    Synced : OpenFile → Type 0
    Synced f = f.synced ≤ length f.bytes

    in_dir_v : (k : ℕ) × (k < length stood.dirs) × (slice_index_or stood.dirs k (codes "/v") ≡ codes "/v")
    in_dir_v = (1, omega arith, refl)

    in_dir_w : (k : ℕ) × (k < length stood.dirs) × (slice_index_or stood.dirs k (codes "/w") ≡ codes "/w")
    in_dir_w = (2, omega arith, refl)

    in_root : (k : ℕ) × (k < length stood.dirs) × (slice_index_or stood.dirs k (codes "/") ≡ codes "/")
    in_root = (0, omega arith, refl)

    one : (g : ℕ) → g < length stood.files → count_by (λ n. n.1 == g) stood.names ≡ 1
    one zero lt = refl
    one (suc zero) lt = refl
    one (suc (suc zero)) lt = refl
    one (suc (suc (suc zero))) lt = refl
    one (suc (suc (suc (suc g)))) lt = absurd (omega arith)

-- so the members that were seen stood, and the family is turned
pub rotated : (now : Moment) → AreThere a_naming (names (world begun)) turn.stood × IsTurned paths a_naming turn begun (over now)
rotated now = family_turned paths a_naming turn begun (over now) (left now) (record {
  made = made now;
  journal = valid;
  family = family;
  no_source = family.apart;
  rotation = is_one;
  job = tt;
  attached = unattached now;
  outside = outside;
  over = rotates now;
})
