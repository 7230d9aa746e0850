-- No two of the lines that looks give have the same path.
use Rattle.std.proofs.Common.{◌≡◌, ◌≢◌, ◌⊎◌, inl, inr, ⊎_elim, ℕ, suc, ◌+◌, ◌≤◌, Bool, true, false, cond, eqb, eqb-true, List, [], ◌∷◌, ◌++◌, map, Option, Some, None, Less, refl, sym, ap, ◌∙◌, subst, arith}
use Rattle.std.specs.Prelude.{ℤ}
use Rattle.std.specs.List.{flat_map, AllByRecursion}
use Rattle.std.specs.List.Sorted.{IsStrictlySortedBy}
use Rattle.std.proofs.lemmas.Cmp.{nat_list_cmp_total, tied_itself}
use Rattle.std.proofs.lemmas.List.{map-append}
use Rattle.std.proofs.lemmas.List.Elements.{All-head, All-tail}
use Rattle.lr_rules.specs.declared.fault.Fault.{Fault}
use Rattle.lr_rules.specs.declared.path.Path.{Path}
use Rattle.lr_rules.specs.declared.rule.Count.{Count}
use Rattle.lr_rules.specs.declared.rule.Format.{Format}
use Rattle.lr_rules.specs.declared.rule.Naming.{Naming}
use Rattle.lr_rules.specs.declared.rule.Rule.{Rule}
use Rattle.lr_rules.specs.declared.rules.Rules.{Rules}
use Rattle.lr_rules.specs.Limits.{meets_limits, is_format, or_none}
use Rattle.lr_rules.specs.Names.{naming_of, aside_path, IsOwnName, Meet, the_log, IsBesideLog}
use Rattle.lr_rules.specs.Path.{path_fault}
use Rattle.lr_rules.specs.Dated.{stamp_key}
use Rattle.lr_rules.proofs.Beside.{beside_other}
use Rattle.lr_rules.proofs.Options.{none_some}
use Rattle.lr_stamps.proofs.Naming.{one_stamp_at}
use Rattle.lr_host.specs.declared.entry.Entry.{Entry}
use Rattle.lr_host.specs.Lists.{IsIn, IsNotIn, AreDistinct}
use Rattle.lr_host.proofs.Lists.{in_append, in_back, in_map, in_unmap, in_to, of_flat}
use Rattle.lr_family.specs.declared.place.Place.{Place}
use Rattle.lr_family.specs.declared.place.Place.TheVariants as at
use Rattle.lr_family.specs.declared.stand.Member.{Member}
use Rattle.lr_family.specs.declared.stand.Stand.{Stand}
use Rattle.lr_family.specs.Parts.{by_bytes, IsMember, IsMembersPart, part_if_file, part_seen, part_in}
use Rattle.lr_family.specs.Places.{IsPlaceOf, AreNamed}
use Rattle.lr_family.specs.Stands.{key_in, by_newness, AreNewestFirst}
use Rattle.lr_family.proofs.Names.{placed_member}
use Rattle.lr_family.proofs.Newness.{key_below}
use Rattle.lr_family.proofs.Unique.{place_same}
use Rattle.lr_host.specs.declared.thing.Kind.{Kind}
use Rattle.lr_host.specs.declared.thing.Kind.TheVariants as kind
use Rattle.lr_host.specs.declared.thing.Seen.{Seen}
use Rattle.lr_host.specs.Looks.{PathSight}
use Rattle.lr_chain.proofs.DatedFalling.{irrefl}
use Rattle.lr_plan.specs.declared.looks.LogLook.{LogLook}
use Rattle.lr_plan.specs.declared.looks.Looks.{Looks}
use Rattle.lr_plan.specs.declared.looks.SetLooks.{SetLooks}
use Rattle.lr_looks.specs.declared.standing.Standing.{Standing}
use Rattle.lr_looks.specs.Families.{LookedLog, looked_at}
use Rattle.lr_looks.specs.Choices.{kept_of}
use Rattle.lr_looks.specs.Found.{FoundLog, paths_of}
use Rattle.lr_looks.specs.Sets.{where_in, of_set, looked_in, HaveLooksFrom}
use Rattle.lr_looks.specs.Shown.{ShowsLooks}
use Rattle.lr_laws.proofs.AsideName.{no_numbered, no_dated}
use Rattle.lr_laws_family.specs.Members.{IsFamily}
use Rattle.lr_laws_family.specs.Shown.{Shown}
use Rattle.lr_laws_family.proofs.Picking.{named_all}
use Rattle.lr_laws_rotations.proofs.Own.{named_own}
use Rattle.lr_laws_rotations.proofs.PartFile.{part_no_member, part_no_log, part_no_waiting}
use Rattle.lr_plan.specs.Planned.{is_seen_file}
use Rattle.lr_laws_looks.proofs.Apart.{OffFound, OffLooked, kept_off, looked_pairs}
use Rattle.lr_laws_looks.proofs.Aside.{SawAside, all_aside}
use Rattle.lr_laws_looks.proofs.Coming.{IsFrom, came_from, in_kept, in_looked, in_set, in_where}
use Rattle.lr_laws_looks.proofs.Elements.{in_list, in_each, Pairs, pairs_flat, pairs_two}
use Rattle.lr_laws_looks.proofs.SeenListed.{WasShown, WasTold, all_shown, all_told}
use Rattle.lr_laws_looks.proofs.Gives.{all_in}
use Rattle.lr_laws_looks.proofs.Seen.{log_path, looked_family}
use Rattle.lr_audited.specs.declared.line.Line.{Line}
use Rattle.lr_audited.specs.Lines.{log_line, part_line, member_lines, waiting_lines, part_lines, family_lines, rule_lines, sets_lines, known_paths}
use Rattle.lr_audited.proofs.Tracing.{not_in_from, apart_in}

-- ---- lists

distinct_both : (xs ys : List Path) → AreDistinct xs → AreDistinct ys → ((x y : Path) → IsIn x xs → IsIn y ys → x ≢ y) → AreDistinct (xs ++ ys)
distinct_both [] ys a b h = b
distinct_both (x ∷ xs) ys a b h = (not_in_from x (xs ++ ys) (λ y i. ⊎_elim (λ j same. apart_in x y xs a.0 j (sym same)) (λ j. h x y (inl refl) j) (in_append y xs ys i)), distinct_both xs ys a.1 b (λ u v i j. h u v (inr i) j))

none_again : (x : Path) (xs : List Path) → AllByRecursion (λ other. by_bytes x other ≡ Less) xs → IsNotIn x xs
none_again x [] h = tt
none_again x (y ∷ ys) h = ((λ same. absurd (let alike = tied_itself nat_list_cmp_total x in let less = subst (λ (z : Path). by_bytes x z ≡ Less) (sym same) h.0 in cc (alike, less))), none_again x ys h.1)

ordered_once : (xs : List Path) → IsStrictlySortedBy by_bytes xs → AreDistinct xs
unfolding IsStrictlySortedBy
ordered_once [] h = tt
ordered_once (x ∷ xs) h = (none_again x xs h.0, ordered_once xs h.1)

-- ---- members

-- a path has one place at most
one_key : (n : Naming) (p q : Place) (x : Path) → or_none is_format n.dated ≡ true → IsPlaceOf n p x → IsPlaceOf n q x → key_in p ≡ key_in q
one_key n (at.Number k) (at.Number l) x good a b = ap (λ (j : ℕ). key_in (at.Number j)) (place_same n k l x a.1 b.1)
one_key n (at.Number k) (at.Stamp u l) x good a b = absurd (none_some n.dated b.format a.0 b.dated)
one_key n (at.Stamp t k) (at.Number l) x good a b = absurd (none_some n.dated a.format b.0 a.dated)
one_key n (at.Stamp t k) (at.Stamp u l) x good a b = let e = one_stamp_at n t u k l x good a b in ap (λ (s : ℤ). stamp_key s k) e.0 ∙ ap (stamp_key u) e.1

abbrev member_paths : List Member → List Path
member_paths ms = map (λ (m : Member). m.path) ms

newest_apart : (n : Naming) (m : Member) (ms : List Member) → or_none is_format n.dated ≡ true → IsPlaceOf n m.place m.path → AreNamed n ms → AllByRecursion (λ y. by_newness m y ≡ Less) ms → IsNotIn m.path (member_paths ms)
newest_apart n m [] good named all later = tt
newest_apart n m (y ∷ ys) good named all later = (
  (λ same. irrefl (key_in y.place) (key_in m.place) (one_key n y.place m.place m.path good (subst (IsPlaceOf n y.place) (sym same) (All-head (λ (z : Member). IsPlaceOf n z.place z.path) y ys all)) named) (key_below (key_in m.place) (key_in y.place) later.0)),
  newest_apart n m ys good named (All-tail (λ (z : Member). IsPlaceOf n z.place z.path) y ys all) later.1,
)

members_differ : (n : Naming) (ms : List Member) → or_none is_format n.dated ≡ true → AreNamed n ms → AreNewestFirst ms → AreDistinct (member_paths ms)
unfolding IsStrictlySortedBy
members_differ n [] good named newest = tt
members_differ n (m ∷ ms) good named newest = (
  newest_apart n m ms good (All-head (λ (z : Member). IsPlaceOf n z.place z.path) m ms named) (All-tail (λ (z : Member). IsPlaceOf n z.place z.path) m ms named) newest.0,
  members_differ n ms good (All-tail (λ (z : Member). IsPlaceOf n z.place z.path) m ms named) newest.1,
)

-- ---- part files

part_is : (path x : Path) (o : Option Seen) → IsIn x (part_seen path o) → path ≡ x
part_is path x None i = absurd i
part_is path x (Some seen) i = by seen.kind i
  where
    by : (k : Kind) → IsIn x (part_if_file path k) → path ≡ x
    by kind.File (inl e) = e
    by kind.File (inr none) = absurd none
    by kind.Dir none = absurd none
    by kind.Other none = absurd none

abbrev sight_paths : List PathSight → List Path
sight_paths ss = map (λ (s : PathSight). s.path) ss

in_sights : (ss : List PathSight) (x : Path) → IsIn x (flat_map part_in ss) → IsIn x (sight_paths ss)
in_sights ss x i = let s = of_flat part_in ss x i in subst (λ (y : Path). IsIn y (sight_paths ss)) (part_is s.0.path x s.0.seen s.2) (in_map (λ (t : PathSight). t.path) s.0 ss s.1)

seen_once : (path : Path) (o : Option Seen) → AreDistinct (part_seen path o)
seen_once path None = tt
seen_once path (Some seen) = by seen.kind
  where
    by : (k : Kind) → AreDistinct (part_if_file path k)
    by kind.File = (tt, tt)
    by kind.Dir = tt
    by kind.Other = tt

parts_once : (ss : List PathSight) → AreDistinct (sight_paths ss) → AreDistinct (flat_map part_in ss)
parts_once [] d = tt
parts_once (s ∷ ss) d = distinct_both (part_in s) (flat_map part_in ss) (seen_once s.path s.seen) (parts_once ss d.1)
    (λ x y i j same. apart_in s.path y (sight_paths ss) d.0 (in_sights ss y j) (sym same ∙ sym (part_is s.path x s.seen i)))

-- ---- the files of one family

-- the file that waits for its copy
abbrev waiting : Path → Option Seen → List Path
waiting log tmp = cond (is_seen_file tmp) (aside_path log ∷ []) []

-- members, part files and that
abbrev files_of : Path → Stand → Option Seen → List Path
files_of log stand tmp = member_paths stand.members ++ (stand.parts ++ waiting log tmp)

abbrev IsLeft : Path → Naming → Path → Type 0
IsLeft log n x = IsMembersPart n x ⊎ IsBesideLog log n x

abbrev IsItsFile : Path → Naming → Path → Type 0
IsItsFile log n x = IsMember n x ⊎ IsLeft log n x

-- What stands of a family are its members, their part files and the file that waits, each once, and none has the log's path.
record AreFiles (log : Path) (n : Naming) (stand : Stand) (tmp : Option Seen) : Type 0 where
  own : (x : Path) → IsIn x (files_of log stand tmp) → IsItsFile log n x
  once : AreDistinct (files_of log stand tmp)
  no_log : (x : Path) → IsIn x (files_of log stand tmp) → x ≢ log

module _ {reserved : List Path} (rules : Rules) (sets : List SetLooks) (faults : List Fault) (ts : List Entry) (s : ShowsLooks reserved rules.sets sets faults ts) where
  in_all : (e : Entry) → IsIn e s.entries.back → IsIn e ts
  in_all e i = subst (IsIn e) (sym s.entries.joined) (in_back e s.entries.front s.entries.back i)

  module _ (l : LookedLog) (i : IsIn l s.looked) where
    family : IsFamily l.path l.naming
    family = looked_family rules sets faults ts l s i

    told : WasTold l.naming l.stand ts
    told = all_told ts s.kept s.entries.second.listings s.entries.second.families.sights s.entries.back in_all s.entries.second.families.shown l (subst (IsIn l) s.entries.second.families.looked_are i)

    shown : WasShown l.naming l.stand ts
    shown = all_shown ts s.kept s.entries.second.listings s.entries.second.families.sights s.entries.back in_all s.entries.second.families.shown l (subst (IsIn l) s.entries.second.families.looked_are i)

    abbrev comes : (o : IsFrom rules.sets s.entries.front s.found l) × IsIn o.found (kept_of s.found s.keeps.choices)
    comes = came_from rules.sets sets faults ts s l i

    abbrev o : IsFrom rules.sets s.entries.front s.found l
    o = comes.0

    abbrev its_rule : Rule
    its_rule = o.by_word.word.rule

    -- the rule's naming of the log is this
    naming_is : naming_of its_rule l.path ≡ l.naming
    naming_is = ap (naming_of its_rule) (sym o.path_is)
        ∙ (ap (λ (g : FoundLog). naming_of its_rule g.log.path) o.by_word.is ∙ (sym (ap (λ (g : FoundLog). g.log.naming) o.by_word.is) ∙ o.naming_is))

    good : meets_limits its_rule ≡ true
    good = all_in meets_limits rules.sets its_rule rules.limits (in_list rules.sets l.set its_rule o.at)

    short : path_fault l.path ≡ None
    short = subst (λ (p : Path). path_fault p ≡ None) o.path_is (log_path s.found o.found s.paths (in_kept s.found s.keeps.choices o.found comes.1)).path

    aside_seen : SawAside l.naming.aside l.path l.tmp ts
    aside_seen = all_aside ts [] s.kept s.entries.second.listings s.entries.second.families.sights s.entries.back in_all s.entries.second.families.shown l (subst (IsIn l) s.entries.second.families.looked_are i)

    -- a file that waits is of a log that is set aside
    is_asked : is_seen_file l.tmp ≡ true → l.naming.aside ≡ true
    is_asked up = go l.naming.aside aside_seen
      where
        go : (b : Bool) → SawAside b l.path l.tmp ts → b ≡ true
        go true saw = refl
        go false none = absurd (let file : is_seen_file None ≡ true = subst (λ (seen : Option Seen). is_seen_file seen ≡ true) none up in cc)

    of_waiting : (x : Path) → IsIn x (waiting l.path l.tmp) → IsBesideLog l.path l.naming x
    of_waiting x j = go (is_seen_file l.tmp) refl j
      where
        go : (b : Bool) → is_seen_file l.tmp ≡ b → IsIn x (cond b (aside_path l.path ∷ []) []) → IsBesideLog l.path l.naming x
        go true up (inl e) = (is_asked up, sym e)
        go true up (inr none) = absurd none
        go false up none = absurd none

    waits_once : AreDistinct (waiting l.path l.tmp)
    waits_once = go (is_seen_file l.tmp)
      where
        go : (b : Bool) → AreDistinct (cond b (aside_path l.path ∷ []) [])
        go true = (tt, tt)
        go false = tt

    beside_member : (x y : Path) → IsMember l.naming x → IsBesideLog l.path l.naming y → x ≢ y
    beside_member x y m b same = go (subst (λ (n : Naming). IsMember n (aside_path l.path)) (sym naming_is) (subst (IsMember l.naming) (same ∙ b.1) m))
      where
        go : IsMember (naming_of its_rule l.path) (aside_path l.path) → ⊥
        go (inl (none, (place, at))) = no_numbered its_rule l.path place short good at
        go (inr (seconds, serial, at)) = no_dated its_rule l.path seconds serial short good at

    beside_part : (x y : Path) → IsMembersPart l.naming x → IsBesideLog l.path l.naming y → x ≢ y
    beside_part x y p b same = part_no_waiting p.0 l.path (sym p.2 ∙ (same ∙ b.1))

    beside_apart : (x : Path) → IsBesideLog l.path l.naming x → x ≢ l.path
    beside_apart x b same = beside_other l.path (sym same ∙ b.1)

    part_apart : (x : Path) → IsMembersPart l.naming x → x ≢ l.path
    part_apart x p same = part_no_log l.path l.naming family p.0 p.1 its_rule naming_is (sym p.2 ∙ same)

    member_apart : (x : Path) → IsMember l.naming x → x ≢ l.path
    member_apart x m same = family.apart (subst (IsMember l.naming) same m)

    part_member : (x y : Path) → IsMember l.naming x → IsMembersPart l.naming y → x ≢ y
    part_member x y m p same = part_no_member l.path l.naming family p.0 p.1 (subst (IsMember l.naming) (same ∙ p.2) m)

    off_log : (x : Path) → IsItsFile l.path l.naming x → x ≢ l.path
    off_log x (inl m) = member_apart x m
    off_log x (inr (inl p)) = part_apart x p
    off_log x (inr (inr b)) = beside_apart x b

    member_left : (x y : Path) → IsMember l.naming x → IsLeft l.path l.naming y → x ≢ y
    member_left x y m (inl p) = part_member x y m p
    member_left x y m (inr b) = beside_member x y m b

    files_by : (ms : List Member) (parts : List Path) → l.stand.members ≡ ms → l.stand.parts ≡ parts → AreNamed l.naming ms → AreNewestFirst ms → ((x : Path) → IsIn x parts → IsMembersPart l.naming x) → AreDistinct parts → AreFiles l.path l.naming l.stand l.tmp
    files_by ms parts are these named newest of_parts once = record {
      own = λ x j. own x (now x j);
      once = subst (λ (ys : List Path). AreDistinct (member_paths l.stand.members ++ (ys ++ waiting l.path l.tmp))) (sym these) (subst (λ (ys : List Member). AreDistinct (member_paths ys ++ (parts ++ waiting l.path l.tmp))) (sym are)
          (distinct_both (member_paths ms) (parts ++ waiting l.path l.tmp) (members_differ l.naming ms family.format named newest)
          (distinct_both parts (waiting l.path l.tmp) once waits_once (λ x y j k. beside_part x y (of_parts x j) (of_waiting y k))) (λ x y j k. member_left x y (of_members x j) (of_left y k))));
      no_log = λ x j. off_log x (own x (now x j));
    }
      where
        now : (x : Path) → IsIn x (files_of l.path l.stand l.tmp) → IsIn x (member_paths ms ++ (parts ++ waiting l.path l.tmp))
        now x j = subst (λ (ys : List Path). IsIn x (member_paths ms ++ (ys ++ waiting l.path l.tmp))) these (subst (λ (ys : List Member). IsIn x (member_paths ys ++ (l.stand.parts ++ waiting l.path l.tmp))) are j)

        of_members : (x : Path) → IsIn x (member_paths ms) → IsMember l.naming x
        of_members x j = let m = in_unmap (λ (y : Member). y.path) x ms j in subst (IsMember l.naming) m.2 (placed_member l.naming m.0.place m.0.path (named_all l.naming ms m.0 named m.1))

        of_left : (x : Path) → IsIn x (parts ++ waiting l.path l.tmp) → IsLeft l.path l.naming x
        of_left x j = ⊎_elim (λ a. inl (of_parts x a)) (λ b. inr (of_waiting x b)) (in_append x parts (waiting l.path l.tmp) j)

        own : (x : Path) → IsIn x (member_paths ms ++ (parts ++ waiting l.path l.tmp)) → IsItsFile l.path l.naming x
        own x j = ⊎_elim (λ a. inl (of_members x a)) (λ b. inr (of_left x b)) (in_append x (member_paths ms) (parts ++ waiting l.path l.tmp) j)

    none_newest : AreNewestFirst []
    unfolding IsStrictlySortedBy
    none_newest = tt

    files_are : AreFiles l.path l.naming l.stand l.tmp
    files_are = by l.stand.there refl
      where
        by : (b : Bool) → l.stand.there ≡ b → AreFiles l.path l.naming l.stand l.tmp
        by true there =
            let t = (told.0 there).parts in
            let m : Shown l.naming l.stand.members ts = (shown.0 there).1 in
            files_by l.stand.members (flat_map part_in t.sights) refl t.parts_are m.named m.newest_first
            (λ x j. ((t.all.all x).0 (in_to x (sight_paths t.sights) (in_sights t.sights x j))).part)
            (parts_once t.sights (ordered_once (sight_paths t.sights) t.all.rising))
        by false gone = let g = told.1 gone in files_by [] [] g.members g.parts (λ k d lt. absurd (omega (arith, lt))) none_newest (λ x j. absurd j) tt

  -- ---- all families

  abbrev files_in : LookedLog → List Path
  files_in l = files_of l.path l.stand l.tmp

  own_name : (l : LookedLog) (x : Path) → IsIn l s.looked → IsIn x (files_in l) → IsOwnName l.path l.naming x
  own_name l x i j = named_own l.path l.naming x (inr ((files_are l i).own x j))

  -- files of families that are apart differ
  off_files : (l m : LookedLog) (x y : Path) → IsIn l s.looked → IsIn m s.looked → OffLooked l m → IsIn x (files_in l) → IsIn y (files_in m) → x ≢ y
  off_files l m x y i j off a b same = off.1 (x, inl (own_name l x i a, inl (subst (IsOwnName m.path m.naming) (sym same) (own_name m y j b))))

  all_files : (ls : List LookedLog) → Pairs OffLooked ls → ((l : LookedLog) → IsIn l ls → IsIn l s.looked) → AreDistinct (flat_map files_in ls)
  all_files [] p among = tt
  all_files (l ∷ ls) p among = distinct_both (files_in l) (flat_map files_in ls) (files_are l (among l (inl refl))).once (all_files ls p.1 (λ m i. among m (inr i)))
      (λ x y a b. let m = of_flat files_in ls y b in off_files l m.0 x y (among l (inl refl)) (among m.0 (inr m.1)) (in_each (OffLooked l) ls m.0 p.0 m.1) a m.2)

  looks_off : Pairs OffLooked s.looked
  looks_off = subst (Pairs OffLooked) (sym s.entries.second.families.looked_are) (looked_pairs s.kept s.entries.second.families.sights (kept_off rules.sets sets faults ts s))

  -- those of one definition
  set_off : (k : ℕ) → Pairs OffLooked (of_set k s.looked)
  set_off k = pairs_flat OffLooked OffLooked (where_in k) s.looked (λ x. alone x (eqb k x.set))
      (λ x y a b h i j. subst (λ (z : LookedLog). OffLooked z b) (in_where k x a i) (subst (λ (z : LookedLog). OffLooked x z) (in_where k y b j) h)) looks_off
    where
      alone : (x : LookedLog) (b : Bool) → Pairs OffLooked (cond b (x ∷ []) [])
      alone x true = (tt, tt)
      alone x false = tt

  placed : (k : ℕ) (l x : LookedLog) → IsIn x (where_in k l) → x.set ≡ k
  placed k l x i = by (eqb k l.set) refl i
    where
      by : (b : Bool) → eqb k l.set ≡ b → IsIn x (cond b (l ∷ []) []) → x.set ≡ k
      by true e (inl same) = ap (λ (y : LookedLog). y.set) (sym same) ∙ sym (eqb-true k l.set e)
      by true e (inr none) = absurd none
      by false e none = absurd none

  set_is : (k : ℕ) (x : LookedLog) → IsIn x (of_set k s.looked) → x.set ≡ k
  set_is k x i = let l = of_flat (where_in k) s.looked x i in placed k l.0 x l.2

  -- a file of a definition at this place or a later one
  record IsFileFrom (k : ℕ) (x : Path) : Type 0 where
    log : LookedLog
    looked : IsIn log s.looked
    late : k ≤ log.set
    has : IsIn x (files_in log)

  -- ---- their lines

  abbrev paths_in_lines : List Line → List Path
  paths_in_lines lines = map (λ (line : Line). line.path) lines

  members_are : (d : Option Format) (c : Count) (log : Path) (k : ℕ) (ms : List Member) → paths_in_lines (member_lines d c log k ms) ≡ member_paths ms
  members_are d c log k [] = refl
  members_are d c log k (m ∷ ms) = ap (λ (xs : List Path). m.path ∷ xs) (members_are d c log (suc k) ms)

  parts_are : (log : Path) (parts : List Path) → paths_in_lines (map (part_line log) parts) ≡ parts
  parts_are log [] = refl
  parts_are log (x ∷ xs) = ap (λ (ys : List Path). x ∷ ys) (parts_are log xs)

  waiting_are : (log : Path) (tmp : Option Seen) → paths_in_lines (waiting_lines log tmp) ≡ waiting log tmp
  waiting_are log tmp = go (is_seen_file tmp)
    where
      go : (b : Bool) → paths_in_lines (cond b (part_line log (aside_path log) ∷ []) []) ≡ cond b (aside_path log ∷ []) []
      go true = refl
      go false = refl

  left_are : (look : LogLook) → paths_in_lines (part_lines look) ≡ look.stand.parts ++ waiting look.path look.tmp
  left_are look = map-append (λ (line : Line). line.path) (map (part_line look.path) look.stand.parts) (waiting_lines look.path look.tmp)
      ∙ (ap (λ (xs : List Path). xs ++ paths_in_lines (waiting_lines look.path look.tmp)) (parts_are look.path look.stand.parts) ∙ ap (λ (xs : List Path). look.stand.parts ++ xs) (waiting_are look.path look.tmp))

  family_is : (rule : Rule) (look : LogLook) → paths_in_lines (family_lines rule look) ≡ files_of look.path look.stand look.tmp
  family_is rule look = map-append (λ (line : Line). line.path) (member_lines look.family.naming.dated rule.count look.path 0 look.stand.members) (part_lines look)
      ∙ (ap (λ (xs : List Path). xs ++ paths_in_lines (part_lines look)) (members_are look.family.naming.dated rule.count look.path 0 look.stand.members)
      ∙ ap (λ (xs : List Path). member_paths look.stand.members ++ xs) (left_are look))

  set_are : (k : ℕ) (rule : Rule) (looks : List LogLook) → paths_in_lines (rule_lines rule looks) ≡ flat_map files_in (map (looked_in k) looks)
  set_are k rule [] = refl
  set_are k rule (look ∷ looks) = map-append (λ (line : Line). line.path) (family_lines rule look) (rule_lines rule looks)
      ∙ (ap (λ (xs : List Path). xs ++ paths_in_lines (rule_lines rule looks)) (family_is rule look) ∙ ap (λ (xs : List Path). files_of look.path look.stand look.tmp ++ xs) (set_are k rule looks))

  of_sets : (k : ℕ) (rs : List Rule) (ss : List SetLooks) → HaveLooksFrom k s.looked ss → (x : Path) → IsIn x (paths_in_lines (sets_lines rs ss)) → IsFileFrom k x
  of_sets k [] [] h x i = absurd i
  of_sets k [] (set ∷ ss) h x i = absurd i
  of_sets k (r ∷ rs) [] h x i = absurd i
  of_sets k (r ∷ rs) (set ∷ ss) h x i = ⊎_elim here
      (λ j. let f = of_sets (k + 1) rs ss h.1 x j in let le = f.late in record { log = f.log; looked = f.looked; late = omega (arith, le); has = f.has })
      (in_append x (paths_in_lines (rule_lines r set.logs)) (paths_in_lines (sets_lines rs ss)) (subst (IsIn x) (map-append (λ (line : Line). line.path) (rule_lines r set.logs) (sets_lines rs ss)) i))
    where
      here : IsIn x (paths_in_lines (rule_lines r set.logs)) → IsFileFrom k x
      here j =
          let l = of_flat files_in (of_set k s.looked) x (subst (λ (ls : List LookedLog). IsIn x (flat_map files_in ls)) h.0 (subst (IsIn x) (set_are k r set.logs) j)) in
          let e = set_is k l.0 l.1 in
          record { log = l.0; looked = in_set k s.looked l.0 l.1; late = omega (arith, e); has = l.2 }

  sets_differ : (k : ℕ) (rs : List Rule) (ss : List SetLooks) → HaveLooksFrom k s.looked ss → AreDistinct (paths_in_lines (sets_lines rs ss))
  sets_differ k [] [] h = tt
  sets_differ k [] (set ∷ ss) h = tt
  sets_differ k (r ∷ rs) [] h = tt
  sets_differ k (r ∷ rs) (set ∷ ss) h = subst AreDistinct (sym (map-append (λ (line : Line). line.path) (rule_lines r set.logs) (sets_lines rs ss)))
      (distinct_both (paths_in_lines (rule_lines r set.logs)) (paths_in_lines (sets_lines rs ss))
      (subst AreDistinct (sym own_is) (all_files (of_set k s.looked) (set_off k) (λ l i. in_set k s.looked l i))) (sets_differ (k + 1) rs ss h.1) cross)
    where
      own_is : paths_in_lines (rule_lines r set.logs) ≡ flat_map files_in (of_set k s.looked)
      own_is = set_are k r set.logs ∙ ap (flat_map files_in) h.0

      cross : (x y : Path) → IsIn x (paths_in_lines (rule_lines r set.logs)) → IsIn y (paths_in_lines (sets_lines rs ss)) → x ≢ y
      cross x y i j = ⊎_elim
          (λ same. absurd (let e = set_is k l.0 l.1 in let le = f.late in let g = ap (λ (z : LookedLog). z.set) same in omega (arith, e, le, g)))
          (λ off. ⊎_elim (λ (a : OffLooked l.0 f.log). off_files l.0 f.log x y (in_set k s.looked l.0 l.1) f.looked a l.2 f.has)
          (λ (b : OffLooked f.log l.0) same. off_files f.log l.0 y x f.looked (in_set k s.looked l.0 l.1) b f.has l.2 (sym same)) off)
          (pairs_two OffLooked s.looked looks_off l.0 f.log (in_set k s.looked l.0 l.1) f.looked)
        where
          l : (m : LookedLog) × IsIn m (of_set k s.looked) × IsIn x (files_in m)
          l = of_flat files_in (of_set k s.looked) x (subst (IsIn x) own_is i)

          f : IsFileFrom (k + 1) y
          f = of_sets (k + 1) rs ss h.1 y j

  -- ---- the logs themselves

  found_paths : (fs : List FoundLog) → Pairs OffFound fs → AreDistinct (paths_of fs)
  found_paths [] p = tt
  found_paths (f ∷ fs) p = (not_in_from f.log.path (paths_of fs) (λ y i. let g = in_unmap (λ (z : FoundLog). z.log.path) y fs i in λ same. (in_each (OffFound f) fs g.0 p.0 g.1).0 (same ∙ sym g.2)), found_paths fs p.1)

  logs_are : (logs : List Path) → paths_in_lines (map log_line logs) ≡ logs
  logs_are [] = refl
  logs_are (x ∷ xs) = ap (λ (ys : List Path). x ∷ ys) (logs_are xs)

  -- a file of a family is none of the logs
  off_logs : (log x : Path) → IsIn log (paths_of s.kept) → IsFileFrom 0 x → log ≢ x
  off_logs log x i f same = ⊎_elim
      (λ (e : g.0 ≡ k.0). (files_are f.log f.looked).no_log x f.has (sym same ∙ (sym k.2 ∙ (ap (λ (z : FoundLog). z.log.path) (sym e) ∙ sym at_path))))
      (λ off. ⊎_elim (λ (a : OffFound g.0 k.0). a.1 met) (λ (b : OffFound k.0 g.0). b.2 met) off)
      (pairs_two OffFound s.kept (kept_off rules.sets sets faults ts s) g.0 k.0 g.1 k.1)
    where
      k : (z : FoundLog) × IsIn z s.kept × (z.log.path ≡ log)
      k = in_unmap (λ (z : FoundLog). z.log.path) log s.kept i

      g : (z : FoundLog) × IsIn z s.kept × ((w : Standing) × (f.log ≡ looked_at z w.stand w.tmp))
      g = in_looked s.kept s.entries.second.families.sights f.log (subst (IsIn f.log) s.entries.second.families.looked_are f.looked)

      at_path : f.log.path ≡ g.0.log.path
      at_path = ap (λ (z : LookedLog). z.path) g.2.1

      at_naming : f.log.naming ≡ g.0.log.naming
      at_naming = ap (λ (z : LookedLog). z.naming) g.2.1

      own : IsOwnName g.0.log.path g.0.log.naming x
      own = subst (λ (p : Path). IsOwnName p g.0.log.naming x) at_path (subst (λ (m : Naming). IsOwnName f.log.path m x) at_naming (own_name f.log x f.looked f.has))

      met : Meet g.0.log.path g.0.log.naming k.0.log.path k.0.log.naming
      met = (x, inl (own, inl (the_log (sym same ∙ sym k.2))))

pub paths_differ : (reserved : List Path) (rules : Rules) (looks : Looks) (faults : List Fault) (ts : List Entry) → (s : ShowsLooks reserved rules.sets looks.sets faults ts) → looks.kept ≡ paths_of s.kept → AreDistinct (known_paths rules.sets looks)
paths_differ reserved rules looks faults ts s are = subst AreDistinct (sym (map-append (λ (line : Line). line.path) (map log_line looks.kept) (sets_lines rules.sets looks.sets) ∙ ap (λ (xs : List Path). xs ++ map (λ (line : Line). line.path) (sets_lines rules.sets looks.sets)) (logs_are rules looks.sets faults ts s looks.kept ∙ are)))
    (distinct_both (paths_of s.kept) (map (λ (line : Line). line.path) (sets_lines rules.sets looks.sets)) (found_paths rules looks.sets faults ts s s.kept (kept_off rules.sets looks.sets faults ts s)) (sets_differ rules looks.sets faults ts s 0 rules.sets looks.sets s.by_sets)
    (λ x y i j. off_logs rules looks.sets faults ts s x y i (of_sets rules looks.sets faults ts s 0 rules.sets looks.sets s.by_sets y j)))
