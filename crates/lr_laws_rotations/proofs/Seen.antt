-- What the looks show of both logs.
use Rattle.std.proofs.Common.{◌≡◌, ◌≢◌, inl, inr, ℕ, zero, suc, ◌+◌, refl, sym, ap, subst, arith, true, Option, Some, List, [], ◌∷◌, get_or, Contains, codes}
use Rattle.std.specs.Prelude.{decimal}
use Rattle.std.specs.List.Sorted.{IsStrictlySortedBy, IsStrictlyIncreasing}
use Rattle.lr_rules.specs.declared.clock.Clock.{Clock}
use Rattle.lr_rules.specs.declared.path.Path.{Path}
use Rattle.lr_host.specs.declared.thing.Kind.TheVariants as kind
use Rattle.lr_host.specs.declared.thing.Seen.{Seen}
use Rattle.lr_host.specs.declared.entry.Entry.TheVariants as entry
use Rattle.lr_host.specs.Lists.{IsIn}
use Rattle.lr_host.proofs.Lists.{in_from, in_to}
use Rattle.lr_host.specs.Looks.{Sees, IsFile}
use Rattle.lr_host.specs.Quiet.{AreQuiet}
use Rattle.lr_family.specs.Named.{member_name}
use Rattle.lr_family.specs.declared.place.Place.TheVariants as at
use Rattle.lr_family.specs.declared.stand.Member.{Member}
use Rattle.lr_family.specs.Spots.{path_at}
use Rattle.lr_family.specs.Stands.{AreNewestFirst}
use Rattle.lr_family.specs.Places.{IsPlaceOf, AreNamed}
use Rattle.lr_family.proofs.Unique.{named_same}
use Rattle.lr_chain.specs.Rotation.{places_of}
use Rattle.lr_laws_family.specs.Numbered.{HasName}
use Rattle.std.proofs.lemmas.List.Elements.{All-cons, All-nil}
use Rattle.lr_rules.specs.declared.rule.Format.{Format}
use Rattle.lr_rules.specs.declared.rule.Naming.{Naming}
use Rattle.lr_rules.specs.Limits.{is_format, or_none}
use Rattle.lr_rules.proofs.Options.{none_some}
use Rattle.lr_family.specs.Looks.{WasSeen}
use Rattle.lr_laws_family.specs.Members.{IsNoMember, IsFamily}
use Rattle.lr_laws_family.specs.Shown as family
use Rattle.lr_laws_family.specs.Shown.{SawDir}
use Rattle.lr_laws_rotations.proofs.Places as places
use Rattle.lr_laws_rotations.proofs.Places.{unlisted, Shown}
use Rattle.lr_laws_rotations.proofs.Sights.{shown_so}
use Rattle.lr_laws_rotations.specs.Target.{IsGiven}
use Rattle.lr_laws_family.specs.Weave.{Among}
use Rattle.lr_laws_rotations.proofs.Given.{literal_gives}
use Rattle.lr_laws_rotations.specs.Seen.{AreLogsSeen}
use Rattle.lr_laws_rotations.specs.Logs.{rule_of, rules, a_log, a_first, a_second, a_count, a_naming, a_stand, a_listed, a_target, b_log, b_count, b_naming, b_stand, b_listed, b_target, file, directory, looks}
use Rattle.lr_laws_rotations.proofs.Naming.{path_a, path_b, first_name, second_name, first_path, second_path, a_unnumbered, b_unnumbered, a_family, b_family, a_is_ready, b_is_ready}

-- ---- the first log

abbrev a_places : List ℕ
a_places = 1 ∷ 0 ∷ []

pub a_seen : Among (Sees a_log IsFile) looks
a_seen = record {
  before = [];
  part = entry.Look a_log (Some file) ∷ [];
  after = entry.Look b_log (Some file) ∷ entry.Look (codes "/v") (Some directory) ∷ entry.List (codes "/v") a_listed ∷ entry.Look a_first (Some file) ∷ entry.Look a_second (Some file) ∷ entry.Look (codes "/w") (Some directory) ∷ entry.List (codes "/w") b_listed ∷ [];
  joined = refl;
  is = record { seen = Some file; is = refl; look = refl };
}

pub a_falling : IsStrictlyIncreasing (0 ∷ 1 ∷ [])
a_falling zero lt = omega arith
a_falling (suc k) lt = absurd (omega arith)

a_named : (place : ℕ) → IsIn place a_places → HasName a_naming place
a_named place (inl e) = subst (HasName a_naming) e (omega arith)
a_named place (inr (inl e)) = subst (HasName a_naming) e (omega arith)
a_named place (inr (inr none)) = absurd none

-- both members were looked at
first_look : IsIn (entry.Look (path_at a_naming 0) (Some file)) looks
first_look = inr (inr (inr (inr (inl (ap (λ (x : Path). entry.Look x (Some file)) (sym first_path))))))

second_look : IsIn (entry.Look (path_at a_naming 1) (Some file)) looks
second_look = inr (inr (inr (inr (inr (inl (ap (λ (x : Path). entry.Look x (Some file)) (sym second_path)))))))

abbrev IsSeenAt : ℕ → Type 0
IsSeenAt place = (seen : Seen) × (seen.kind ≡ kind.File) × IsIn (entry.Look (path_at a_naming place) (Some seen)) looks

a_file : (place : ℕ) → IsIn place a_places → IsSeenAt place
a_file place (inl e) = subst IsSeenAt e (file, refl, second_look)
a_file place (inr (inl e)) = subst IsSeenAt e (file, refl, first_look)
a_file place (inr (inr none)) = absurd none

-- a member that is listed has one of the two places
a_listed_at : (place : ℕ) → HasName a_naming place → IsIn (member_name a_naming (1 + place)) a_listed → IsIn place a_places
a_listed_at place has (inl e) = inl (named_same a_naming 1 place (codes "a.log.2") (record { bound = omega arith; named = sym second_name }) (record { bound = has; named = e }))
a_listed_at place has (inr (inl e)) = absurd (a_unnumbered (decimal (1 + place)) e)
a_listed_at place has (inr (inr (inl e))) = inr (inl (named_same a_naming 0 place (codes "a.log.1") (record { bound = omega arith; named = sym first_name }) (record { bound = has; named = e })))
a_listed_at place has (inr (inr (inr none))) = absurd none

pub a_shown : Shown a_naming (places_of a_stand.members) looks
a_shown = record {
  falling = a_falling;
  named = λ place c. a_named place (in_from place a_places c);
  files = λ place c. a_file place (in_from place a_places c);
  others = λ place has out. unlisted a_listed (inr (inr (inr (inl refl)))) (λ c. out (in_to place a_places (a_listed_at place has (in_from (member_name a_naming (1 + place)) a_listed c))));
}

-- the directory was seen
a_dir : SawDir (codes "/v") looks
a_dir = (directory, refl, inr (inr (inl refl)))

-- each member has the path of its place, and was seen
abbrev one_at : Path → ℕ → Member
one_at path place = record { path = path; place = at.Number place; seen = file }

abbrev IsNamed : Member → Type 0
IsNamed m = IsPlaceOf a_naming m.place m.path

a_named_all : AreNamed a_naming a_stand.members
a_named_all = All-cons IsNamed (one_at a_first 0) (one_at a_second 1 ∷ []) (refl, record { bound = omega arith; named = sym first_path })
    (All-cons IsNamed (one_at a_second 1) [] (refl, record { bound = omega arith; named = sym second_path }) (All-nil IsNamed))

a_newest_first : AreNewestFirst a_stand.members
unfolding IsStrictlySortedBy
a_newest_first = ((refl, tt), (tt, tt))

pub a_members : family.Shown a_naming a_stand.members looks
a_members = shown_so a_naming refl a_stand.members looks a_named_all a_shown a_newest_first
    (All-cons (WasSeen looks) (one_at a_first 0) (one_at a_second 1 ∷ []) (refl, inr (inr (inr (inr (inl refl)))))
    (All-cons (WasSeen looks) (one_at a_second 1) [] (refl, inr (inr (inr (inr (inr (inl refl)))))) (All-nil (WasSeen looks))))

a_given : IsGiven rules.sets looks a_target
a_given = record { rule = rule_of 1 a_log a_count; word = a_log; among = (0, omega arith, refl); has = (0, omega arith, refl); given = record { before = []; part = []; after = looks; joined = refl; is = literal_gives rules.sets (rule_of 1 a_log a_count) a_log a_log [] refl refl }; naming_is = refl; count_is = refl; maxage_is = refl; way_is = (record { aside_is = refl; first_is = refl }, refl) }

-- ---- the second log

b_seen : Among (Sees b_log IsFile) looks
b_seen = record {
  before = entry.Look a_log (Some file) ∷ [];
  part = entry.Look b_log (Some file) ∷ [];
  after = entry.Look (codes "/v") (Some directory) ∷ entry.List (codes "/v") a_listed ∷ entry.Look a_first (Some file) ∷ entry.Look a_second (Some file) ∷ entry.Look (codes "/w") (Some directory) ∷ entry.List (codes "/w") b_listed ∷ [];
  joined = refl;
  is = record { seen = Some file; is = refl; look = refl };
}

none_rises : IsStrictlyIncreasing []
none_rises k lt = absurd (omega arith)

no_place : (place : ℕ) → Contains [] place → ⊥
no_place place c = in_from place [] c

b_unlisted : (place : ℕ) → IsIn (member_name b_naming (1 + place)) b_listed → ⊥
b_unlisted place (inl e) = b_unnumbered (decimal (1 + place)) e
b_unlisted place (inr none) = none

b_shown : Shown b_naming (places_of b_stand.members) looks
b_shown = record {
  falling = none_rises;
  named = λ place c. absurd (no_place place c);
  files = λ place c. absurd (no_place place c);
  others = λ place has out. unlisted b_listed (inr (inr (inr (inr (inr (inr (inr (inl refl)))))))) (λ c. b_unlisted place (in_from (member_name b_naming (1 + place)) b_listed c));
}

none_newest_first : AreNewestFirst b_stand.members
unfolding IsStrictlySortedBy
none_newest_first = tt

b_members : family.Shown b_naming b_stand.members looks
b_members = shown_so b_naming refl b_stand.members looks (All-nil (λ (m : Member). IsPlaceOf b_naming m.place m.path)) b_shown none_newest_first (All-nil (WasSeen looks))

b_dir : SawDir (codes "/w") looks
b_dir = (directory, refl, inr (inr (inr (inr (inr (inr (inl refl)))))))

b_given : IsGiven rules.sets looks b_target
b_given = record { rule = rule_of 2 b_log b_count; word = b_log; among = (1, omega arith, refl); has = (0, omega arith, refl); given = record { before = []; part = []; after = looks; joined = refl; is = literal_gives rules.sets (rule_of 2 b_log b_count) b_log b_log [] refl refl }; naming_is = refl; count_is = refl; maxage_is = refl; way_is = (record { aside_is = refl; first_is = refl }, refl) }

-- ---- both

-- a numbered family is one
pub family_of : (log : Path) (n : Naming) → places.IsFamily log n → IsFamily log n
family_of log n h = record { kin = h.kin; format = subst (λ (d : Option Format). or_none is_format d ≡ true) (sym h.numbered) refl; dir = h.dir; apart = no_member }
  where
    no_member : IsNoMember n log
    no_member (inl m) = h.kin.apart m.0 m.1.0 m.1.1
    no_member (inr d) = absurd (none_some n.dated d.2.format h.numbered d.2.dated)

pub both_seen : (clock : Clock) → AreLogsSeen rules clock looks (a_target ∷ b_target ∷ [])
unfolding a_given b_given
both_seen clock = (
  record { path = path_a; given = a_given; log_seen = a_seen; way_seen = record { first = a_seen; free = λ path is. absurd (cc) }; family = family_of a_log a_naming a_family; seen = a_members; free = refl; ready = a_is_ready clock; dir = a_dir; job = λ job is. absurd (cc) },
  (record { path = path_b; given = b_given; log_seen = b_seen; way_seen = record { first = b_seen; free = λ path is. absurd (cc) }; family = family_of b_log b_naming b_family; seen = b_members; free = refl; ready = b_is_ready clock; dir = b_dir; job = λ job is. absurd (cc) }, tt),
)

pub looks_quiet : AreQuiet looks
looks_quiet = ((tt, refl), ((tt, refl), ((tt, refl), ((tt, refl), ((tt, refl), ((tt, refl), ((tt, refl), ((tt, refl), tt))))))))

pub logs_differ : a_log ≢ b_log
logs_differ e = let h : get_or a_log 1 0 ≡ get_or b_log 1 0 = ap (λ (x : Path). get_or x 1 0) e in omega (arith, h)
