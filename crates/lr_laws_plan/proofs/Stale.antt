-- An old part file that stands as the run begins is seen.
use Rattle.std.proofs.Common.{◌≡◌, ◌⊎◌, inl, inr, ⊎_elim, ◌+◌, ℕ, Bool, true, false, not, if◌then◌else◌, bytes_eq, refl, sym, ap, ◌∙◌, subst, List, [], ◌∷◌, Some, None, Result, Ok, Err}
use Rattle.std.specs.Prelude.{◌||◌}
use Rattle.std.specs.List.{list_any}
use Rattle.std.proofs.lemmas.Bool.{and_parts, not-true}
use Rattle.std.proofs.lemmas.Slice.Eq.{bytes_eq-Decides}
use Rattle.lr_rules.specs.declared.clock.Clock.{Clock}
use Rattle.lr_rules.specs.declared.path.Path.{Path}
use Rattle.lr_rules.specs.declared.fault.Fault.{Fault}
use Rattle.lr_rules.specs.declared.rule.Naming.{Naming}
use Rattle.lr_rules.specs.declared.rule.Rule.{Rule}
use Rattle.lr_rules.specs.StatePath.{state_part}
use Rattle.lr_host.specs.declared.entry.Entry.{Entry}
use Rattle.lr_host.specs.declared.entry.Entry.TheVariants as entry
use Rattle.lr_host.specs.declared.thing.Kind.{Kind}
use Rattle.lr_host.specs.declared.thing.Kind.TheVariants as kind
use Rattle.lr_host.specs.Fits.{IsFileAt}
use Rattle.lr_host.specs.Lists.{IsIn}
use Rattle.lr_host.specs.World.{Past, world, names}
use Rattle.lr_host.proofs.Lists.{in_back}
use Rattle.lr_family.specs.Parts.{part_of, IsMembersPart}
use Rattle.lr_copy.specs.declared.job.Job.{Job}
use Rattle.lr_plan.specs.declared.looks.LogLook.{LogLook}
use Rattle.lr_plan.specs.declared.looks.SetLooks.{SetLooks}
use Rattle.lr_plan.specs.Planned.{is_made, makes_dir, empty_stand, stand_for, standing, ready_for}
use Rattle.lr_looks.specs.Sets.{looked_in}
use Rattle.lr_looks.specs.Shown.{ShowsLooks}
use Rattle.lr_looks.specs.Sights.{WordSight}
use Rattle.lr_state.specs.declared.look.LookStop.{LookStop}
use Rattle.lr_state.specs.declared.remembered.Remembered.{Remembered}
use Rattle.lr_state.specs.Known.{IsKnown, IsKnownBy, IsKnownBehind, IsKnownOf, known_of, text_read}
use Rattle.lr_state.specs.ReadPieces.{Reading}
use Rattle.lr_state.specs.Sights.{StateSight, Failed, Nothing, Saw, StateSights, found, found_kind, state_look, behind_state, state_entries}
use Rattle.lr_laws_rotations.specs.Target.{Target}
use Rattle.lr_laws_looks.proofs.Coming.{Comes, was_looked}
use Rattle.lr_laws_looks.proofs.Elements.{in_list}
use Rattle.lr_laws_looks.proofs.SeenListed.{WasShown, all_shown}
use Rattle.lr_laws_looks.proofs.Ready.{IsCopyOf, by_copy}
use Rattle.lr_laws_looks.specs.True.{IsTrueFamily, AreTrue}
use Rattle.lr_run.proofs.Members.{HasMembers, part_is_members}

-- ---- the part file of a copy

in_has : (x : Path) (xs : List Path) → IsIn x xs → list_any (bytes_eq x) xs ≡ true
in_has x [] i = absurd i
in_has x (y ∷ ys) (inl same) = ap (λ (b : Bool). b || list_any (bytes_eq x) ys) ((bytes_eq-Decides x y).1 (sym same))
in_has x (y ∷ ys) (inr i) = go (bytes_eq x y) (in_has x ys i)
  where
    go : (b : Bool) → list_any (bytes_eq x) ys ≡ true → (b || list_any (bytes_eq x) ys) ≡ true
    go true e = refl
    go false e = e

-- a directory that is made was missing
made_gone : (rule : Rule) (look : LogLook) → makes_dir rule look ≡ true → look.stand.there ≡ false
made_gone rule look is = not-true look.stand.there (and_parts (not look.stand.there) _ (and_parts (is_made rule.createolddir) _ is).1).0

module _ {reserved : List Path} {clock : Clock} (rules : List Rule) (sets : List SetLooks) (faults : List Fault) (ts : List Entry) (s : ShowsLooks reserved rules sets faults ts) (t : Target) (c : Comes clock rules sets t) where
  looked : IsIn (looked_in (0 + c.place) c.look) s.looked
  looked = was_looked 0 c.place s.looked sets c.set c.look s.by_sets c.at_set c.among

  -- its copy is the one that the look asks for, by what stands as the rotation begins
  copied : (job : Job) → t.job ≡ Some job → IsCopyOf c.rule.way (standing c.rule c.look) (ready_for clock c.rule c.look).target job
  copied job is = by_copy c.rule.way (standing c.rule c.look) (ready_for clock c.rule c.look).target job (sym (ap (λ (u : Target). u.job) c.is) ∙ is)

  -- each part file that was seen stands then: where the directory was missing none was
  stands_then : (x : Path) → IsIn x c.look.stand.parts → IsIn x (stand_for c.rule c.look).parts
  stands_then x i = go (makes_dir c.rule c.look) refl
    where
      shown : WasShown c.look.family.naming c.look.stand ts
      shown = all_shown ts s.kept s.entries.second.listings s.entries.second.families.sights s.entries.back (λ e j. subst (IsIn e) (sym s.entries.joined) (in_back e s.entries.front s.entries.back j)) s.entries.second.families.shown
          (looked_in (0 + c.place) c.look) (subst (IsIn (looked_in (0 + c.place) c.look)) s.entries.second.families.looked_are looked)

      go : (made : Bool) → makes_dir c.rule c.look ≡ made → IsIn x (if made then empty_stand else c.look.stand).parts
      go false is = i
      go true is = absurd (subst (IsIn x) (shown.2 (made_gone c.rule c.look is)).parts i)

  pub part_seen : (sights : List WordSight) (p q : Past) → AreTrue rules sights sets p q → HasMembers t → (job : Job) → t.job ≡ Some job → IsFileAt (names (world p)) job.part → job.stale ≡ true
  part_seen sights p q a h job is file = subst (λ (k : Job). k.stale ≡ true) by.is (in_has (part_of to) (stand_for c.rule c.look).parts (stands_then (part_of to)
      (f.parts (part_of to)
      (subst (IsMembersPart c.look.family.naming) part (subst (λ (n : Naming). IsMembersPart n job.part) (ap (λ (u : Target). u.naming) c.is) (part_is_members t h job is)))
      (subst (IsFileAt (names (world p))) part file))))
    where
      to : Path
      to = (ready_for clock c.rule c.look).target

      by : IsCopyOf c.rule.way (standing c.rule c.look) to job
      by = copied job is

      f : IsTrueFamily c.look.family.naming c.look.stand p q
      f = a.families c.set c.look (in_list sets c.place c.set c.at_set) c.among

      part : job.part ≡ part_of to
      part = ap (λ (k : Job). k.part) (sym by.is)

-- ---- the part file of the state

-- where its table is known, an old part file was seen, or none
module _ (state : Path) (r : Remembered) where
  by_text : (stale : Bool) (text : Result (List ℕ) Fault) → IsKnownBy stale text (Ok r) → r.stale ≡ stale
  by_text stale (Err why) known = absurd (cc)
  by_text stale (Ok text) known = go known.0 known.2
    where
      go : (said : _) → Ok r ≡ known_of stale said → r.stale ≡ stale
      go (Ok table) e = let same : r ≡ record { table = table; stale = stale } = cc in ap (λ (x : Remembered). x.stale) same
      go (Err bad) e = absurd (cc)

  by_kind : (k : Kind) (there : Bool) (reading : Reading) → IsKnownBehind state there (found_kind k) reading (Ok r) → r.stale ≡ true
  by_kind kind.File there reading known = by_text true (text_read state there reading) known
  by_kind kind.Dir there reading known = absurd (cc)
  by_kind kind.Other there reading known = absurd (cc)

  by_part : (there : Bool) (part : StateSight) (reading : Reading) → IsKnownBehind state there (found part) reading (Ok r) → (r.stale ≡ true) ⊎ IsIn (entry.Look (state_part state) None) (behind_state state (Ok there) part reading)
  by_part there Failed reading known = absurd (cc)
  by_part there Nothing reading known = inr (inl refl)
  by_part there (Saw seen) reading known = inl (by_kind seen.kind there reading known)

  pub part_known : (s : StateSights) → IsKnown state s (Ok r) → (r.stale ≡ true) ⊎ IsIn (entry.Look (state_part state) None) (state_entries state s)
  part_known s known = ⊎_elim (λ seen. inl seen) (λ none. inr (in_back (entry.Look (state_part state) None) (state_look state s.state) _ none)) (by (found s.state) known)
    where
      by : (f : Result Bool LookStop) → IsKnownOf state f (found s.part) s.reading (Ok r) → (r.stale ≡ true) ⊎ IsIn (entry.Look (state_part state) None) (behind_state state f s.part s.reading)
      by (Ok there) k = by_part there s.part s.reading k
      by (Err why) k = absurd (cc)
