-- The steps of a rotation lie aside of each set that the log's doesn't meet.
use Rattle.std.proofs.Common.{◌≡◌, inl, ℕ, ◌+◌, false, not, List, [], ◌∷◌, ◌++◌, map, refl, sym, subst, arith, None}
use Rattle.std.specs.Prelude.{decimal}
use Rattle.lr_rules.specs.declared.path.Path.{Path}
use Rattle.lr_rules.specs.declared.rule.Count.{Count}
use Rattle.lr_rules.specs.declared.rule.Naming.{Naming}
use Rattle.lr_rules.specs.Names.{IsMiddleShape, IsMemberShape, IsOwnName, the_log, a_member, Meet}
use Rattle.lr_rules.proofs.Digits.{decimal_run}
use Rattle.lr_host.specs.declared.entry.Entry.TheVariants as entry
use Rattle.lr_host.specs.Told.{Each}
use Rattle.lr_host.specs.Sets.{LogSet, in_reach}
use Rattle.lr_host.proofs.Each.{each_append}
use Rattle.lr_laws.specs.Rotation.{IsAside}
use Rattle.lr_laws.proofs.Outside.{apart_outside}
use Rattle.lr_family.specs.Named.{member_name}
use Rattle.lr_family.specs.Spots.{path_at}
use Rattle.lr_family.proofs.Numbers.{Every, every_filter}
use Rattle.lr_chain.specs.Rotation.{is_left, leftovers, kept, retired, unlink_at, move_at, leftover_steps, shift_steps, turn_steps, retire_steps, rotation}
use Rattle.lr_laws_family.specs.Numbered.{HasName, HaveNextNames}
use Rattle.lr_laws_family.proofs.Numbers.{kept_next, first_named}

-- the name of a place has a member's shape
pub place_shape : (n : Naming) (place : ℕ) → n.dated ≡ None → HasName n place → IsMemberShape n (member_name n (n.start + place))
place_shape n place numbered i = (46 ∷ decimal (n.start + place), middle, whole)
  where
    middle : IsMiddleShape n.dated (46 ∷ decimal (n.start + place))
    middle = subst (λ d. IsMiddleShape d (46 ∷ decimal (n.start + place))) (sym numbered) (decimal (n.start + place), refl, decimal_run (n.start + place) (omega arith))

    whole : member_name n (n.start + place) ≡ n.base ++ (46 ∷ decimal (n.start + place)) ++ n.ext
    whole = refl

-- the path of a place is a name of the family
pub place_name : (log : Path) (n : Naming) (place : ℕ) → n.dated ≡ None → HasName n place → IsOwnName log n (path_at n place)
place_name log n place numbered i = a_member (member_name n (n.start + place)) (place_shape n place numbered i) refl

module _ (s : LogSet) (log : Path) (n : Naming) (numbered : n.dated ≡ None) (apart : Meet s.log s.naming log n → ⊥) where
  place_out : (place : ℕ) → HasName n place → in_reach s (path_at n place) ≡ false
  place_out place i = apart_outside s log n (path_at n place) apart (inl (place_name log n place numbered i))

  pub log_out : in_reach s log ≡ false
  log_out = apart_outside s log n log apart (inl (the_log refl))

  unlinks_aside : (ls : List ℕ) → Every (HasName n) ls → Each (IsAside s) (map (unlink_at n) ls)
  unlinks_aside [] i = tt
  unlinks_aside (l ∷ ls) i = (place_out l i.0, unlinks_aside ls i.1)

  moves_aside : (ks : List ℕ) → Every (HasName n) ks → Every (λ k. HasName n (k + 1)) ks → Each (IsAside s) (map (move_at n) ks)
  moves_aside [] i next = tt
  moves_aside (k ∷ ks) i next = ((place_out k i.0, place_out (k + 1) next.0), moves_aside ks i.1 next.1)

  pub lies_aside : (c : Count) (places from : List ℕ) → Every (HasName n) places → HaveNextNames n c places → Every (HasName n) (retired c from) → Each (IsAside s) (rotation n c log places from)
  lies_aside c places from named next gone =
      each_append (IsAside s) (leftover_steps n c places) (turn_steps n c log places ++ retire_steps n c from)
      (unlinks_aside (leftovers c places) (every_filter (HasName n) (is_left c) places named))
      (each_append (IsAside s) (turn_steps n c log places) (retire_steps n c from)
      (each_append (IsAside s) (shift_steps n c places) (entry.Renames log (path_at n 0) ∷ [])
      (moves_aside (kept c places) (every_filter (HasName n) (λ k. not (is_left c k)) places named) (kept_next n c places next))
      ((log_out, place_out 0 (first_named n c places next)), tt))
      (unlinks_aside (retired c from) gone))
