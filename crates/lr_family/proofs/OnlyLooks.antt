-- What is left of a family that was looked at: looks and listings alone.
use Rattle.std.proofs.Common.{inl, inr, ℕ, Bool, true, false, List, [], ◌∷◌, map, sym, subst}
use Rattle.lr_rules.specs.declared.path.Path.{Path}
use Rattle.lr_rules.specs.declared.rule.Naming.{Naming}
use Rattle.lr_host.specs.declared.entry.Entry.{Entry}
use Rattle.lr_host.specs.Looks.{PathSight, look_of}
use Rattle.lr_host.specs.Looking.{AreLooking}
use Rattle.lr_host.proofs.Looking.{looking_none}
use Rattle.lr_family.specs.declared.stand.StandStop.{StandStop}
use Rattle.lr_family.specs.Looks.{MemberSight, spot_look}
use Rattle.lr_family.specs.Parts.{ShowsParts, ShowsNoParts}

pub looking_sights : (gs : List MemberSight) → AreLooking (map spot_look gs)
looking_sights [] = tt
looking_sights (g ∷ gs) = (tt, looking_sights gs)

pub looking_parts : (gs : List PathSight) → AreLooking (map look_of gs)
looking_parts [] = tt
looking_parts (g ∷ gs) = (tt, looking_parts gs)

-- the looks at part files, whether they were stopped or not
pub looking_shown_parts : (n : Naming) (there : Bool) (names : List (List ℕ)) (parts : List Path) (ts : List Entry) → ShowsParts n there names parts ts → AreLooking ts
looking_shown_parts n true names parts ts h = subst AreLooking (sym h.looks) (looking_parts h.sights)
looking_shown_parts n false names parts ts h = looking_none ts h.1

pub looking_no_parts : (n : Naming) (names : List (List ℕ)) (why : StandStop) (ts : List Entry) → ShowsNoParts n names why ts → AreLooking ts
looking_no_parts n names why ts (inl e) = looking_none ts e.1
looking_no_parts n names why ts (inr s) = subst AreLooking (sym s.looks) (looking_parts s.sights)
