-- The steps of a ready rotation.
use Rattle.std.proofs.Common.{◌≡◌, ℕ, ℤ, Option, List, [], ◌∷◌, ◌++◌, map, refl, ap, ◌∙◌}
use Rattle.lr_rules.specs.declared.path.Path.{Path}
use Rattle.lr_rules.specs.declared.rule.Count.{Count}
use Rattle.lr_rules.specs.declared.rule.Make.{Make}
use Rattle.lr_rules.specs.declared.rule.Naming.{Naming}
use Rattle.lr_host.specs.declared.entry.Entry.{Entry}
use Rattle.lr_host.specs.declared.entry.Entry.TheVariants.{Renames}
use Rattle.lr_family.specs.declared.stand.Member.{Member}
use Rattle.lr_family.specs.Spots.{path_at}
use Rattle.lr_chain.specs.declared.ready.Ready.{Ready}
use Rattle.lr_chain.specs.Rotation.{places_of, going, leftovers, kept, retired, unlink_at, move_at, leftover_steps, turn_steps, rotation}
use Rattle.lr_chain.specs.Prepared.{numbered_ready}
use Rattle.lr_chain.specs.Ready.{removal_at, move_from, move_step, turn_of, removals_of, ready_steps}

unlinks : (n : Naming) (places : List ℕ) → removals_of (map (removal_at n) places) ≡ map (unlink_at n) places
unlinks n [] = refl
unlinks n (p ∷ places) = ap (λ (es : List Entry). unlink_at n p ∷ es) (unlinks n places)

pub moves : (n : Naming) (places : List ℕ) → map move_step (map (move_from n) places) ≡ map (move_at n) places
moves n [] = refl
moves n (p ∷ places) = ap (λ (es : List Entry). move_at n p ∷ es) (moves n places)

-- the steps of a ready one are those of one rotation
pub steps_are : (log : Path) (n : Naming) (c : Count) (maxage : Option ℕ) (now : ℤ) (anew : Make) (members : List Member)
    → ready_steps (numbered_ready log n c maxage now anew members) ≡ rotation n c log (places_of members) (going c maxage now members)
steps_are log n c maxage now anew members =
    ap (λ (es : List Entry). es ++ (turn_of ready ++ removals_of ready.retire)) (unlinks n (leftovers c (places_of members)))
    ∙ (ap (λ (es : List Entry). leftover_steps n c (places_of members) ++ ((es ++ Renames log (path_at n 0) ∷ []) ++ removals_of ready.retire)) (moves n (kept c (places_of members)))
    ∙ ap (λ (es : List Entry). leftover_steps n c (places_of members) ++ (turn_steps n c log (places_of members) ++ es)) (unlinks n (retired c (going c maxage now members))))
  where
    ready : Ready
    ready = numbered_ready log n c maxage now anew members
