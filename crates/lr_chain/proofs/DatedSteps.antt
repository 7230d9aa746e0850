-- The entries of a ready rotation.
use Rattle.std.proofs.Common.{◌≡◌, ℕ, Option, List, [], ◌∷◌, ◌++◌, map, reverse, refl, sym, ap, ◌∙◌}
use Rattle.std.proofs.lemmas.List.{map-append, reverse-append}
use Rattle.lr_rules.specs.declared.clock.Clock.{Clock}
use Rattle.lr_rules.specs.declared.path.Path.{Path}
use Rattle.lr_rules.specs.declared.rule.Count.{Count}
use Rattle.lr_rules.specs.declared.rule.Make.{Make}
use Rattle.lr_rules.specs.declared.rule.Naming.{Naming}
use Rattle.lr_host.specs.declared.entry.Entry.TheVariants.{Renames, Unlinks}
use Rattle.lr_family.specs.declared.stand.Member.{Member}
use Rattle.lr_chain.specs.Ready.{removals_of, ready_steps}
use Rattle.lr_chain.specs.DatedRotation.{Ranked, gone, unlink, dated_rotation}
use Rattle.lr_chain.specs.DatedReady.{removal_of, dated_target, all_by, dated_ready}

pub map_reverse : {A B : Type 0} (f : A → B) (xs : List A) → map f (reverse xs) ≡ reverse (map f xs)
map_reverse f [] = refl
map_reverse f (x ∷ xs) =
    ap (map f) (reverse-append (x ∷ []) xs) ∙ (map-append f (reverse xs) (x ∷ []) ∙ (ap (λ ys. ys ++ f x ∷ []) (map_reverse f xs) ∙ sym (reverse-append (f x ∷ []) (map f xs))))

unlinks : (xs : List Ranked) → removals_of (map removal_of xs) ≡ map unlink xs
unlinks [] = refl
unlinks (x ∷ xs) = ap (λ es. Unlinks x.path ∷ es) (unlinks xs)

-- the steps of a ready one are those of one dated rotation
pub steps_are : (log : Path) (n : Naming) (c : Count) (maxage : Option ℕ) (clock : Clock) (anew : Make) (members : List Member)
    → ready_steps (dated_ready log n c maxage clock anew members) ≡ dated_rotation c log (dated_target n clock members) (all_by n maxage clock members)
steps_are log n c maxage clock anew members =
    ap (λ es. Renames log (dated_target n clock members) ∷ es)
    (unlinks (reverse (gone c 0 (all_by n maxage clock members))) ∙ map_reverse unlink (gone c 0 (all_by n maxage clock members)))
