-- The renames and unlinks of what is ready are all of its steps, of numbers and of dates.
use Rattle.std.proofs.Common.{◌≡◌, ℕ, refl, sym, ap, ◌∙◌, append_assoc, List, [], ◌∷◌, ◌++◌, map, reverse, Option, Some, None, ℤ}
use Rattle.lr_rules.specs.declared.clock.Clock.{Clock}
use Rattle.lr_rules.specs.declared.path.Path.{Path}
use Rattle.lr_rules.specs.declared.rule.Count.{Count}
use Rattle.lr_rules.specs.declared.rule.Format.{Format}
use Rattle.lr_rules.specs.declared.rule.Make.{Make}
use Rattle.lr_rules.specs.declared.rule.Naming.{Naming}
use Rattle.lr_host.specs.declared.entry.Entry.{Entry}
use Rattle.lr_host.specs.declared.entry.Entry.TheVariants.{Renames}
use Rattle.lr_family.specs.declared.stand.Member.{Member}
use Rattle.lr_family.specs.Spots.{path_at}
use Rattle.lr_chain.specs.DatedReady.{removal_of, dated_target, all_by, dated_ready}
use Rattle.lr_chain.specs.DatedRotation.{Ranked, gone, unlink, dated_rotation}
use Rattle.lr_chain.specs.Prepared.{numbered_ready, ready_of}
use Rattle.lr_chain.specs.Ready.{removal_at}
use Rattle.lr_chain.specs.Rotation.{places_of, going, leftovers, kept, retired, unlink_at, rotation}
use Rattle.lr_chain.proofs.DatedSteps.{map_reverse}
use Rattle.lr_chain.proofs.Either.{ready_numbers, ready_dates}
use Rattle.lr_chain.proofs.Whole.{moves}
use Rattle.lr_laws_rotations.specs.Steps.{unlinks, bare_steps}

pub unlinks_at : (n : Naming) (ks : List ℕ) → unlinks (map (removal_at n) ks) ≡ map (unlink_at n) ks
unlinks_at n [] = refl
unlinks_at n (k ∷ ks) = ap (λ (es : List Entry). unlink_at n k ∷ es) (unlinks_at n ks)

numbered_steps : (log : Path) (n : Naming) (c : Count) (maxage : Option ℕ) (now : ℤ) (anew : Make) (members : List Member)
    → bare_steps (numbered_ready log n c maxage now anew members) ≡ rotation n c log (places_of members) (going c maxage now members)
numbered_steps log n c maxage now anew members = all (unlinks_at n (leftovers c ks)) (moves n (kept c ks)) (unlinks_at n (retired c from))
  where
    ks : List ℕ
    ks = places_of members

    from : List ℕ
    from = going c maxage now members

    all : {ls ls' ss ss' ts ts' : List Entry} → ls ≡ ls' → ss ≡ ss' → ts ≡ ts' → ls ++ (ss ++ Renames log (path_at n 0) ∷ ts) ≡ ls' ++ ((ss' ++ Renames log (path_at n 0) ∷ []) ++ ts')
    all {ls} {ls'} {ss} {ss'} {ts} {ts'} p q r =
        ap (λ (es : List Entry). es ++ (ss ++ Renames log (path_at n 0) ∷ ts)) p
        ∙ (ap (λ (es : List Entry). ls' ++ (es ++ Renames log (path_at n 0) ∷ ts)) q
        ∙ (ap (λ (es : List Entry). ls' ++ (ss' ++ Renames log (path_at n 0) ∷ es)) r
        ∙ ap (λ (es : List Entry). ls' ++ es) (sym (append_assoc ss' (Renames log (path_at n 0) ∷ []) ts'))))

pub unlinks_of : (xs : List Ranked) → unlinks (map removal_of xs) ≡ map unlink xs
unlinks_of [] = refl
unlinks_of (x ∷ xs) = ap (λ (es : List Entry). unlink x ∷ es) (unlinks_of xs)

dated_steps : (log : Path) (n : Naming) (c : Count) (maxage : Option ℕ) (clock : Clock) (anew : Make) (members : List Member)
    → bare_steps (dated_ready log n c maxage clock anew members) ≡ dated_rotation c log (dated_target n clock members) (all_by n maxage clock members)
dated_steps log n c maxage clock anew members = ap (λ (es : List Entry). Renames log (dated_target n clock members) ∷ es) (unlinks_of (reverse g) ∙ map_reverse unlink g)
  where
    g : List Ranked
    g = gone c 0 (all_by n maxage clock members)

module _ (log : Path) (n : Naming) (c : Count) (maxage : Option ℕ) (clock : Clock) (anew : Make) (members : List Member) where
  pub steps_numbers : n.dated ≡ None → bare_steps (ready_of log n c maxage clock anew members) ≡ rotation n c log (places_of members) (going c maxage clock.now.seconds members)
  steps_numbers none = ap bare_steps (ready_numbers log n c maxage clock anew members none) ∙ numbered_steps log n c maxage clock.now.seconds anew members

  pub steps_dates : (f : Format) → n.dated ≡ Some f → bare_steps (ready_of log n c maxage clock anew members) ≡ dated_rotation c log (dated_target n clock members) (all_by n maxage clock members)
  steps_dates f is = ap bare_steps (ready_dates log n c maxage clock anew members f is) ∙ dated_steps log n c maxage clock anew members
