-- Where the log and the members stand so, the steps of what is made ready fit one after another, and turn the family.
use Rattle.std.proofs.Common.{◌≡◌, ℕ, true, false, ◌+◌, ◌≤◌, List, Option, Some, None, reverse, refl, sym, ap, ◌∙◌, subst, arith}
use Rattle.std.specs.Prelude.{IsSome}
use Rattle.lr_rules.specs.declared.clock.Clock.{Clock}
use Rattle.lr_rules.specs.declared.path.Path.{Path}
use Rattle.lr_rules.specs.declared.rule.Count.{Count}
use Rattle.lr_rules.specs.declared.rule.Format.{Format}
use Rattle.lr_rules.specs.declared.rule.Make.{Make}
use Rattle.lr_rules.specs.declared.rule.Naming.{Naming}
use Rattle.lr_rules.specs.Limits.{is_format, or_none, IsCount}
use Rattle.lr_rules.specs.Path.{path_fault, parent_of}
use Rattle.lr_host.specs.declared.entry.Entry.{Entry}
use Rattle.lr_host.specs.Fits.{IsDirectoryAt}
use Rattle.lr_host.specs.Steps.{changes_of, FitAll}
use Rattle.lr_host.specs.World.{Names, names_after}
use Rattle.lr_family.specs.declared.stand.Member.{Member}
use Rattle.lr_family.specs.Kin.{IsKin}
use Rattle.lr_family.specs.Places.{AreNamed}
use Rattle.lr_family.proofs.Numbers.{Every, every_all}
use Rattle.lr_family.proofs.Paths.{stands_in}
use Rattle.lr_chain.specs.declared.ready.Ready.{Ready}
use Rattle.lr_chain.specs.DatedReady.{dated_target, all_by}
use Rattle.lr_chain.specs.DatedRotation.{dated_rotation}
use Rattle.lr_chain.specs.DatedTurning.{StandSo as StandDated, IsDatedTurned}
use Rattle.lr_chain.specs.Prepared.{ready_of}
use Rattle.lr_chain.specs.Ready.{NoneTooHigh, ready_steps}
use Rattle.lr_chain.specs.Rotation.{places_of, is_left, going, rotation}
use Rattle.lr_chain.specs.Standing.{StandSo as StandNumbered}
use Rattle.lr_chain.specs.Turning.{IsChainTurned}
use Rattle.lr_chain.specs.WhereTheyStand.{StandBy, AreTurnedBy, FitsWhereTheyStand, ReadyTurnsFamily}
use Rattle.lr_chain.proofs.Bounds.{have_names, have_next, top_number}
use Rattle.lr_chain.proofs.DatedSteps.{steps_are as dated_steps}
use Rattle.lr_chain.proofs.DatedWhole.{fits, turns}
use Rattle.lr_chain.proofs.Either.{ready_numbers, ready_dates}
use Rattle.lr_chain.proofs.Falling.{falls_all}
use Rattle.lr_chain.proofs.Fitting.{rotation_fits}
use Rattle.lr_chain.proofs.Going.{going_are}
use Rattle.lr_chain.proofs.Turned.{family_turned}
use Rattle.lr_chain.proofs.Whole.{steps_are as numbered_steps}

module _ (log : Path) (n : Naming) (c : Count) (maxage : Option ℕ) (clock : Clock) (anew : Make) (members : List Member) where
  abbrev ready : Ready
  ready = ready_of log n c maxage clock anew members

  abbrev from : List ℕ
  from = going c maxage clock.now.seconds members

  abbrev target : Path
  target = dated_target n clock members

  -- ---- its steps

  pub steps_numbers : n.dated ≡ None → ready_steps ready ≡ rotation n c log (places_of members) from
  steps_numbers numbered = ap ready_steps (ready_numbers log n c maxage clock anew members numbered) ∙ numbered_steps log n c maxage clock.now.seconds anew members

  pub steps_by : (f : Format) → n.dated ≡ Some f → ready_steps ready ≡ dated_rotation c log target (all_by n maxage clock members)
  steps_by f dated = ap ready_steps (ready_dates log n c maxage clock anew members f dated) ∙ dated_steps log n c maxage clock anew members

  pub steps_dates : IsSome n.dated → ready_steps ready ≡ dated_rotation c log target (all_by n maxage clock members)
  steps_dates some = go n.dated refl some
    where
      go : (d : Option Format) → n.dated ≡ d → IsSome d → ready_steps ready ≡ dated_rotation c log target (all_by n maxage clock members)
      go None e some = absurd (cc some)
      go (Some f) e some = steps_by f e

  -- ---- they fit, and turn the family

  abbrev Fits : Names → Type 0
  Fits m = FitAll m (reverse (ready_steps ready))

  abbrev Behind : Names → Names
  Behind m = names_after m (changes_of (reverse (ready_steps ready)))

  module _ (kin : IsKin log n) (start : n.start ≤ 999999) (count : IsCount c) (named : AreNamed n members) (low : n.dated ≡ None → NoneTooHigh n c members) where
    within : n.dated ≡ None → Every (λ k. n.start + k ≤ 4294967295) (places_of members)
    within numbered = every_all (λ k. n.start + k ≤ 4294967295) (places_of members) (have_names n members numbered named)

    next : n.dated ≡ None → Every (λ k. is_left c k ≡ false → n.start + (k + 1) ≤ 4294967295) (places_of members)
    next numbered = every_all (λ k. is_left c k ≡ false → n.start + (k + 1) ≤ 4294967295) (places_of members) (have_next n c members numbered start count named (low numbered))

    fits_numbers : path_fault n.dir ≡ None → n.dated ≡ None → (m : Names) → IsDirectoryAt m (parent_of ready.target) → StandNumbered log n (places_of members) m → Fits m
    fits_numbers dir_path numbered m dir s = subst (λ (es : List Entry). FitAll m (reverse es)) (sym (steps_numbers numbered))
        (rotation_fits log n kin numbered dir_path m c (places_of members) from (top_number n c start count) (falls_all (places_of members) s.falling) (within numbered) (next numbered)
        (going_are c maxage clock.now.seconds members s.falling) (subst (IsDirectoryAt m) up dir) s)
      where
        up : parent_of ready.target ≡ n.dir
        up = ap (λ (r : Ready). parent_of r.target) (ready_numbers log n c maxage clock anew members numbered) ∙ stands_in log n 0 kin dir_path (let t = top_number n c start count in omega (arith, t))

    turns_numbers : n.dated ≡ None → (m : Names) → StandNumbered log n (places_of members) m → IsChainTurned log n c from m (Behind m)
    turns_numbers numbered m s = subst (λ (es : List Entry). IsChainTurned log n c from m (names_after m (changes_of (reverse es)))) (sym (steps_numbers numbered))
        (family_turned log n kin numbered m c (places_of members) from (top_number n c start count) (falls_all (places_of members) s.falling) (within numbered) (next numbered)
        (going_are c maxage clock.now.seconds members s.falling) s)

    module _ (good : or_none is_format n.dated ≡ true) where
      fits_dates : (f : Format) → n.dated ≡ Some f → (m : Names) → IsDirectoryAt m (parent_of ready.target) → StandDated n log target (all_by n maxage clock members) m → Fits m
      fits_dates f dated m dir s = subst (λ (es : List Entry). FitAll m (reverse es)) (sym (steps_by f dated))
          (fits n c log target (all_by n maxage clock members) m good (subst (λ (r : Ready). IsDirectoryAt m (parent_of r.target)) (ready_dates log n c maxage clock anew members f dated) dir) s)

      turns_dates : (f : Format) → n.dated ≡ Some f → (m : Names) → StandDated n log target (all_by n maxage clock members) m → IsDatedTurned n log target c (all_by n maxage clock members) m (Behind m)
      turns_dates f dated m s = subst (λ (es : List Entry). IsDatedTurned n log target c (all_by n maxage clock members) m (names_after m (changes_of (reverse es)))) (sym (steps_by f dated))
          (turns n c log target (all_by n maxage clock members) m good s)

      pub ready_fits : path_fault n.dir ≡ None → FitsWhereTheyStand log n c maxage clock anew members
      ready_fits dir_path m dir s = go n.dated refl s
        where
          go : (d : Option Format) → n.dated ≡ d → StandBy d log n maxage clock members m → Fits m
          go None e s = fits_numbers dir_path e m dir s
          go (Some f) e s = fits_dates f e m dir s

      pub ready_turns : ReadyTurnsFamily log n c maxage clock anew members
      ready_turns m s = go n.dated refl s
        where
          go : (d : Option Format) → n.dated ≡ d → StandBy d log n maxage clock members m → AreTurnedBy d log n c maxage clock members m (Behind m)
          go None e s = turns_numbers e m s
          go (Some f) e s = turns_dates f e m s
