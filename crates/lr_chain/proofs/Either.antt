-- What is made ready and what hinders it, of numbers and of dates.
use Rattle.std.proofs.Common.{◌≡◌, ℕ, Bool, true, false, cond, List, [], ◌∷◌, Option, Some, None, refl, sym, ap, ◌∙◌, subst}
use Rattle.lr_rules.specs.declared.clock.Clock.{Clock}
use Rattle.lr_rules.specs.declared.fault.Fault.{Fault}
use Rattle.lr_rules.specs.declared.fault.Fault.TheVariants as fault
use Rattle.lr_rules.specs.declared.path.Path.{Path}
use Rattle.lr_rules.specs.declared.rule.Count.{Count}
use Rattle.lr_rules.specs.declared.rule.Format.{Format}
use Rattle.lr_rules.specs.declared.rule.Make.{Make}
use Rattle.lr_rules.specs.declared.rule.Naming.{Naming}
use Rattle.lr_rules.specs.Dated.{IsDatedAt}
use Rattle.lr_rules.specs.Limits.{is_format, or_none}
use Rattle.lr_stamps.specs.Dated.{clock_seconds, MayHaveSerial}
use Rattle.lr_family.specs.declared.stand.Member.{Member}
use Rattle.lr_family.specs.declared.stand.Stand.{Stand}
use Rattle.lr_family.specs.Places.{AreNamed}
use Rattle.lr_chain.specs.DatedReady.{dated_target, dated_ready}
use Rattle.lr_chain.specs.Hindrances.{number_hindrances, stamp_hindrances, name_hindrances, what_hinders}
use Rattle.lr_chain.specs.Prepared.{numbered_ready, ready_by, ready_of}
use Rattle.lr_chain.specs.Ready.{NoneTooHigh}
use Rattle.lr_chain.specs.Serials.{next_serial}
use Rattle.lr_chain.proofs.Bounds.{none_too_high}
use Rattle.lr_chain.proofs.Hindering.{next_may}
use Rattle.lr_chain.proofs.Serials.{clock_path}

-- ---- what is made ready

module _ (log : Path) (n : Naming) (c : Count) (maxage : Option ℕ) (clock : Clock) (anew : Make) (members : List Member) where
  pub ready_numbers : n.dated ≡ None → ready_of log n c maxage clock anew members ≡ numbered_ready log n c maxage clock.now.seconds anew members
  ready_numbers numbered = ap (λ (d : Option Format). ready_by d log n c maxage clock anew members) numbered

  pub ready_dates : (f : Format) → n.dated ≡ Some f → ready_of log n c maxage clock anew members ≡ dated_ready log n c maxage clock anew members
  ready_dates f dated = ap (λ (d : Option Format). ready_by d log n c maxage clock anew members) dated

-- ---- what hinders it

module _ (n : Naming) (c : Count) (clock : Clock) (stand : Stand) where
  abbrev by_there : Bool → List Fault
  by_there b = cond b (name_hindrances n.dated n c clock stand.members) (fault.NoDir n.dir ∷ [])

  pub hinders_missing : stand.there ≡ false → what_hinders n c clock stand ≡ fault.NoDir n.dir ∷ []
  hinders_missing there = ap by_there there

  hinders_there : stand.there ≡ true → what_hinders n c clock stand ≡ name_hindrances n.dated n c clock stand.members
  hinders_there there = ap by_there there

  pub hinders_numbers : n.dated ≡ None → stand.there ≡ true → what_hinders n c clock stand ≡ number_hindrances n c stand.members
  hinders_numbers numbered there = hinders_there there ∙ ap (λ (d : Option Format). name_hindrances d n c clock stand.members) numbered

  pub hinders_dates : (f : Format) → n.dated ≡ Some f → stand.there ≡ true → what_hinders n c clock stand ≡ stamp_hindrances f (clock_seconds n.dated clock) stand.members
  hinders_dates f dated there = hinders_there there ∙ ap (λ (d : Option Format). name_hindrances d n c clock stand.members) dated

  -- ---- where nothing hinders

  module _ (free : what_hinders n c clock stand ≡ []) where
    -- the family's directory is there
    pub free_there : stand.there ≡ true
    free_there = go stand.there refl
      where
        go : (b : Bool) → stand.there ≡ b → b ≡ true
        go true e = refl
        go false e = absurd (let one : fault.NoDir n.dir ∷ [] ≡ [] = sym (hinders_missing e) ∙ free in cc)

    -- of numbers, where all members are kept none has the highest that there is
    pub free_numbers : n.dated ≡ None → NoneTooHigh n c stand.members
    free_numbers numbered = none_too_high n c stand.members (sym (hinders_numbers numbered free_there) ∙ free)

    pub free_dates : (f : Format) → n.dated ≡ Some f → stamp_hindrances f (clock_seconds n.dated clock) stand.members ≡ []
    free_dates f dated = sym (hinders_dates f dated free_there) ∙ free

    -- of dates, the log's new name may have the serial number that comes next, and is that of the clock's moment with it
    pub next_may_be : (f : Format) → n.dated ≡ Some f → AreNamed n stand.members → MayHaveSerial n.dated (next_serial stand.members (clock_seconds n.dated clock))
    next_may_be f dated named = subst (λ (d : Option Format). MayHaveSerial d (next_serial stand.members (clock_seconds n.dated clock))) (sym dated) (next_may n f stand.members (clock_seconds n.dated clock) dated named (free_dates f dated))

    pub target_at : (f : Format) → n.dated ≡ Some f → or_none is_format n.dated ≡ true → AreNamed n stand.members
        → IsDatedAt n (clock_seconds n.dated clock) (next_serial stand.members (clock_seconds n.dated clock)) (dated_target n clock stand.members)
    target_at f dated good named = clock_path n clock (next_serial stand.members (clock_seconds n.dated clock)) good (next_may_be f dated named)
