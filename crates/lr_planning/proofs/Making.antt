-- The new path of a log whose rotation was made ready is short.
use Rattle.std.proofs.Common.{◌≡◌, ◌≤◌, ℕ, [], Option, Some, None, Result, Ok, Err, length, refl, sym, subst}
use Rattle.std.specs.Prelude.{IfOk, OnOk}
use Rattle.lr_rules.specs.declared.clock.Clock.{Clock}
use Rattle.lr_rules.specs.declared.path.Path.{Path}
use Rattle.lr_rules.specs.declared.rule.Count.{Count}
use Rattle.lr_rules.specs.declared.rule.Format.{Format}
use Rattle.lr_rules.specs.declared.rule.Make.{Make}
use Rattle.lr_rules.specs.declared.rule.Naming.{Naming}
use Rattle.lr_family.specs.declared.stand.Stand.{Stand}
use Rattle.lr_family.specs.Kin.{IsKin}
use Rattle.lr_chain.specs.declared.ready.PrepareStop.{PrepareStop}
use Rattle.lr_chain.specs.declared.ready.Ready.{Ready}
use Rattle.lr_chain.specs.Hindrances.{what_hinders}
use Rattle.lr_chain.specs.Prepared.{ready_of}
use Rattle.lr_chain.proofs.Either.{ready_numbers, ready_dates, target_at}
use Rattle.lr_plan.specs.Planned.{AreMembersOf}
use Rattle.lr_planning.proofs.Short.{target_short, dated_short}

module _ (log : Path) (n : Naming) (c : Count) (maxage : Option ℕ) (clock : Clock) (anew : Make) (stand : Stand) (kin : IsKin log n) (start : n.start ≤ 999999) (members : AreMembersOf n stand.members) where
  ready_short : what_hinders n c clock stand ≡ [] → length (ready_of log n c maxage clock anew stand.members).target ≤ 4081
  ready_short free = go n.dated refl
    where
      go : (d : Option Format) → n.dated ≡ d → length (ready_of log n c maxage clock anew stand.members).target ≤ 4081
      go None e = subst (λ (r : Ready). length r.target ≤ 4081) (sym (ready_numbers log n c maxage clock anew stand.members e)) (target_short log n kin start)
      go (Some f) e = subst (λ (r : Ready). length r.target ≤ 4081) (sym (ready_dates log n c maxage clock anew stand.members f e))
          (dated_short log n _ _ _ kin members.format (target_at n c clock stand free f e members.format members.named))

  pub made_short : (r : Result Ready PrepareStop) → IfOk r (λ ready. ready ≡ ready_of log n c maxage clock anew stand.members) → OnOk r (what_hinders n c clock stand ≡ []) → IfOk r (λ ready. length ready.target ≤ 4081)
  made_short (Err e) h free = tt
  made_short (Ok ready) h free = subst (λ (x : Ready). length x.target ≤ 4081) (sym h) (ready_short free)
