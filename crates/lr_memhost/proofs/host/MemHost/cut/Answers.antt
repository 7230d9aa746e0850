use Rattle.std.proofs.Common.{◌≡◌, sym, subst}
use Rattle.std.specs.Prelude.{Result, Ok, Err, OnOk}
use Rattle.lr_host.specs.World.{past}
use Rattle.lr_host.specs.Safe.{IsSafe}
use Rattle.lr_memhost.proofs.host.MemHost.cut.Goals.{in-Ok, in-Err-cut}
use Rattle.lr_memhost.proofs.host.MemHost.cut.Goals as goal

done : {T E : Type 0} (P : Type 0) (r : Result T E) (x : T) → r ≡ Ok x → P → OnOk r P
done P r x is p = subst (λ q. OnOk q P) (sym is) p

failed : {T E : Type 0} (P : Type 0) (r : Result T E) (f : E) → r ≡ Err f → OnOk r P
failed P r f is = subst (λ q. OnOk q P) (sym is) tt

pub returns-clause-safe : goal.returns-clause-safe
returns-clause-safe c = elim c.match-cut.branch [ in-Ok w ↦ done _ _ _ w.result-is (λ s safe. w.in-Ok.ensures.safe s (subst (λ m. IsSafe s (past m.journal)) (sym c.self.view_is) safe)) | in-Err-cut w ↦ failed _ _ _ w.result-is ]
