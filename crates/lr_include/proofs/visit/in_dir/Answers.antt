use Rattle.std.proofs.Common.{Bool, [], refl, sym, subst}
use Rattle.std.specs.Prelude.{IfOk}
use Rattle.lr_host.specs.Told.{Left}
use Rattle.lr_host.proofs.Left.{left_first}
use Rattle.lr_include.specs.declared.visit.Visit.TheVariants as visit
use Rattle.lr_include.specs.Visits.{ShowsDir}
use Rattle.lr_include.proofs.visit.in_dir.Goals as goal

pub returns-then-lists-clause-told : goal.returns-then-lists-clause-told
returns-then-lists-clause-told g c = subst (λ (b : Bool). IfOk c.names_of.result (λ v. Left (ShowsDir c.args.dir.now b v) (g.H.Host.told c.args.host.now) (g.H.Host.told c.names_of.new.host))) (sym c.if-lists.true) c.names_of.ensures.told

pub returns-else-lists-clause-told : goal.returns-else-lists-clause-told
returns-else-lists-clause-told g c = left_first _ _ (subst (λ (b : Bool). ShowsDir c.args.dir.now b visit.Dir []) (sym c.if-lists.false) (refl, refl))
