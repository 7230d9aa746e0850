use Rattle.std.proofs.Common.{Option, ℕ, [], refl, sym, subst}
use Rattle.std.specs.Prelude.{IfOk, OnErr}
use Rattle.lr_host.specs.Told.{Left}
use Rattle.lr_host.proofs.Left.{left_first}
use Rattle.lr_include.specs.declared.visit.Visit.TheVariants as visit
use Rattle.lr_include.specs.Visits.{ShowsFile, PartFile}
use Rattle.lr_include.proofs.visit.in_file.Goals as goal

pub returns-in-Some-clause-told : goal.returns-in-Some-clause-told
returns-in-Some-clause-told g c = subst (λ (o : Option ℕ). IfOk c.bytes_of.result (λ v. Left (ShowsFile c.args.file.now o v) (g.H.Host.told c.args.host.now) (g.H.Host.told c.bytes_of.new.host))) (sym c.in-Some.is) c.bytes_of.ensures.told

pub returns-in-Some-clause-lacking : goal.returns-in-Some-clause-lacking
returns-in-Some-clause-lacking g c = subst (λ (o : Option ℕ). OnErr c.bytes_of.result (Left (PartFile c.args.file.now o) (g.H.Host.told c.args.host.now) (g.H.Host.told c.bytes_of.new.host))) (sym c.in-Some.is) c.bytes_of.ensures.lacking

pub returns-in-None-clause-told : goal.returns-in-None-clause-told
returns-in-None-clause-told g c = left_first _ _ (subst (λ (o : Option ℕ). ShowsFile c.args.file.now o visit.File []) (sym c.in-None.is) (refl, refl))
