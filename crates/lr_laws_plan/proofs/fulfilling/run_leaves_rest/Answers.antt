use Rattle.lr_laws_plan.proofs.Rest.{done_rest, done_sets, done_only, cut_rest, cut_sets, cut_only}
use Rattle.lr_laws_plan.proofs.fulfilling.run_leaves_rest.Goals as goal

pub returns-clause-rest : goal.returns-clause-rest
returns-clause-rest c = λ state asked clock rules w p q es reads made journal joined quiet shows. done_rest state asked clock rules w shows p q es reads made journal joined quiet

pub returns-clause-sets : goal.returns-clause-sets
returns-clause-sets c = λ state asked clock rules w p q es reads made journal joined quiet shows. done_sets state asked clock rules w shows p q es reads made journal joined quiet

pub returns-clause-broken_rest : goal.returns-clause-broken_rest
returns-clause-broken_rest c = λ state asked clock rules w p q es reads made journal joined quiet shows. cut_rest state asked clock rules w shows p q es reads made journal joined quiet

pub returns-clause-broken_sets : goal.returns-clause-broken_sets
returns-clause-broken_sets c = λ state asked clock rules w p q es reads made journal joined quiet shows. cut_sets state asked clock rules w shows p q es reads made journal joined quiet

pub returns-clause-only : goal.returns-clause-only
returns-clause-only c = done_only

pub returns-clause-broken_only : goal.returns-clause-broken_only
returns-clause-broken_only c = cut_only
