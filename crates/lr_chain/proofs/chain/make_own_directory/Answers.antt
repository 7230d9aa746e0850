use Rattle.std.proofs.Common.{refl}
use Rattle.lr_host.proofs.Left.{left_as}
use Rattle.lr_chain.proofs.chain.make_own_directory.Goals as goal

pub returns-in-Err-Make-clause-refused : goal.returns-in-Err-Make-clause-refused
returns-in-Err-Make-clause-refused g c = left_as (rw c.in-Err-Make.field-0-is at c.in-Err-Make.ensures.refused) (λ ts t. (refl, t))

pub returns-in-Err-Look-clause-refused : goal.returns-in-Err-Look-clause-refused
returns-in-Err-Look-clause-refused g c = left_as (rw c.in-Err-Look.field-0-is at c.in-Err-Look.ensures.refused) (λ ts t. (refl, t))

pub returns-in-Err-NotDir-clause-refused : goal.returns-in-Err-NotDir-clause-refused
returns-in-Err-NotDir-clause-refused g c = left_as (rw c.in-Err-NotDir.field-0-is at c.in-Err-NotDir.ensures.refused) (λ ts t. (refl, t))
