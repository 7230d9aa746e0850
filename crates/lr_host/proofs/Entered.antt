-- What a host that tells its journal owes.
use Rattle.std.proofs.Common.{None, List}
use Rattle.lr_host.specs.declared.entry.Entry.{Entry}
use Rattle.lr_host.specs.Told.{Left, not_told}

-- a host that tells nothing owes nothing
pub untold : (P : List Entry → Type 0) → Left P None None
untold P = not_told
