-- Answers.
use Rattle.std.proofs.Common.{Result, Ok, Err, OnOk}

pub on_ok_as : {T E : Type 0} (r : Result T E) (P Q : Type 0) → OnOk r P → (P → Q) → OnOk r Q
on_ok_as (Ok x) P Q p f = f p
on_ok_as (Err x) P Q p f = tt
