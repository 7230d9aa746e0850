-- Lemmas on results.
use Rattle.std.proofs.Common.{Result, Ok, Err, OnErr, ◌≡◌, false, OnOk}
use Rattle.std.specs.Result.{is_err}

-- a fact of each refusal
pub on_err : {T E : Type 0} (r : Result T E) (P : Type 0) → P → OnErr r P
on_err (Ok x) P p = tt
on_err (Err x) P p = p

pub on_ok : {T E : Type 0} (r : Result T E) {P : Type 0} → is_err r ≡ false → OnOk r P → P
on_ok (Ok x) e p = p
on_ok (Err x) e p = absurd (cc)
