-- What is known of a result by its arm.
use Rattle.std.proofs.Common.{Result, Ok, Err, OnErr}

-- what holds anyway holds after an error
pub on_err : {T E : Type 0} {P : Type 0} (result : Result T E) → P → OnErr result P
on_err (Ok x) p = tt
on_err (Err e) p = p
