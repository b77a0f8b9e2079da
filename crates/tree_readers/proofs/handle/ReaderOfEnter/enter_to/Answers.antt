use Rattle.std.proofs.Common.{Result, Ok, Err, IfErr}
use Rattle.tree_readers.proofs.handle.ReaderOfEnter.enter_to.Goals as goal

-- what is refused is so without a condition
and_refused : {T E : Type 0} (P : E → Type 0) (result : Result T E) → IfErr result P → IfErr result (λ e. P e × Unit {0})
and_refused P (Ok x) same = tt
and_refused P (Err e) same = (same, tt)

pub returns-clause-err : goal.returns-clause-err
returns-clause-err g c = and_refused _ c.enter.result c.enter.ensures.err
