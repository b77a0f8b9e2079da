use Rattle.std.proofs.Common.{◌≡◌, [], refl, arith, map, string_bytes}
use Rattle.tree_model.proofs.Common.{false≢true, nat_tests, nil_from_length}
use Rattle.treetool.proofs.Tasks.{asks_nothing, some_words}
use Rattle.treetool.proofs.task.task_of.Goals as goal

-- there are no arguments
pub returns-then-is_empty : goal.returns-then-is_empty
returns-then-is_empty c =
    let empty = c.if-is_empty.ensures in
    let none : c.args.arguments.now ≡ [] = nil_from_length _ (grind (arith, nat_tests, empty)) in
    (tt, rw none refl)

-- they ask for nothing
pub returns-in_err-workers : goal.returns-in_err-workers
returns-in_err-workers c =
    rw c.from_residual.ensures
    (asks_nothing (map string_bytes c.args.arguments.now) (some_words string_bytes c.args.arguments.now c.if-is_empty.ensures) (λ e. false≢true (c.if-are_small.ensures.1 e)) c.in_err-workers.ensures)
