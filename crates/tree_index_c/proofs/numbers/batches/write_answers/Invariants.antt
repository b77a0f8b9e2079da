use Rattle.std.proofs.Common.{nat_cmp}
use Rattle.tree_batches.specs.Batches.{values_for}
use Rattle.tree_index_c.specs.Many.{flag_of, value_or_zero}
use Rattle.tree_index_c.proofs.Filled.{Filling}
use Rattle.tree_index_c.proofs.numbers.batches.write_answers.Given as goal

-- the places before this one have their answers, and the others are still to come
abbrev pub invariant-loop-answer : goal.invariant-loop-answer
invariant-loop-answer l =
    let all = values_for nat_cmp l.fn.index.pairs l.fn.keys in
    Filling value_or_zero all l.fn.values l.at l.values l.answer-iterator × Filling flag_of all l.fn.found l.at l.found l.answer-iterator
