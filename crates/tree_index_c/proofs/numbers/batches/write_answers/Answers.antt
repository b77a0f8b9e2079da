use Rattle.std.proofs.Common.{◌≡◌, length, arith, ap, ◌∙◌, nat_cmp}
use Rattle.std.specs.Prelude.{unwrap_or}
use Rattle.std.proofs.lemmas.List.{length-map}
use Rattle.tree_batches.specs.Batches.{values_for}
use Rattle.tree_index_c.specs.Many.{flag_of, value_or_zero}
use Rattle.tree_index_c.proofs.Filled.{filling_next}
use Rattle.tree_index_c.proofs.numbers.batches.write_answers.Goals as goal

pub loop-answer-preserved : goal.loop-answer-preserved
loop-answer-preserved c =
    let long : length (values_for nat_cmp c.args.index.now.pairs c.args.keys.now) ≡ length c.args.keys.now = length-map _ _ ∙ length-map _ _ in (
      filling_next value_or_zero _ _ _ _ _ _ _ c.in-Some.ensures.steps c.loop-answer.invariant.0 (omega (arith, long, c.requires.values)) _ (c.unwrap_or.ensures ∙ ap (λ found. unwrap_or found 0) c.copied.ensures),
      filling_next flag_of _ _ _ _ _ _ _ c.in-Some.ensures.steps c.loop-answer.invariant.1 (omega (arith, long, c.requires.found)) _ c.flag_of.ensures,
    )
