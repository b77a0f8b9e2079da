use Rattle.tree_array.proofs.Lemmas.{rules, length, arith, refl, ◌∙◌, fields, count_seen}
use Rattle.tree_array.proofs.Stepped.{all_behind, left_behind}
use Rattle.tree_array.proofs.array.walk.ArrayRevIter.over.Goals.{then-places-counts, else-places-counts}
use Rattle.tree_array.proofs.array.walk.ArrayRevIter.over.Goals as goal

pub past-requires : goal.past-requires
past-requires g c =
    let a = fields refl c.counts.ensures.entries refl c.array.invariant c.array.view_is in (
      search rules,
      elim c.if-places-counts.branch [
        | then-places-counts w ↦ omega (arith, count_seen a, w.if-places-counts.true, w.passed-is)
        | else-places-counts w ↦ omega (arith, w.passed-is)
      ],
    )

pub returns-clause-left : goal.returns-clause-left
returns-clause-left g c =
    let a = fields refl c.counts.ensures.entries refl c.array.invariant c.array.view_is in
    elim c.if-places-counts.branch [
      | then-places-counts w ↦ omega (arith, count_seen a, w.if-places-counts.true, left_behind (length c.args.array.now.entries) c.args.places c.past.result.at (c.past.ensures.passed ∙ w.passed-is))
      | else-places-counts w ↦ omega (arith, count_seen a, w.if-places-counts.false, all_behind (length c.args.array.now.entries) c.past.result.at (c.past.ensures.passed ∙ w.passed-is))
    ]
