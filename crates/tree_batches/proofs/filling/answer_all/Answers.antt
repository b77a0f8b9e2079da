use Rattle.std.proofs.Common.{◌<◌, ◌∙◌, length, arith}
use Rattle.std.proofs.lemmas.List.{length-set}
use Rattle.tree_batches.specs.Batches.{answer_for}
use Rattle.tree_batches.proofs.Places.{one_found}
use Rattle.tree_batches.proofs.filling.answer_all.Goals as goal

pub loop-place-preserved : goal.loop-place-preserved
loop-place-preserved g c =
    let held : c.loop-place.place < length c.loop-place.found = omega (arith, c.loop-place-test.true, c.requires.few, c.loop-place.invariant.long) in
    record {
      long = length-set c.loop-place.found c.loop-place.place c.answer_in.result ∙ c.loop-place.invariant.long;
      each = one_found g.W.Answers.seen (answer_for g.W.Answers.shown g.Q.Lent.key g.K.Ord.cmp (g.A.Batched.pairs c.args.arenas.now c.args.root.now)) c.args.keys.now
          c.loop-place.place c.index-keys-place.result c.index-keys-place.is c.loop-place-test.true c.loop-place.found held c.answer_in.result c.answer_in.ensures c.loop-place.invariant.each;
    }
