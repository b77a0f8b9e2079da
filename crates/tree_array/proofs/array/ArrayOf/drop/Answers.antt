use Rattle.tree_array.proofs.Lemmas.{refl, arith, emptied_all, emptied_more, left_stands, fields, steps}
use Rattle.tree_array.proofs.array.ArrayOf.drop.Goals as goal

pub take-requires : goal.take-requires
take-requires g c =
    let a = fields refl c.counts-count.ensures.entries refl c.self.invariant c.self.view_is in
    (search steps, rw c.slot_at.ensures (left_stands g.met.K.Ord.total a.it.table c.loop-place.invariant c.loop-place.place (omega arith) c.loop-place-test.true))

pub loop-place-preserved : goal.loop-place-preserved
loop-place-preserved g c =
    let a = fields refl c.counts-count.ensures.entries refl c.self.invariant c.self.view_is in
    rw (c.take.ensures.spent, c.slot_at.ensures) (emptied_more g.met.K.Ord.total a.it.table c.loop-place.invariant c.loop-place-test.true)

pub discard-requires : goal.discard-requires
discard-requires g c =
    let a = fields refl c.counts-count.ensures.entries refl c.self.invariant c.self.view_is in
    (search steps, emptied_all g.met.K.Ord.total a.it.table c.loop-place.invariant (omega (arith, c.loop-place-test.false, c.loop-place.auto.place-end)))
