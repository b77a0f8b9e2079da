use Rattle.std.proofs.Common.{rules, IsSome}
use Rattle.tree_array.proofs.Common.{arrival}
use Rattle.treedraw.proofs.Slots.{begins, goes_on, reaches}
use Rattle.treedraw.proofs.reading.keys_of.Goals as goal

pub loop-slot-init : goal.loop-slot-init
loop-slot-init g c = begins c.args.array.now _ _ _ c.into_iter-slot-iterator.ensures.into_iter_gives c.new-slot-items.ensures.slots c.new-slot-items.ensures.over.slots

pub key-requires : goal.key-requires
key-requires g c =
    let there : IsSome (arrival c.args.array.now.arrivals c.in-Some.slot) = reaches c.args.array.now _ _ _ c.loop-slot.invariant c.in-Some.ensures.steps in
    search rules

pub loop-slot-preserved : goal.loop-slot-preserved
loop-slot-preserved g c = goes_on c.args.array.now _ _ _ c.loop-slot.invariant c.in-Some.ensures.steps
