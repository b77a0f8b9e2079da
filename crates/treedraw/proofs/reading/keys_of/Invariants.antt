use Rattle.treedraw.proofs.Slots.{IsOverKeyed}
use Rattle.treedraw.proofs.reading.keys_of.Given as goal

abbrev pub invariant-loop-slot : goal.invariant-loop-slot
invariant-loop-slot g l = IsOverKeyed l.array l.slot-iterator
