use Rattle.tree_array.proofs.Lemmas.{refl, arith, fields, kept, slots_seen, count_seen, len_small}
use Rattle.tree_array.proofs.Stepped.{ahead_of}
use Rattle.tree_array.proofs.array.walk.ArrayWalk.past.Goals as goal

pub invariant_of-result : goal.invariant_of-result
invariant_of-result g c =
    let a = fields refl c.counts.ensures.entries refl c.array.invariant c.array.view_is in
    let sound = kept a g.met.K.Ord.total in
    (omega (arith, count_seen a, sound.entries_few, sound.few, len_small _ sound.is_len), omega (arith, count_seen a, c.requires))

pub returns : goal.returns
returns g c =
    let a = fields refl c.counts.ensures.entries refl c.array.invariant c.array.view_is in
    record { slots = rw (← slots_seen a g.met.K.Ord.total) (kept a g.met.K.Ord.total).slots; passed = ahead_of c.args.places }
