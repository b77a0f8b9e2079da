use Rattle.tree_array.proofs.Lemmas.{ℕ, List, None, refl, subst, sym, ap, arith, IsOver, standing, fields, kept, slots_seen}
use Rattle.tree_array.proofs.array.walk.ArrayWalk.new.Goals as goal

pub returns : goal.returns
returns g c =
    let a = fields refl c.counts.ensures.entries refl c.array.invariant c.array.view_is in
    let sound = kept a g.met.K.Ord.total in
    let slots = ap (λ (slots : List ℕ). standing slots None) (sym (slots_seen a g.met.K.Ord.total)) in
    record { slots = slots; over = subst (IsOver g.K.Ord.cmp g.row.LEN c.args.array.now) (sym slots) record { slots = sound.slots; ascending = sound.ascending; few = omega (arith, sound.entries_few, sound.few) } }
