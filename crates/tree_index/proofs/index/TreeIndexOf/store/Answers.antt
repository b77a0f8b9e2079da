use Rattle.std.proofs.Common.{◌∙◌, ap, arith, sym, length}
use Rattle.tree_node.proofs.Common.{fits}
use mir.Syntax.{w128}
use Rattle.std.proofs.Math.Facts.{Fits-of_lt}
use Rattle.tree_index.proofs.Indexed.{as_many, one_more, pairs_kept, stores_pair}
use Rattle.tree_index.proofs.index.TreeIndexOf.store.Goals as goal

pub store-requires : goal.store-requires
store-requires g c = (search fits, (c.self.invariant.0, c.self.invariant.1))

pub slots-requires : goal.slots-requires
slots-requires g c = (search fits, (c.self.invariant.0, c.in-Ok-New.ensures.whole))

pub overflow_add-self : goal.overflow_add-self
overflow_add-self g c =
    let more = one_more g.met.K.Ord.total c.self.inside.tree _ c.args.key c.args.value _ (rw c.in-Ok-New.field-0-is at c.in-Ok-New.ensures) in
    Fits-of_lt {w = w128} (omega (arith, more, c.self.invariant.2, c.slots.ensures.slots, c.slots.ensures.small))

pub invariant_of-self : goal.invariant_of-self
invariant_of-self g c =
    let more = one_more g.met.K.Ord.total c.self.inside.tree _ c.args.key c.args.value _ (rw c.in-Ok-New.field-0-is at c.in-Ok-New.ensures) in
    (c.self.invariant.0, c.in-Ok-New.ensures.whole, omega (arith, more, c.self.invariant.2))

pub invariant_of-self-in-Ok-Replaced : goal.invariant_of-self-in-Ok-Replaced
invariant_of-self-in-Ok-Replaced g c =
    let same = as_many g.met.K.Ord.total c.self.inside.tree _ c.args.key c.args.value _ c.self.invariant.1 (rw c.in-Ok-Replaced.field-0-is at c.in-Ok-Replaced.ensures) in
    (c.self.invariant.0, c.in-Ok-Replaced.ensures.whole, c.self.invariant.2 ∙ sym same)

pub invariant_of-self-in-Err : goal.invariant_of-self-in-Err
invariant_of-self-in-Err g c =
    let same = pairs_kept g.K.Ord.cmp _ c.self.inside.tree _ c.args.key c.args.value c.in-Err.error c.in-Err.ensures in
    (c.self.invariant.0, c.in-Err.ensures.whole, c.self.invariant.2 ∙ ap length (sym same))

pub returns-in-Ok-New : goal.returns-in-Ok-New
returns-in-Ok-New g c = rw (← c.self.view_is) (stores_pair g.K.Ord.cmp _ c.self.inside.tree _ c.args.key c.args.value _ (rw c.in-Ok-New.field-0-is at c.in-Ok-New.ensures))

pub returns-in-Ok-Replaced : goal.returns-in-Ok-Replaced
returns-in-Ok-Replaced g c = rw (← c.self.view_is) (stores_pair g.K.Ord.cmp _ c.self.inside.tree _ c.args.key c.args.value _ (rw c.in-Ok-Replaced.field-0-is at c.in-Ok-Replaced.ensures))

pub returns-in-Err : goal.returns-in-Err
returns-in-Err g c = rw (← c.self.view_is) (stores_pair g.K.Ord.cmp _ c.self.inside.tree _ c.args.key c.args.value _ c.in-Err.ensures)
