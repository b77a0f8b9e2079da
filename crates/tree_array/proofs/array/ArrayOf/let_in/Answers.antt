use Rattle.tree_array.proofs.Lemmas.{◌<◌, rules, arith, len_small, count_seen, entries_seen, fields, made_seen, added_fields, length-names}
use Rattle.tree_array.proofs.array.ArrayOf.let_in.Goals as goal

pub insert-order-requires : goal.insert-order-requires
insert-order-requires g c =
    let a = fields c.order_of.ensures.word c.order_of.ensures.count c.counts-arrivals.ensures.arrivals c.self.invariant c.self.view_is in
    let names = length-names c.order_of.result.word c.order_of.result.count in
    let made : c.counts-arrivals.result.arrivals < g.row.LEN = omega (arith, made_seen a, c.requires.room) in
    (search rules, (omega (arith, c.requires.parts.within, count_seen a), (omega (arith, made, a.it.table.few, names), omega (arith, made, len_small g.row.LEN a.it.table.is_len))))

pub push-requires : goal.push-requires
push-requires g c =
    let a = fields c.order_of.ensures.word c.order_of.ensures.count c.counts-arrivals.ensures.arrivals c.self.invariant c.self.view_is in
    (search rules, rw (← c.counts-arrivals.ensures.arrivals) (omega (arith, made_seen a, c.requires.room), (len_small g.row.LEN a.it.table.is_len, a.it.table.unmade _ (omega arith))))

pub invariant_of-self : goal.invariant_of-self
invariant_of-self g c =
    let a = fields c.order_of.ensures.word c.order_of.ensures.count c.counts-arrivals.ensures.arrivals c.self.invariant c.self.view_is in
    let placed = c.insert-order.ensures in
    rw (c.push.ensures.pairs, c.push.ensures.entries, c.push.ensures.arrivals, ← c.counts-arrivals.ensures.arrivals) (added_fields g.met.K.Ord.total a (omega (arith, made_seen a, c.requires.room)) c.args.key c.args.val c.requires.live (rw (entries_seen a) at c.requires.parts) placed.count placed.names c.insert-order.result.whole).it

pub returns : goal.returns
returns g c =
    let a = fields c.order_of.ensures.word c.order_of.ensures.count c.counts-arrivals.ensures.arrivals c.self.invariant c.self.view_is in
    let placed = c.insert-order.ensures in
    rw (c.push.ensures.pairs, c.push.ensures.entries, c.push.ensures.arrivals, ← c.counts-arrivals.ensures.arrivals) (added_fields g.met.K.Ord.total a (omega (arith, made_seen a, c.requires.room)) c.args.key c.args.val c.requires.live (rw (entries_seen a) at c.requires.parts) placed.count placed.names c.insert-order.result.whole).view
