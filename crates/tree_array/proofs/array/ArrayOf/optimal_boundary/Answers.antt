use Rattle.tree_array.proofs.Lemmas.{◌≡◌, ℕ, ◌*◌, ◌/◌, ◌≤◌, true, leb, refl, ◌∙◌, rules, arith, nat_tests, len_small, count_seen, fields, kept, named_few, rises_seen}
use Rattle.tree_array.proofs.array.ArrayOf.optimal_boundary.Goals as goal

within : (count most : ℕ) → count ≤ most → leb count most ≡ true
within count most le = grind (arith, nat_tests)

pub count_rises-rises-requires : goal.count_rises-rises-requires
count_rises-rises-requires g c =
    let a = fields c.order_of-order.ensures.word c.order_of-order.ensures.count c.counts.ensures.arrivals c.self.invariant c.self.view_is in
    (search rules, (named_few a, omega (arith, a.it.table.few_made, len_small g.row.LEN a.it.table.is_len)))

pub returns-then-count : goal.returns-then-count
returns-then-count g c =
    let a = fields c.order_of-order.ensures.word c.order_of-order.ensures.count refl c.self.invariant c.self.view_is in
    record { boundary = rw (count_seen a, within _ (g.row.LEN * 3 / 4) c.if-count.true) refl; sound = kept a g.met.K.Ord.total }

pub returns-then-rises-count : goal.returns-then-rises-count
returns-then-rises-count g c =
    let a = fields c.order_of-order.ensures.word c.order_of-order.ensures.count c.counts.ensures.arrivals c.self.invariant c.self.view_is in
    let rises = c.count_rises-rises.ensures.rises ∙ rises_seen a g.met.K.Ord.total in
    record { boundary = rw (count_seen a, ← rises) (grind (arith, nat_tests)); sound = kept a g.met.K.Ord.total }

pub returns-else-rises-count : goal.returns-else-rises-count
returns-else-rises-count g c =
    let a = fields c.order_of-order.ensures.word c.order_of-order.ensures.count c.counts.ensures.arrivals c.self.invariant c.self.view_is in
    let rises = c.count_rises-rises.ensures.rises ∙ rises_seen a g.met.K.Ord.total in
    record { boundary = rw (count_seen a, ← rises) (grind (arith, nat_tests)); sound = kept a g.met.K.Ord.total }
