use Rattle.tree_array.proofs.Lemmas.{arith, searched_few, refl, sym, ◌∙◌, rules, its_pair, stands_some, fields, found_seen, none_seen}
use Rattle.tree_array.proofs.array.ArrayOf.search_entry.Goals as goal

pub pair-requires : goal.pair-requires
pair-requires g c = (search rules, stands_some (fields c.order_of.ensures.word c.order_of.ensures.count refl c.self.invariant c.self.view_is).it.table.in_order _ _ c.in-At.ensures.place.1)

pub returns-in-At-clause-found : goal.returns-in-At-clause-found
returns-in-At-clause-found g c =
    let a = fields c.order_of.ensures.word c.order_of.ensures.count refl c.self.invariant c.self.view_is in
    let place = c.in-At.ensures.place in
    found_seen a g.met.K.Ord.total place.0 ∙ sym (its_pair g.met.K.Ord.total a.it.table place.1 place.0) ∙ c.pair.ensures

pub returns-in-Before-clause-found : goal.returns-in-Before-clause-found
returns-in-Before-clause-found g c =
    let a = fields c.order_of.ensures.word c.order_of.ensures.count refl c.self.invariant c.self.view_is in
    none_seen a g.met.K.Ord.total _ _ _ c.in-Before.ensures.place

pub returns-in-Before-clause-counted : goal.returns-in-Before-clause-counted
returns-in-Before-clause-counted g c = omega (arith, c.in-Before.ensures.counted, searched_few g.row.LEN c.self.invariant.table.is_len)
