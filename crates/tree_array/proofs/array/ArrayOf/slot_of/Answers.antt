use Rattle.tree_array.proofs.Lemmas.{refl, ◌∙◌, tied_back, its_pair, arrival_seen, fields, found_seen, none_seen}
use Rattle.tree_array.proofs.array.ArrayOf.slot_of.Goals as goal

pub returns-in-At : goal.returns-in-At
returns-in-At g c =
    let a = fields c.order_of.ensures.word c.order_of.ensures.count refl c.self.invariant c.self.view_is in
    let o = g.met.K.Ord.total in
    let has = c.in-At.ensures.0 in
    (has.pair, tied_back o c.args.key.now has.pair.0 has.same, arrival_seen a c.in-At.slot ∙ its_pair o a.it.table c.in-At.ensures.1 has, found_seen a o has)

pub returns-in-Before : goal.returns-in-Before
returns-in-Before g c =
    let a = fields c.order_of.ensures.word c.order_of.ensures.count refl c.self.invariant c.self.view_is in
    none_seen a g.met.K.Ord.total _ _ _ c.in-Before.ensures
