use Rattle.tree_array.proofs.Lemmas.{refl, sym, ◌∙◌, rules, arith, count_seen, fields, listed_seen, place_seen, named_at}
use Rattle.tree_array.proofs.array.ArrayOf.take.Goals as goal

pub place_of-place-requires : goal.place_of-place-requires
place_of-place-requires g c = (search rules, listed_seen (fields c.order_of.ensures.word c.order_of.ensures.count refl c.self.invariant c.self.view_is) c.args.slot c.requires)

pub take_at-requires : goal.take_at-requires
take_at-requires g c =
    let a = fields c.order_of.ensures.word c.order_of.ensures.count refl c.self.invariant c.self.view_is in
    (search rules, omega (arith, count_seen a, (named_at c.order_of.result.word c.order_of.result.count c.place_of-place.result c.args.slot c.place_of-place.ensures).0))

pub returns-clause-pair : goal.returns-clause-pair
returns-clause-pair g c =
    let s = place_seen (fields c.order_of.ensures.word c.order_of.ensures.count refl c.self.invariant c.self.view_is) _ _ c.place_of-place.ensures in
    s.1 ∙ sym s.2 ∙ c.take_at.ensures.pair
