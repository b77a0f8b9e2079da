use Rattle.tree_array.proofs.Lemmas.{refl, ◌∙◌, rules, arrival_seen, fields, reachable_seen, valued}
use Rattle.tree_array.proofs.array.ArrayOf.change_val.Goals as goal

pub change-requires : goal.change-requires
change-requires g c =
    let a = fields refl refl refl c.self.invariant c.self.view_is in
    (search rules, (reachable_seen a c.args.slot c.requires.pair, λ pair there. c.requires.callable pair (arrival_seen a c.args.slot ∙ there)))

pub invariant_of-self : goal.invariant_of-self
invariant_of-self g c =
    let changed = c.change.ensures.pairs in
    rw (changed.5, c.change.ensures.counts) (valued g.met.K.Ord.total c.self.invariant c.self.view_is c.args.slot changed.0 changed.1 changed.2 changed.3).it

pub returns : goal.returns
returns g c =
    let changed = c.change.ensures.pairs in
    let there = arrival_seen (fields refl refl refl c.self.invariant c.self.view_is) c.args.slot ∙ changed.3 in
    (changed.0, changed.1, changed.2, there, changed.4, rw (changed.5, c.change.ensures.counts) (valued g.met.K.Ord.total c.self.invariant c.self.view_is c.args.slot changed.0 changed.1 changed.2 changed.3).view)
