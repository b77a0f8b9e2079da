use Rattle.tree_array.proofs.Lemmas.{refl, ◌∙◌, rules, arrival_seen, fields, reachable_seen}
use Rattle.tree_array.proofs.array.ArrayOf.key.Goals as goal

pub key-requires : goal.key-requires
key-requires g c = (search rules, reachable_seen (fields refl refl refl c.self.invariant c.self.view_is) c.args.slot c.requires)

pub returns : goal.returns
returns g c = (c.key.ensures.0, arrival_seen (fields refl refl refl c.self.invariant c.self.view_is) c.args.slot ∙ c.key.ensures.1)
