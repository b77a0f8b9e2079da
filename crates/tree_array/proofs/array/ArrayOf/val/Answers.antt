use Rattle.tree_array.proofs.Lemmas.{refl, ◌∙◌, rules, arrival_seen, fields, reachable_seen}
use Rattle.tree_array.proofs.array.ArrayOf.val.Goals as goal

pub pair-requires : goal.pair-requires
pair-requires g c = (search rules, reachable_seen (fields refl refl refl c.self.invariant c.self.view_is) c.args.slot c.requires)

pub returns : goal.returns
returns g c = (_, arrival_seen (fields refl refl refl c.self.invariant c.self.view_is) c.args.slot ∙ c.pair.ensures)
