use Rattle.tree_array.proofs.Lemmas.{refl, ◌∙◌, rules, arrival_seen, fields, reachable_seen, valued}
use Rattle.tree_array.proofs.array.ArrayOf.set_val.Goals as goal

pub replace-requires : goal.replace-requires
replace-requires g c = (search rules, reachable_seen (fields refl refl refl c.self.invariant c.self.view_is) c.args.slot c.requires)

pub invariant_of-self : goal.invariant_of-self
invariant_of-self g c =
    let replaced = c.replace.ensures in
    rw (replaced.pairs.2, replaced.counts) (valued g.met.K.Ord.total c.self.invariant c.self.view_is c.args.slot replaced.pairs.0 _ c.args.val replaced.pairs.1).it

pub returns : goal.returns
returns g c =
    let replaced = c.replace.ensures in
    let there = arrival_seen (fields refl refl refl c.self.invariant c.self.view_is) c.args.slot ∙ replaced.pairs.1 in
    (replaced.pairs.0, there, rw (replaced.pairs.2, replaced.counts) (valued g.met.K.Ord.total c.self.invariant c.self.view_is c.args.slot replaced.pairs.0 _ c.args.val replaced.pairs.1).view)
