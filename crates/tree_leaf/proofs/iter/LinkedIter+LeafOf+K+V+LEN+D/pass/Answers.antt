use Rattle.tree_leaf.proofs.ChainCommon.{◌≡◌, ◌∙◌, sym, Back, On}
use Rattle.tree_leaf.proofs.Passes.{passed_larger, passed_smaller}
use Rattle.tree_leaf.proofs.Steps.{entries_here, stand_over}
use Rattle.tree_leaf.proofs.iter.LinkedIter+LeafOf+K+V+LEN+D.pass.Goals as goal

pub invariant_of-self : goal.invariant_of-self
invariant_of-self g c = (stand_over _ _ _ _ c.self.invariant.0 _ (rw (c.facing-self-inside.ensures, ← c.array-array.ensures) c.below.ensures.slots), c.self.invariant.1)

pub invariant_of-self-in-Back : goal.invariant_of-self-in-Back
invariant_of-self-in-Back g c = (stand_over _ _ _ _ c.self.invariant.0 _ (rw (c.facing-self-inside-in-Back.ensures, ← c.array-array.ensures) c.above.ensures.slots), c.self.invariant.1)

pub returns-in-On-clause-passed : goal.returns-in-On-clause-passed
returns-in-On-clause-passed g c =
    let way : g.D.Direction.way ≡ On = sym c.way.ensures ∙ c.in-On.is in
    rw (← c.self.view_is, way, entries_here _ _ _ _ c.self.invariant.0, c.facing-self-inside.ensures, ← c.array-array.ensures) (passed_smaller g.met.K.Ord.total c.args.key.now _ c.below.result.at c.below.ensures.passed)

pub returns-in-Back-clause-passed : goal.returns-in-Back-clause-passed
returns-in-Back-clause-passed g c =
    let way : g.D.Direction.way ≡ Back = sym c.way.ensures ∙ c.in-Back.is in
    rw (← c.self.view_is, way, entries_here _ _ _ _ c.self.invariant.0, c.facing-self-inside-in-Back.ensures, ← c.array-array.ensures) (passed_larger g.met.K.Ord.total c.args.key.now _ c.above.result.at c.above.ensures.passed)
