use Rattle.tree_node.proofs.Common.{fits}
use Rattle.std.proofs.Common.{ap, ◌∙◌}
use Rattle.tree_set.proofs.Keys.{keys-without}
use Rattle.tree_set.proofs.Parts.{taken_key}
use Rattle.tree_set.specs.Sets.{keys_of}
use Rattle.tree_set.proofs.set.TreeSetOf.take.Goals as goal

pub take_sync-requires : goal.take_sync-requires
take_sync-requires g c = search fits

pub returns-in_err-stored-clause-taken : goal.returns-in_err-stored-clause-taken
returns-in_err-stored-clause-taken g c = rw (c.from_residual.ensures, ← c.self.view_is) (taken_key g.K.Ord.cmp c.self.inside.index.pairs c.args.element.now _ c.in_err-stored.ensures.taken)

pub returns-in_err-stored-clause-left : goal.returns-in_err-stored-clause-left
returns-in_err-stored-clause-left g c = rw (← c.self.view_is) (ap keys_of c.in_err-stored.ensures.left ∙ keys-without g.K.Ord.cmp _ c.args.element.now)

pub returns-clause-taken : goal.returns-clause-taken
returns-clause-taken g c = rw (← c.self.view_is) (taken_key g.K.Ord.cmp c.self.inside.index.pairs c.args.element.now _ c.in_ok-stored.ensures.taken)

pub returns-clause-left : goal.returns-clause-left
returns-clause-left g c = rw (← c.self.view_is) (ap keys_of c.in_ok-stored.ensures.left ∙ keys-without g.K.Ord.cmp _ c.args.element.now)
