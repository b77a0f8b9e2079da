use Rattle.std.proofs.Common.{ap, ◌∙◌}
use Rattle.tree_node.proofs.Common.{fits}
use Rattle.tree_set.proofs.Keys.{keys-without, tells_key}
use Rattle.tree_set.specs.Sets.{keys_of}
use Rattle.tree_set.proofs.set.TreeSetOf.remove.Goals as goal

pub remove_sync-requires : goal.remove_sync-requires
remove_sync-requires g c = search fits

pub returns-clause-answer : goal.returns-clause-answer
returns-clause-answer g c = rw (← c.self.view_is) (tells_key g.K.Ord.cmp _ c.args.element.now _ c.remove_sync.ensures.answer)

pub returns-clause-left : goal.returns-clause-left
returns-clause-left g c = rw (← c.self.view_is) (ap keys_of c.remove_sync.ensures.left ∙ keys-without g.K.Ord.cmp _ c.args.element.now)
