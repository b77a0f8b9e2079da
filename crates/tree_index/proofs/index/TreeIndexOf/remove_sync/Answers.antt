use Rattle.std.proofs.Common.{rules}
use Rattle.tree_index.proofs.index.TreeIndexOf.remove_sync.Goals as goal

-- the condition says yes of every value
pub returns-clause-answer : goal.returns-clause-answer
returns-clause-answer g c = (c.remove_if_sync.ensures.always (λ v said says. search rules)).0

pub returns-clause-left : goal.returns-clause-left
returns-clause-left g c = (c.remove_if_sync.ensures.always (λ v said says. search rules)).1
