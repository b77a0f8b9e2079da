use Rattle.tree_node.proofs.Common.{fits}
use Rattle.tree_set.proofs.Beginning.{found, removed}
use Rattle.tree_set.proofs.prefixes.TreeSetOf+Text+LEN.remove_text_prefix.Goals as goal

pub returns-clause-removed : goal.returns-clause-removed
returns-clause-removed g c = rw (← c.self.view_is) (removed c.args.prefix.now c.self.inside.index.pairs _ c.remove_text_prefix.result c.remove_text_prefix.ensures.removed)

pub returns-clause-found : goal.returns-clause-found
returns-clause-found g c = rw (← c.self.view_is) (found c.args.prefix.now c.self.inside.index.pairs c.self.inside.index.pairs c.remove_text_prefix.result c.remove_text_prefix.ensures.found)

pub remove_text_prefix-requires : goal.remove_text_prefix-requires
remove_text_prefix-requires g c = search fits
