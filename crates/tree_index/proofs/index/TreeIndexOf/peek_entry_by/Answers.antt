use Rattle.tree_node.proofs.Common.{fits}
use Rattle.tree_index.proofs.Indexed.{pairs_ascend}
use Rattle.tree_index.proofs.index.TreeIndexOf.peek_entry_by.Goals as goal

pub search-requires : goal.search-requires
search-requires g c = (search fits, c.self.invariant.1)

pub returns-clause-found : goal.returns-clause-found
returns-clause-found g c = rw (← c.self.view_is) c.search.ensures.found

pub returns-clause-ascending : goal.returns-clause-ascending
returns-clause-ascending g c = rw (← c.self.view_is) (pairs_ascend g.met.K.Ord.total c.self.inside.tree c.self.invariant.1)
