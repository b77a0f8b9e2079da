use Rattle.tree_node.proofs.Common.{fits}
use Rattle.tree_index.proofs.Indexed.{present_where_found}
use Rattle.tree_index.proofs.index.TreeIndexOf.contains.Goals as goal

pub returns : goal.returns
returns g c = present_where_found g.K.Ord.cmp c.args.self.now.pairs c.args.key.now c.peek_entry.result c.is_some.result c.is_some.ensures c.peek_entry.ensures.found

pub peek_entry-requires : goal.peek_entry-requires
peek_entry-requires g c = search fits
