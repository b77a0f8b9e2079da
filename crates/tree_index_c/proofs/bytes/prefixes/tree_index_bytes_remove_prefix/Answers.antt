use Rattle.tree_index_c.proofs.Prefixes.{shrinks}
use Rattle.tree_index_c.proofs.bytes.prefixes.tree_index_bytes_remove_prefix.Goals as goal

-- the index has no more pairs than before
pub overflow_sub-count : goal.overflow_sub-count
overflow_sub-count c = shrinks c.args.prefix.now c.in-Bytes.index.pairs c.remove_prefix.new.index.pairs c.in-Ok.ensures.removed c.len-before.result c.len.result c.len-before.ensures c.len.ensures
