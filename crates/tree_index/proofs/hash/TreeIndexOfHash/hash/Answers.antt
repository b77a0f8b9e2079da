use Rattle.std.proofs.Common.{◌++◌, length, min, flat_map}
use Rattle.tree_node.proofs.Common.{fits}
use Rattle.std.specs.Hash.{HashWrites, fed_then, usize}
use Rattle.tree_views.proofs.Walked.{all_left}
use Rattle.tree_index.proofs.hash.TreeIndexOfHash.hash.Goals as goal

pub iter-requires : goal.iter-requires
iter-requires g c = (search fits, (search fits, (search fits, search fits)))

pub feed-requires : goal.feed-requires
feed-requires g c = (search fits, (search fits, (search fits, rw c.iter.ensures tt)))

pub returns : goal.returns
returns g c =
    let counted = rw c.len.ensures at c.hash.ensures in
    let pairs = rw (c.iter.ensures, all_left g.K.Ord.cmp c.args.self.now.pairs) at c.feed.ensures in
    let input : g.row.K.Denot × g.row.V.Denot → HashWrites = λ p. g.K.Hash.hash_input p.0 ++ g.V.Hash.hash_input p.1 in
    fed_then g.H.Hasher.write c.args.state.now c.hash.new.state c.feed.new.state (usize (min (length c.args.self.now.pairs) 18446744073709551615)) (flat_map input c.args.self.now.pairs) counted pairs

pub len-requires : goal.len-requires
len-requires g c = search fits
