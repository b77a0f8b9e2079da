use Rattle.tree_cut.proofs.Common.{ℕ, ◌<◌, ◌^◌, length, None, arith, rules, Ordering, IsLen, StandsOnce, TreeArenas, leaves_at, walk, slab_len, mul-le-mul_left, once_fits, entries_few}
use Rattle.tree_cut.proofs.Nodes.{node_used}
use Rattle.tree_cut.proofs.dropping.count_fits.Goals as goal

pairs_fit : {K V : Type 0} {LEN : ℕ} {cmp : K → K → Ordering} {level : ℕ} {a : TreeArenas K V LEN} {id : ℕ} → StandsOnce cmp level a id → IsLen LEN
    → slab_len a.leaves < 2 ^ 64 → length (walk level a id) < 2 ^ 127
pairs_fit {LEN = LEN} {cmp = cmp} {level = level} {a = a} {id = id} once len few =
    grind (arith, entries_few cmp a level None id None once.stands, mul-le-mul_left LEN (once_fits a.leaves (leaves_at level a.nodes id) once.leaves_once))

pub node-requires : goal.node-requires
node-requires g c = search (rules, node_used g.K.Ord.cmp c.args.level c.args.arenas.now c.args.id c.requires.node c.requires.once.stands)

pub returns : goal.returns
returns g c = pairs_fit c.requires.once c.slots_left.ensures.len (rw c.leaf_count.ensures at c.leaf_count.type_inv)
