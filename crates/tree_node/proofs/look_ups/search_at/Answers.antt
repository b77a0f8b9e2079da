use Rattle.std.proofs.Common.{refl}
use Rattle.tree_node.proofs.DescentWords.{fits, searched, retired_walk}
use Rattle.tree_node.proofs.Asked.{leaf_asked}
use Rattle.tree_node.proofs.Found.{found_in_leaf}
use Rattle.tree_node.proofs.look_ups.search_at.Goals as goal

pub returns-in_default-clause-found : goal.returns-in_default-clause-found
returns-in_default-clause-found g c = rw (retired_walk c.args.arenas.now c.args.id c.args.level c.requires.node c.in_default.ensures.found) refl

pub leaf-requires : goal.leaf-requires
leaf-requires g c = (search fits, (search fits, c.in-Some.ensures.found.here))

pub returns-clause-found : goal.returns-clause-found
returns-clause-found g c =
    let same = found_in_leaf g.met.K.Ord.total c.args.arenas.now (g.J.Judge.key c.args.judge.now) c.args.level c.args.id c.in-Some.leaf c.in-Some.ensures.found in
    rw (same, c.leaf.ensures, ← c.array.ensures, ← c.leaf_by.ensures.same_key) c.search_entry.ensures.found

pub returns-clause-counted : goal.returns-clause-counted
returns-clause-counted g c = leaf_asked g.row.LEN c.args.level _ _ _ c.leaf_by.ensures.counted c.search_entry.ensures.counted

pub returns-clause-halved : goal.returns-clause-halved
returns-clause-halved g c = leaf_asked (searched g.row.LEN) c.args.level _ _ _ c.leaf_by.ensures.halved c.search_entry.ensures.halved
