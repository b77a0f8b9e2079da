use Rattle.std.proofs.Common.{refl}
use Rattle.tree_node.proofs.Common.{fits}
use Rattle.tree_root.proofs.Storing.{not_stored_first, stored_first}
use Rattle.tree_root.proofs.tree.Tree.store_first.Goals as goal

pub plant-requires : goal.plant-requires
plant-requires g c = (search fits, (search fits, (c.requires.len, (c.requires.whole, c.requires.bare))))

pub returns-in-Err : goal.returns-in-Err
returns-in-Err g c upsert = not_stored_first g.K.Ord.cmp upsert c.args.self.now _ c.args.key c.args.val (c.in-Err.key, c.in-Err.val) c.requires.whole c.requires.bare refl c.in-Err.ensures.plants.0 c.in-Err.ensures.plants.1 c.in-Err.ensures.plants.2

pub returns-in-Ok : goal.returns-in-Ok
returns-in-Ok g c upsert = stored_first g.K.Ord.cmp upsert c.args.self.now _ c.args.key c.args.val c.in-Ok.id c.requires.bare refl c.in-Ok.ensures.plants c.in-Ok.ensures.packed
