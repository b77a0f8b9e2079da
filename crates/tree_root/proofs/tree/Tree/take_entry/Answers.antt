use Rattle.tree_node.proofs.Common.{fits}
use Rattle.tree_remove.specs.Removes.{surely}
use Rattle.tree_root.proofs.Taken.{found_again, pair_taken, root_after, same_stored}
use Rattle.tree_root.proofs.tree.Tree.take_entry.Goals as goal

pub unreachable-requires : goal.unreachable-requires
unreachable-requires g c = rw c.in_default.is at c.requires.stored.1

pub take_entry-key-requires : goal.take_entry-key-requires
take_entry-key-requires g c =
    let tree = rw c.in-Some.is at c.requires.whole in
    (search fits, (search fits, (tree.top.0, (c.requires.stored.0, rw c.in-Some.is at c.requires.stored.1))))

pub lower_root_at-self-requires : goal.lower_root_at-self-requires
lower_root_at-self-requires g c =
    let tree = rw c.in-Some.is at c.requires.whole in
    let after = root_after g.K.Ord.cmp surely c.args.self.now c.args.self.now c.take_entry-key.result.0 c.in-Some.root.id c.in-Some.root.level c.in-Some.is c.requires.whole c.take_entry-key.new.arenas (c.take_entry-key.result.0, c.take_entry-key.result.1) (found_again c.in-Some.root.level c.args.self.now.arenas c.in-Some.root.id c.args.place.leaf c.args.place.slot c.requires.stored.0 (c.take_entry-key.result.0, c.take_entry-key.result.1) (rw c.in-Some.is at c.requires.stored.1) c.take_entry-key.ensures.taken) (λ v no. (cc)) c.take_entry-key.result.2 c.take_entry-key.ensures.removes in
    (search fits, (search fits, (tree.top.0, (after.0, after.1))))

pub returns-clause-pair : goal.returns-clause-pair
returns-clause-pair g c = λ pair stored.
    same_stored c.in-Some.root.level c.args.self.now.arenas c.in-Some.root.id c.args.place.leaf c.args.place.slot pair (c.take_entry-key.result.0, c.take_entry-key.result.1) (rw c.in-Some.is at stored) c.take_entry-key.ensures.taken

pub returns-clause-takes : goal.returns-clause-takes
returns-clause-takes g c =
    pair_taken g.K.Ord.cmp surely c.args.self.now _ c.take_entry-key.result.0 c.in-Some.root.id c.in-Some.root.level c.in-Some.is c.requires.whole c.take_entry-key.new.arenas (c.take_entry-key.result.0, c.take_entry-key.result.1) (found_again c.in-Some.root.level c.args.self.now.arenas c.in-Some.root.id c.args.place.leaf c.args.place.slot c.requires.stored.0 (c.take_entry-key.result.0, c.take_entry-key.result.1) (rw c.in-Some.is at c.requires.stored.1) c.take_entry-key.ensures.taken) (λ v no. (cc)) c.take_entry-key.result.2 c.take_entry-key.ensures.removes c.lower_root_at-self.ensures
