use Rattle.std.proofs.Common.{inl, inr, refl}
use Rattle.tree_node.proofs.Common.{fits}
use Rattle.tree_root.proofs.Taken.{kept, last_taken, root_level, still_part, taken}
use Rattle.tree_root.proofs.tree.Tree.remove_alone.Goals as goal

pub goes_on-requires : goal.goes_on-requires
goes_on-requires g c = search fits

pub remove_alone-requires : goal.remove_alone-requires
remove_alone-requires g c =
    let tree = rw c.requires.root at c.requires.whole in
    (search fits, (search fits, (tree.top.0, (c.requires.way, rw c.requires.root at c.requires.callable))))

pub lower_root_at-self-requires : goal.lower_root_at-self-requires
lower_root_at-self-requires g c =
    let tree = rw c.requires.root at c.requires.whole in
    let part = still_part g.K.Ord.cmp _ c.args.self.now c.args.self.now c.args.key.now c.args.root.id c.args.root.level c.requires.root c.requires.whole c.remove_alone.new.arenas c.in-Success.ensures.removes in
    (search fits, (search fits, (tree.top.0, (inl part, root_level c.args.root.level part))))

pub lower_root_at-self-requires-in-Retired : goal.lower_root_at-self-requires-in-Retired
lower_root_at-self-requires-in-Retired g c =
    let tree = rw c.requires.root at c.requires.whole in
    (search fits, (search fits, (tree.top.0, (inr c.in-Retired.ensures.removes.leaves.0, c.in-Retired.ensures.removes.leaves.1))))

pub returns-in-Fail : goal.returns-in-Fail
returns-in-Fail g c =
    kept g.K.Ord.cmp _ c.args.self.now _ c.args.key.now c.args.root.id c.args.root.level c.requires.root c.requires.whole refl c.in-Fail.ensures.removes

pub returns-in-Success : goal.returns-in-Success
returns-in-Success g c =
    taken g.K.Ord.cmp _ c.args.self.now _ c.args.key.now c.args.root.id c.args.root.level c.requires.root c.requires.whole c.remove_alone.new.arenas c.in-Success.ensures.removes c.lower_root_at-self.ensures

pub returns-in-Retired : goal.returns-in-Retired
returns-in-Retired g c =
    last_taken g.K.Ord.cmp _ c.args.self.now _ c.args.key.now c.args.root.id c.args.root.level c.requires.root c.requires.whole c.remove_alone.new.arenas c.in-Retired.ensures.removes c.lower_root_at-self-in-Retired.ensures
