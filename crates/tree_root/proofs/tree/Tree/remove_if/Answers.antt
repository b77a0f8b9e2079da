use Rattle.std.proofs.Common.{refl}
use Rattle.tree_node.proofs.Common.{fits}
use Rattle.tree_remove.proofs.Ways.{fails_at}
use Rattle.tree_root.proofs.Taken.{kept, none_taken, same_taken, told_taken}
use Rattle.tree_root.proofs.tree.Tree.remove_if.Goals as goal

pub returns-in_default : goal.returns-in_default
returns-in_default g c = none_taken g.K.Ord.cmp _ c.args.self.now _ c.args.key.now c.requires.whole refl c.in_default.is

pub leaf_for-requires : goal.leaf_for-requires
leaf_for-requires g c = (search fits, (search fits, rw c.in-Some.is at c.requires.whole))

-- a retired root has no key
pub returns-in_default-leaf_for : goal.returns-in_default-leaf_for
returns-in_default-leaf_for g c =
    let tree = rw c.in-Some.is at c.requires.whole in
    kept g.K.Ord.cmp _ c.args.self.now _ c.args.key.now c.in-Some.root.id c.in-Some.root.level c.in-Some.is c.requires.whole refl
    (fails_at g.K.Ord.cmp _ c.args.key.now c.in-Some.root.level tree.top.0 c.args.self.now.arenas c.in-Some.root.id c.in_default-leaf_for.ensures)

pub remove_beside-requires : goal.remove_beside-requires
remove_beside-requires g c =
    let tree = rw c.in-Some.is at c.requires.whole in
    (search fits, (search fits, (tree.top.0, (c.in-Some-leaf_for.ensures, rw c.in-Some.is at c.requires.callable))))

pub remove_alone-requires : goal.remove_alone-requires
remove_alone-requires g c =
    let back = c.in-Err.ensures.handed_back in (
      search fits,
      (
        rw back.1 c.requires.whole,
        (c.in-Some.is, (rw back.1 c.in-Some-leaf_for.ensures, rw (back.1, back.0) c.requires.callable)),
      ),
    )

pub returns-in-Ok : goal.returns-in-Ok
returns-in-Ok g c =
    told_taken g.K.Ord.cmp _ c.args.self.now _ c.args.key.now c.in-Some.root.id c.in-Some.root.level c.in-Some.is c.requires.whole refl c.in-Ok.removed c.in-Ok.ensures.removes

pub returns-in-Err : goal.returns-in-Err
returns-in-Err g c =
    let back = c.in-Err.ensures.handed_back in
    same_taken g.K.Ord.cmp _ c.args.self.now (record c.args.self.now { arenas = c.remove_beside.new.arenas; finger = c.leaf_for.new.self }) _ c.args.key.now _ back.1 refl (rw back.0 at c.remove_alone.ensures)
