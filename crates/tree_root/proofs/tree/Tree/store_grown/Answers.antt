use Rattle.std.proofs.Common.{suc, ◌+◌, w64, Some, Ok, Err, refl, add-one, arith}
use Rattle.tree_node.proofs.Common.{fits, IsRetiredNode, ContainsKey, get, root_at}
use Rattle.std.proofs.Math.Facts.{Fits-of_lt}
use Rattle.tree_insert.proofs.RaisedTrees.{tree_raised}
use Rattle.tree_root.proofs.Storing.{childless_root, full_root, not_grown, part_or_retired, root_part, root_there, stored_raised, takes_it}
use Rattle.tree_root.proofs.tree.Tree.store_grown.Goals as goal

pub node-requires : goal.node-requires
node-requires g c =
    let there : ContainsKey c.args.self.now.arenas.nodes c.args.root.id = root_there g.K.Ord.cmp c.args.self.now.arenas c.args.root.id c.args.root.level (rw c.requires.root at c.requires.whole) in
    (search fits, there)

pub store_first-requires : goal.store_first-requires
store_first-requires g c =
    let gone : IsRetiredNode (get c.args.self.now.arenas.nodes c.args.root.id) = rw c.node.ensures (c.if-is_childless.ensures.0 refl) in
    (search fits, (c.requires.len, (c.requires.whole, rw c.requires.root (childless_root g.K.Ord.cmp c.args.self.now.arenas c.args.root.id c.args.root.level (rw c.requires.root at c.requires.whole) gone))))

pub split_root_at-requires : goal.split_root_at-requires
split_root_at-requires g c =
    let tree = rw c.requires.root at c.requires.whole in
    let kept : IsRetiredNode (get c.args.self.now.arenas.nodes c.args.root.id) → ⊥ = λ gone. let childless = c.if-is_childless.ensures.1 (rw c.node.ensures at gone) in cc in (
      search fits,
      (search fits, (tree.top.0, root_part g.K.Ord.cmp c.args.self.now.arenas c.args.root.id c.args.root.level tree kept)),
    )

pub returns-in_default : goal.returns-in_default
returns-in_default g c =
    let tree = rw c.requires.root at c.requires.whole in
    not_grown g.K.Ord.cmp _ c.args.self.now _ c.args.key c.args.val (c.args.key, c.args.val) c.requires.whole refl c.in_default.ensures.err c.requires.spent (rw c.requires.root tree.top.0) c.requires.new refl refl

pub overflow_add-level : goal.overflow_add-level
overflow_add-level g c = Fits-of_lt {w = w64} c.in-Ok.ensures.levels

pub insert_at-requires : goal.insert_at-requires
insert_at-requires g c =
    let tree = tree_raised c.args.self.now.arenas c.split_root_at.new.arenas c.args.root.id c.in-Ok.top c.args.root.level (rw c.requires.root at c.requires.whole) c.in-Ok.ensures.done in
    (search fits, (search fits, (omega arith, rw add-one (part_or_retired g.K.Ord.cmp c.split_root_at.new.arenas c.in-Ok.top (suc c.args.root.level) tree))))

pub returns-in-Err : goal.returns-in-Err
returns-in-Err g c =
    stored_raised g.K.Ord.cmp _ c.args.self.now (record { arenas = c.split_root_at.new.arenas; root = Some (root_at c.in-Ok.top (suc c.args.root.level)); finger = c.args.self.now.finger }) _ c.args.key c.args.val (Err (c.in-Err.key, c.in-Err.val)) c.args.root.id c.in-Ok.top
    c.args.root.level c.requires.root refl (rw add-one refl) c.requires.whole c.in-Ok.ensures.done (rw add-one at c.in-Err.ensures.inserts) (rw add-one at c.in-Err.ensures.retired) g.met.K.Ord.total (full_root g.K.Ord.cmp c.args.self.now.arenas c.args.root.id c.args.root.level (rw c.requires.root at c.requires.whole) (λ gone. let childless = c.if-is_childless.ensures.1 (rw c.node.ensures at gone) in cc) c.requires.full) c.requires.spent c.requires.new

pub node-requires-room-N-Destruct : goal.node-requires-room-N-Destruct
node-requires-room-N-Destruct g c κs within = search fits

pub is_childless-requires : goal.is_childless-requires
is_childless-requires g c = search fits

pub returns-in-New : goal.returns-in-New
returns-in-New g c =
    rw c.in-New.is at
    (stored_raised g.K.Ord.cmp _ c.args.self.now (record { arenas = c.split_root_at.new.arenas; root = Some (root_at c.in-Ok.top (suc c.args.root.level)); finger = c.args.self.now.finger }) (record { arenas = c.insert_at.new.arenas; root = Some (root_at c.in-Ok.top (c.args.root.level + 1)); finger = c.args.self.now.finger }) c.args.key c.args.val (Ok c.in-Ok-insert_at.answer) c.args.root.id c.in-Ok.top
    c.args.root.level c.requires.root refl (rw add-one refl) c.requires.whole c.in-Ok.ensures.done (rw add-one at c.in-Ok-insert_at.ensures.inserts) (rw add-one at c.in-Ok-insert_at.ensures.retired) g.met.K.Ord.total (full_root g.K.Ord.cmp c.args.self.now.arenas c.args.root.id c.args.root.level (rw c.requires.root at c.requires.whole) (λ gone. let childless = c.if-is_childless.ensures.1 (rw c.node.ensures at gone) in cc) c.requires.full) c.requires.spent c.requires.new)

pub returns-in-Replaced : goal.returns-in-Replaced
returns-in-Replaced g c =
    rw c.in-Replaced.is at
    (stored_raised g.K.Ord.cmp _ c.args.self.now (record { arenas = c.split_root_at.new.arenas; root = Some (root_at c.in-Ok.top (suc c.args.root.level)); finger = c.args.self.now.finger }) (record { arenas = c.insert_at.new.arenas; root = Some (root_at c.in-Ok.top (c.args.root.level + 1)); finger = c.args.self.now.finger }) c.args.key c.args.val (Ok c.in-Ok-insert_at.answer) c.args.root.id c.in-Ok.top
    c.args.root.level c.requires.root refl (rw add-one refl) c.requires.whole c.in-Ok.ensures.done (rw add-one at c.in-Ok-insert_at.ensures.inserts) (rw add-one at c.in-Ok-insert_at.ensures.retired) g.met.K.Ord.total (full_root g.K.Ord.cmp c.args.self.now.arenas c.args.root.id c.args.root.level (rw c.requires.root at c.requires.whole) (λ gone. let childless = c.if-is_childless.ensures.1 (rw c.node.ensures at gone) in cc) c.requires.full) c.requires.spent c.requires.new)

pub returns-in-Duplicate : goal.returns-in-Duplicate
returns-in-Duplicate g c =
    rw c.in-Duplicate.is at
    (stored_raised g.K.Ord.cmp _ c.args.self.now (record { arenas = c.split_root_at.new.arenas; root = Some (root_at c.in-Ok.top (suc c.args.root.level)); finger = c.args.self.now.finger }) (record { arenas = c.insert_at.new.arenas; root = Some (root_at c.in-Ok.top (c.args.root.level + 1)); finger = c.args.self.now.finger }) c.args.key c.args.val (Ok c.in-Ok-insert_at.answer) c.args.root.id c.in-Ok.top
    c.args.root.level c.requires.root refl (rw add-one refl) c.requires.whole c.in-Ok.ensures.done (rw add-one at c.in-Ok-insert_at.ensures.inserts) (rw add-one at c.in-Ok-insert_at.ensures.retired) g.met.K.Ord.total (full_root g.K.Ord.cmp c.args.self.now.arenas c.args.root.id c.args.root.level (rw c.requires.root at c.requires.whole) (λ gone. let childless = c.if-is_childless.ensures.1 (rw c.node.ensures at gone) in cc) c.requires.full) c.requires.spent c.requires.new)

-- the new root has room
pub unreachable-requires : goal.unreachable-requires
unreachable-requires g c =
    let takes = takes_it g.K.Ord.cmp _ c.args.self.now (record { arenas = c.split_root_at.new.arenas; root = Some (root_at c.in-Ok.top (suc c.args.root.level)); finger = c.args.self.now.finger }) (record { arenas = c.insert_at.new.arenas; root = Some (root_at c.in-Ok.top (suc c.args.root.level)); finger = c.args.self.now.finger })
    c.args.key c.args.val (Ok c.in-Ok-insert_at.answer) c.args.root.id c.in-Ok.top c.args.root.level c.requires.root refl refl c.requires.whole c.in-Ok.ensures.done (rw add-one at c.in-Ok-insert_at.ensures.inserts) (rw add-one at c.in-Ok-insert_at.ensures.retired) in
    let no = rw c.in-Full.is at takes in
    cc

pub returns-then-is_childless : goal.returns-then-is_childless
returns-then-is_childless g c = c.store_first.ensures _
