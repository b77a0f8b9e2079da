use Rattle.std.proofs.Common.{◌≡◌, ◌≤◌, length, refl, sub-one}
use Rattle.tree_split.proofs.Common.{fits, full_room, keyed, limit, not_full_room}
use Rattle.tree_split.proofs.NodeRooms.{above_kind, child_used, parent_stays, parent_used, separator_is_new, split_anew, split_in_two, two_up}
use Rattle.tree_split.proofs.node_split.split_child.Goals as goal

pub node-requires : goal.node-requires
node-requires g c =
    let up = two_up c.requires.part.0 c.requires.part.1 in
    (search fits, parent_used g.met.K.Ord.total c.args.target (rw up.1 at c.requires.part.2) c.requires.child)

pub node-requires-2 : goal.node-requires-2
node-requires-2 g c =
    let up = two_up c.requires.part.0 c.requires.part.1 in
    (search fits, child_used g.met.K.Ord.total c.args.target (rw up.1 at c.requires.part.2) c.requires.child)

pub node_mut-requires : goal.node_mut-requires
node_mut-requires g c =
    let up = two_up c.requires.part.0 c.requires.part.1 in
    (search fits, child_used g.met.K.Ord.total c.args.target (rw up.1 at c.requires.part.2) c.requires.child)

pub returns-in_default-clause-done : goal.returns-in_default-clause-done
returns-in_default-clause-done g c level deep part =
    let up = two_up level deep in
    let read : c.node-2.result.now ≡ c.node_mut.result.now = cc (c.node-2.ensures, c.node_mut.ensures.value) in
    let few : length (keyed c.node_mut.result.now).entries ≤ limit g.row.LEN = rw read at c.in_default.ensures.place in
    rw up.1
    (split_anew g.met.K.Ord.total c.args.target (rw up.1 at part) c.requires.child c.node_mut.result.now _ c.node_mut.ensures.value c.rebuild.ensures
    c.place_to_part.ensures.sound.is_len few)

pub returns-then-full-clause-done : goal.returns-then-full-clause-done
returns-then-full-clause-done g c level deep part =
    let up = two_up level deep in
    rw up.1 (record {
      full = rw c.node.ensures (full_room c.node.result.now (c.is_full-full.ensures.0 c.if-full.true));
      many = rw (sub-one, c.node-2.ensures) c.in-Some.ensures.place.0;
      unchanged = record { leaves = λ n. refl; nodes = λ n. refl };
    })

pub node_mut-requires-2 : goal.node_mut-requires-2
node_mut-requires-2 g c =
    let up = two_up c.requires.part.0 c.requires.part.1 in
    let part = rw up.1 at c.requires.part.2 in
    let stays = parent_stays g.met.K.Ord.total c.args.target part c.requires.child c.in_ok-separator.ensures.done in
    (search fits, rw stays (parent_used g.met.K.Ord.total c.args.target part c.requires.child))

pub put_node-requires : goal.put_node-requires
put_node-requires g c =
    let up = two_up c.requires.part.0 c.requires.part.1 in
    let part = rw up.1 at c.requires.part.2 in
    let d = c.in_ok-separator.ensures.done in
    let here = c.node_mut-2.ensures.value in
    let same : c.node.result.now ≡ c.node_mut-2.result.now = cc (parent_stays g.met.K.Ord.total c.args.target part c.requires.child d, c.node.ensures, here) in
    let some = not_full_room c.node.result.now (λ full. cc (c.is_full-full.ensures.1 full, c.if-full.false)) in
    let kind = above_kind g.met.K.Ord.total c.args.target part c.requires.child d _ here in
    (search fits, (kind, (separator_is_new g.met.K.Ord.total c.args.target part c.requires.child d _ here, rw same at some)))

pub returns-clause-done : goal.returns-clause-done
returns-clause-done g c level deep part =
    let up = two_up level deep in
    let part' = rw up.1 at part in
    let d = c.in_ok-separator.ensures.done in
    let here = c.node_mut-2.ensures.value in
    let same : c.node.result.now ≡ c.node_mut-2.result.now = cc (parent_stays g.met.K.Ord.total c.args.target part' c.requires.child d, c.node.ensures, here) in
    let some = not_full_room c.node.result.now (λ full. cc (c.is_full-full.ensures.1 full, c.if-full.false)) in
    rw up.1
    (split_in_two g.met.K.Ord.total c.args.target part' c.requires.child d _ here _ c.put_node.ensures (rw same at some)
    c.node-2.result.now c.node-2.ensures c.in-Some.ensures.place.1 c.place_to_part.ensures.sound c.in-Some.ensures.rule)
