use Rattle.std.proofs.Common.{rules, ◌≡◌, ◌<◌, length, refl}
use Rattle.tree_split.proofs.Common.{ContainsKey, fits, keyed, on_err, unchanged_by_keeping}
use Rattle.tree_split.proofs.NodeRooms.{node_divided, room_after_cut}
use Rattle.tree_split.proofs.node_split.divide_node.Goals as goal

pub node_mut-requires : goal.node_mut-requires
node_mut-requires g c =
    let there : ContainsKey c.reserve.new.self.nodes c.args.target = rw (c.in_ok-reserve.ensures.0.nodes.slots, c.requires.place.1) refl in
    (search fits, there)

pub cut-separator-requires : goal.cut-separator-requires
cut-separator-requires g c =
    let same : c.requires.place.0 ≡ c.node_mut.result.now =
    cc ((unchanged_by_keeping _ _ c.in_ok-reserve.ensures.0).nodes c.args.target, c.requires.place.1, c.node_mut.ensures.value) in
    let within : c.args.place < length (keyed c.node_mut.result.now).entries = rw same at c.requires.place.2 in
    (search rules, (c.requires.len, within))

pub unreachable-requires : goal.unreachable-requires
unreachable-requires g c =
    c.in_default.ensures.nodes.no_room (room_after_cut _ _ _ _ _ c.in_ok-reserve.ensures.0 c.node_mut.ensures.value c.in_ok-reserve.ensures.1)

pub returns-clause-done : goal.returns-clause-done
returns-clause-done g c =
    node_divided _ _ _ _ _ c.in_ok-reserve.ensures.0 c.node_mut.ensures.value _ _ _ _ _ c.cut-separator.ensures c.in-Ok.ensures.nodes c.in-Ok.ensures.leaves

pub returns-in_err-reserve-clause-err : goal.returns-in_err-reserve-clause-err
returns-in_err-reserve-clause-err g c = on_err c.from_residual.result (unchanged_by_keeping _ _ c.in_err-reserve.ensures.0)

pub returns-in_err-reserve-clause-places : goal.returns-in_err-reserve-clause-places
returns-in_err-reserve-clause-places g c places = absurd (c.in_err-reserve.ensures.1 places)
