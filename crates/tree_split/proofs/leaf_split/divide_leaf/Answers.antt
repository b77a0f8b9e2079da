use Rattle.std.proofs.Common.{rules, ◌≡◌, ◌∙◌, drop, refl, sym, take}
use Rattle.tree_split.proofs.Common.{fits, in_order, on_err, unchanged_by_keeping}
use Rattle.tree_split.proofs.LeafSplits.{chain_through, leaf_divided, room_after_write}
use Rattle.tree_split.proofs.leaf_split.divide_leaf.Goals as goal

pub new-low-requires : goal.new-low-requires
new-low-requires g c = (search fits, (c.requires.sound c.requires.part.stands.leaf c.requires.part.stands.here).is_len)

pub leaf_mut-requires : goal.leaf_mut-requires
leaf_mut-requires g c = (search fits, (search fits, rw (c.in_ok-reserve.ensures.0.leaves.slots, c.requires.part.stands.here) refl))

pub cut_low-requires : goal.cut_low-requires
cut_low-requires g c =
    let was = sym ((unchanged_by_keeping _ _ c.in_ok-reserve.ensures.0).leaves c.args.target) ∙ c.leaf_mut.ensures.value in
    let sound = rw (← c.array_mut.ensures.value) at (c.requires.sound c.leaf_mut.result.now was) in
    let whole = rw (← c.array_mut.ensures.value) at (c.requires.whole c.leaf_mut.result.now was) in
    (search rules, (sound, (whole, c.new-low.ensures)))

pub add_before-requires : goal.add_before-requires
add_before-requires g c =
    let part = c.requires.part in
    let keeps = c.in_ok-reserve.ensures.0 in
    let here = c.leaf_mut.ensures.value in
    let chain = chain_through _ _ c.args.target c.args.count _ c.cut_low.new.array keeps here part.front part.back part.chain in
    (search (rules, c.requires-raw), (search (fits, c.requires-raw), (part.front, part.back, chain)))

pub unreachable-requires : goal.unreachable-requires
unreachable-requires g c =
    let reserved = c.in_ok-reserve.ensures in
    c.in_default.ensures.0.no_room (room_after_write _ _ c.args.target c.args.count _ c.cut_low.new.array reserved.0 c.leaf_mut.ensures.value reserved.1)

pub returns-clause-done : goal.returns-clause-done
returns-clause-done g c =
    let part = c.requires.part in
    let high : c.cut_low.new.array ≡ in_order (drop c.args.count c.leaf_mut.result.now.array.entries) = rw c.array_mut.ensures.value at c.cut_low.ensures.high in
    let low : c.of.result.array ≡ in_order (take c.args.count c.leaf_mut.result.now.array.entries) = rw c.array_mut.ensures.value at (c.of.ensures.array ∙ c.cut_low.ensures.low) in
    leaf_divided _ _ c.args.target c.args.count c.leaf_mut.result.now _ c.in_ok-reserve.ensures.0 c.leaf_mut.ensures.value _ _ _ high low c.in-Ok.ensures
    part.front part.back part.chain

pub returns-in_err-reserve-clause-err : goal.returns-in_err-reserve-clause-err
returns-in_err-reserve-clause-err g c = on_err c.from_residual.result (unchanged_by_keeping _ _ c.in_err-reserve.ensures.0)
