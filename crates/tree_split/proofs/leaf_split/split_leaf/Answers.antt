use Rattle.std.proofs.Common.{rules, ◌≡◌, ◌∙◌, refl, sym, arith}
use Rattle.tree_split.proofs.Common.{ContainsKey, fits}
use Rattle.tree_split.proofs.LeafRooms.{home_by_split, last_by_split, leaf_placed, leaf_room_by_split, leaf_used, parent_kind, parted_so, separator_is_new}
use Rattle.tree_split.proofs.LeafSplits.{entries_given}
use Rattle.tree_split.proofs.leaf_split.split_leaf.Goals as goal

pub leaf-requires : goal.leaf-requires
leaf-requires g c =
    (search fits, (search fits, leaf_used g.met.K.Ord.total c.args.arenas.now c.args.id c.args.target c.args.key.now c.requires.part c.requires.child))

pub separator_at-requires : goal.separator_at-requires
separator_at-requires g c =
    let here = rw c.leaf.ensures at c.requires.cut in
    (search rules, rw c.array.ensures (omega (arith, here.some, here.within)))

pub divide_leaf-requires : goal.divide_leaf-requires
divide_leaf-requires g c =
    let placed = leaf_placed g.met.K.Ord.total c.args.arenas.now c.args.id c.args.target c.args.key.now c.requires.part c.requires.child in
    (search fits, (search fits, (placed, (c.requires.sound, c.requires.whole))))

pub node_mut-requires : goal.node_mut-requires
node_mut-requires g c =
    let there : ContainsKey c.divide_leaf.new.arenas.nodes c.args.id = rw (c.in_ok-low.ensures.done.nodes c.args.id, c.requires.part.stands.here) refl in
    (search (fits, c.requires-raw), there)

pub put_leaf-requires : goal.put_leaf-requires
put_leaf-requires g c =
    let d = c.in_ok-low.ensures.done in
    let p = parted_so c.requires.part c.requires.child d c.requires.sound c.leaf.ensures c.array.ensures c.in_ok-separator.ensures c.requires.cut in
    let here = c.node_mut.ensures.value in
    let absent = separator_is_new g.met.K.Ord.total p _ here in
    (search (fits, c.requires-raw), (parent_kind g.met.K.Ord.total p _ here, (absent, c.requires.room _ (sym (d.nodes c.args.id) ∙ here))))

pub returns-clause-done : goal.returns-clause-done
returns-clause-done g c = λ gives.
    let p = parted_so c.requires.part c.requires.child c.in_ok-low.ensures.done c.requires.sound c.leaf.ensures c.array.ensures c.in_ok-separator.ensures c.requires.cut in
    let here = c.node_mut.ensures.value in
    let home = home_by_split g.met.K.Ord.total p _ here _ c.put_leaf.ensures in
    (leaf_room_by_split g.met.K.Ord.total p _ here _ c.put_leaf.ensures gives, rw c.side_for-home.ensures home)

pub returns-clause-shares : goal.returns-clause-shares
returns-clause-shares g c = entries_given c.in_ok-low.ensures.done c.requires.cut.within

pub returns-clause-high : goal.returns-clause-high
returns-clause-high g c = λ leaf is.
    let d = c.in_ok-low.ensures.done in
    let same : d.high ≡ leaf = cc (d.high_here, is) in
    rw (d.was, ← same) d.high_is

pub returns-clause-last : goal.returns-clause-last
returns-clause-last g c =
    let p = parted_so c.requires.part c.requires.child c.in_ok-low.ensures.done c.requires.sound c.leaf.ensures c.array.ensures c.in_ok-separator.ensures c.requires.cut in
    rw c.side_for-home.ensures (last_by_split g.met.K.Ord.total p _ c.node_mut.ensures.value _ c.put_leaf.ensures)
