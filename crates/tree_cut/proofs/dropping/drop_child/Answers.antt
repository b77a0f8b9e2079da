use Rattle.std.proofs.Common.{◌≡◌, ℕ, ◌<◌, List, length, slice_get, None, inl, inr}
use Rattle.std.proofs.lemmas.Option.{slice_get_cases}
use Rattle.tree_cut.proofs.Common.{rules, ◌-◌, arith, refl, keyed, fits}
use Rattle.tree_cut.proofs.Nodes.{node_at, node_used}
use Rattle.tree_cut.proofs.OneChild.{child_at}
use Rattle.tree_cut.proofs.dropping.drop_child.Goals as goal

-- a keyed child is at each place before the last
none_past : {X : Type 0} (xs : List X) (place : ℕ) → place < length xs → slice_get xs place ≡ None → ⊥
none_past xs place within none = elim (slice_get_cases xs place).1 [ inl there ↦ cc (there.2, none) | inr past ↦ omega (arith, within, past.0) ]

pub node-node-requires : goal.node-node-requires
node-node-requires g c = search (rules, node_used g.K.Ord.cmp c.args.level c.args.arenas.now c.args.id c.requires.node c.requires.part.stands)

pub unreachable-requires : goal.unreachable-requires
unreachable-requires g c =
    none_past (keyed c.node-node.result.now).entries c.args.place (rw c.node-node.ensures at c.requires.place) (rw c.in_default.is at c.slot_at.ensures)

pub child_at-child-requires : goal.child_at-child-requires
child_at-child-requires g c =
    let node = node_at g.K.Ord.cmp c.args.level c.args.arenas.now c.args.id _ c.requires.node c.requires.part.stands c.node-node.ensures in
    let within = rw c.node-node.ensures at c.requires.place in
    (search fits, (node.has_last, omega (arith, within)))

pub drop_part-gone-requires : goal.drop_part-gone-requires
drop_part-gone-requires g c =
    let here = child_at g.met.K.Ord.total c.args.level c.requires.node c.requires.part c.node-node.ensures c.child_at-child.ensures.child in
    (search rules, (search fits, (c.child_at-child.ensures.kind (c.args.level - 1) here.kind, here.part)))

pub take_keyed-requires : goal.take_keyed-requires
take_keyed-requires g c =
    let here = child_at g.met.K.Ord.total c.args.level c.requires.node c.requires.part c.node-node.ensures c.child_at-child.ensures.child in
    let found = rw c.in-Some.is at c.slot_at.ensures in
    (search rules, (search fits, rw (here.stays c.drop_part-gone.ensures.dropped, found.1) refl))

pub returns : goal.returns
returns g c =
    let here = child_at g.met.K.Ord.total c.args.level c.requires.node c.requires.part c.node-node.ensures c.child_at-child.ensures.child in
    let found = rw c.in-Some.is at c.slot_at.ensures in
    let dropped = here.drops found c.drop_part-gone.ensures.dropped c.take_keyed.ensures.nodes c.take_keyed.ensures.leaves in
    record { drops = rw c.drop_part-gone.ensures.gone dropped.0; no_empty = dropped.1 }
