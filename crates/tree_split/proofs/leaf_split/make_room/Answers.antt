use Rattle.std.proofs.Common.{rules, ◌≡◌, ◌∙◌, ◌<◌, ◌==◌, ℕ, length, Option, None, Some, refl, ap}
use Rattle.std.specs.Option.{option_eq}
use Rattle.tree_split.proofs.Common.{fits, full_room, is_at, limit, not_full_room, on_err}
use Rattle.tree_node.specs.declared.node.NodeOf.TheVariants.{Leaf}
use Rattle.tree_split.proofs.LeafRooms.{entries_kept, entries_parted, gives_all, leaf_room_by_rebuild, leaf_used, may_split}
use Rattle.tree_split.proofs.leaf_split.make_room.Goals as goal

pub node-requires : goal.node-requires
node-requires g c = (search fits, search rules)

pub leaf-requires : goal.leaf-requires
leaf-requires g c = (search fits, (search fits, leaf_used g.met.K.Ord.total c.args.arenas.now c.args.id c.args.target c.args.key.now c.requires.part c.requires.child))

pub leaf_mut-requires : goal.leaf_mut-requires
leaf_mut-requires g c = (search fits, (search fits, leaf_used g.met.K.Ord.total c.args.arenas.now c.args.id c.args.target c.args.key.now c.requires.part c.requires.child))

pub returns-in_default-low_count-clause-done : goal.returns-in_default-low_count-clause-done
returns-in_default-low_count-clause-done g c =
    let made = leaf_room_by_rebuild g.met.K.Ord.total c.args.target c.args.key.now c.requires.part c.requires.child c.leaf_mut.ensures.value c.leaf.ensures c.array.ensures
    c.in_default-low_count.ensures.cut c.low_count.ensures.sound in
    rw (c.rebuild.ensures, c.array_mut.ensures.value) (made, c.requires.child)

pub returns-in_default-low_count-clause-shares : goal.returns-in_default-low_count-clause-shares
returns-in_default-low_count-clause-shares g c = λ made.
    rw (c.rebuild.ensures, c.array_mut.ensures.value)
    (entries_kept g.met.K.Ord.total c.args.target c.args.key.now c.requires.part c.requires.child c.leaf_mut.ensures.value c.leaf.ensures c.array.ensures
    c.in_default-low_count.ensures.cut)

pub returns-in_default-low_count-clause-last : goal.returns-in_default-low_count-clause-last
returns-in_default-low_count-clause-last g c = λ last beyond. (refl, last)

pub returns-then-full-clause-done : goal.returns-then-full-clause-done
returns-then-full-clause-done g c =
    let here = c.node.ensures ∙ ap Some c.in-Leaf.is in
    let many : limit g.row.LEN < length c.leaf.result.now.array.entries = rw c.array.ensures at c.in-Some.ensures.cut.0 in
    record {
      full = rw here (full_room (Leaf c.in-Leaf.node) (c.is_full-full.ensures.0 c.if-full.true));
      many = rw c.leaf.ensures many;
      unchanged = record { leaves = λ n. refl; nodes = λ n. refl };
    }

pub split_leaf-requires : goal.split_leaf-requires
split_leaf-requires g c =
    let some = not_full_room (Leaf c.in-Leaf.node) (λ full. cc (c.is_full-full.ensures.1 full, c.if-full.false)) in
    let here = c.node.ensures ∙ ap Some c.in-Leaf.is in
    let may = may_split c.args.arenas.now c.args.id c.args.target c.leaf.ensures c.array.ensures c.low_count.ensures.sound c.in-Some.ensures.cut.1 c.in-Some.ensures.whole here some in
    (search rules, (search rules, (c.requires.part, (c.requires.child, may))))

-- the leaf is the unbounded child where the node says so
told_last : (found : Option ℕ) (child : ℕ) → option_eq ◌==◌ found (Some child) ≡ is_at found child
told_last None child = refl
told_last (Some last) child = refl

pub returns-clause-done : goal.returns-clause-done
returns-clause-done g c =
    c.in_ok-home.ensures.done
    (gives_all g.met.K.Ord.total c.args.target c.args.key.now c.requires.part c.requires.child c.leaf.ensures c.array.ensures (c.node.ensures ∙ ap Some c.in-Leaf.is)
    (c.eq-last.ensures ∙ told_last c.in-Leaf.node.unbounded_child c.args.target) c.in-Some.ensures.rule c.low_count.ensures.sound)

pub returns-clause-shares : goal.returns-clause-shares
returns-clause-shares g c = λ made.
    let some = not_full_room (Leaf c.in-Leaf.node) (λ full. cc (c.is_full-full.ensures.1 full, c.if-full.false)) in
    entries_parted g.met.K.Ord.total c.args.target c.args.key.now c.requires.part c.requires.child c.leaf.ensures c.array.ensures (c.node.ensures ∙ ap Some c.in-Leaf.is)
    (c.eq-last.ensures ∙ told_last c.in-Leaf.node.unbounded_child c.args.target) c.in-Some.ensures.rule some c.split_leaf.new.arenas c.in_ok-home.ensures.shares

pub returns-clause-last : goal.returns-clause-last
returns-clause-last g c = c.in_ok-home.ensures.last

pub returns-in_err-home-clause-many : goal.returns-in_err-home-clause-many
returns-in_err-home-clause-many g c = on_err c.from_residual.result (rw (c.leaf.ensures, ← c.array.ensures) c.in-Some.ensures.cut.0)
