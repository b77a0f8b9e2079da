use Rattle.tree_insert.proofs.Common.{Arrivals, ContainsKey, Leaf, Slab, Updates-with_value, ap, children_fit, fits, get, on_err, refl, sym, unchanged_by_keeping, ◌∙◌}
use Rattle.port_calls.proofs.Replanted.{replants}
use Rattle.tree_node.proofs.Standing.{no_children}
use Rattle.port_calls.proofs.growth.replant.Goals as goal

pub new-leaf-requires : goal.new-leaf-requires
new-leaf-requires g c = (search fits, c.requires.len)

pub add_leaf-requires : goal.add_leaf-requires
add_leaf-requires g c = search fits

pub node_mut-requires : goal.node_mut-requires
node_mut-requires g c =
    let kept = unchanged_by_keeping c.args.arenas.now c.reserve.new.self c.in_ok-reserve.ensures.0 in
    (search fits, rw (c.add_leaf.ensures.nodes, kept.nodes c.args.root) (no_children _ c.requires.retired).0)

pub returns-clause-done : goal.returns-clause-done
returns-clause-done g c =
    let kept = unchanged_by_keeping c.args.arenas.now c.reserve.new.self c.in_ok-reserve.ensures.0 in
    let leaf = c.in-Ok.ensures.leaves in
    let there : ContainsKey c.add_leaf.new.self.nodes c.args.root = rw (c.add_leaf.ensures.nodes, kept.nodes c.args.root) (no_children _ c.requires.retired).0 in
    let node = Updates-with_value c.add_leaf.new.self.nodes c.args.root (Leaf c.new.result) there in (
      refl,
      replants g.K.Ord.cmp c.args.arenas.now _ c.args.root c.in-Ok.added (Leaf c.new.result) c.new-leaf.result
          node.changed tt (ap (λ (a : Arrivals _ _). a.entries) c.new.ensures.keyed) c.new.ensures.unbounded
          _ leaf c.new-leaf.ensures.array c.new-leaf.ensures.prev c.new-leaf.ensures.next (sym (kept.leaves c.in-Ok.added) ∙ leaf.was_free)
          (λ n differs. node.others n differs ∙ ap (λ (s : Slab _). get s n) c.add_leaf.ensures.nodes ∙ kept.nodes n)
          (λ n differs. leaf.updates.others n differs ∙ kept.leaves n),
    )

pub returns-in_err-reserve-clause-err : goal.returns-in_err-reserve-clause-err
returns-in_err-reserve-clause-err g c = on_err c.from_residual.result (unchanged_by_keeping _ _ c.in_err-reserve.ensures.0)

pub returns-in_err-reserve-clause-places : goal.returns-in_err-reserve-clause-places
returns-in_err-reserve-clause-places g c = λ had. absurd (c.in_err-reserve.ensures.1 had)

pub drop-node_mut-requires : goal.drop-node_mut-requires
drop-node_mut-requires g c = search children_fit

pub drop-requires-2 : goal.drop-requires-2
drop-requires-2 g c = search children_fit
