use Rattle.std.proofs.Common.{refl, sym, ◌∙◌}
use Rattle.std.proofs.lemmas.Slice.Zip.{AllZip-long}
use Rattle.tree_node.proofs.Common.{fits}
use Rattle.tree_index.proofs.index.TreeIndexOf.try_clone.Goals as goal

pub with_room-requires : goal.with_room-requires
with_room-requires g c = (search fits, c.self.invariant.0)

pub append_clones-requires : goal.append_clones-requires
append_clones-requires g c = (search fits, (c.self.invariant.0, (c.in_ok-tree.ensures.whole, (rw c.in_ok-tree.ensures.root refl, (c.self.invariant.1, rw (c.len.ensures, ← c.self.view_is) at c.in_ok-tree.ensures.room)))))

pub drop-tree-requires : goal.drop-tree-requires
drop-tree-requires g c = search fits

pub invariant_of-result : goal.invariant_of-result
invariant_of-result g c =
    let made = c.in_ok-append_clones.ensures in
    (c.self.invariant.0, made.whole, c.self.invariant.2 ∙ sym (AllZip-long _ _ _ made.clones))

pub returns : goal.returns
returns g c = rw (← c.self.view_is) c.in_ok-append_clones.ensures.clones

pub len-requires : goal.len-requires
len-requires g c = search fits
