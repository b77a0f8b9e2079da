use Rattle.std.proofs.Common.{◌≡◌, append-nil, refl, sym, ◌∙◌}
use Rattle.tree_node.proofs.Sizes.{fits}
use Rattle.tree_root.proofs.tree.Tree.from_sorted.Goals as goal

pub with_room-requires : goal.with_room-requires
with_room-requires g c = (search fits, c.requires.len)

pub append_sorted-requires : goal.append_sorted-requires
append_sorted-requires g c = (search fits, (c.requires.len, (c.in_ok-tree.ensures.whole, (rw c.in_ok-tree.ensures.root c.requires.ascending, rw (c.len.ensures ∙ c.args.pairs.ok.0) at c.in_ok-tree.ensures.room))))

pub returns-clause-pairs : goal.returns-clause-pairs
returns-clause-pairs g c = sym (append-nil _) ∙ c.in_ok-append_sorted.ensures.pairs ∙ rw c.in_ok-tree.ensures.root refl

pub returns-clause-packed : goal.returns-clause-packed
returns-clause-packed g c = c.in_ok-append_sorted.ensures.packed (rw c.in_ok-tree.ensures.root refl)

pub drop-tree-requires : goal.drop-tree-requires
drop-tree-requires g c = search fits
