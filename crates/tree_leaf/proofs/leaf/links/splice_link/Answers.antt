use Rattle.std.proofs.Common.{refl, ◌∙◌, rules}
use Rattle.tree_leaf.proofs.Chains.{same_array_used}
use Rattle.tree_leaf.proofs.Splices.{array_kept, arrays_kept, chain_spliced}
use Rattle.tree_leaf.proofs.leaf.links.splice_link.Goals as goal

pub set_prev-requires : goal.set_prev-requires
set_prev-requires g c = (search rules, λ n is. same_array_used _ _ (array_kept _ _ _ _ c.set_next.ensures.changes (λ leaf. refl) c.requires.left n) (c.requires.right n is))

pub returns : goal.returns
returns g c =
    let next = c.set_next.ensures in
    let prev = c.set_prev.ensures in
    record {
      nodes = prev.nodes ∙ next.nodes;
      room = record { counted = prev.room.counted ∙ next.room.counted; capacity = prev.room.capacity ∙ next.room.capacity };
      between = _;
      next_changed = next.changes;
      prev_changed = prev.changes;
      kept = arrays_kept _ _ _ _ _ next.changes prev.changes c.requires.left c.requires.right;
      chained = chain_spliced _ _ _ _ _ next.changes prev.changes c.requires.left c.requires.right;
    }
