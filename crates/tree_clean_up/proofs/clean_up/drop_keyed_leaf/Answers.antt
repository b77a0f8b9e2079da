use Rattle.tree_clean_up.proofs.Common.{fits, refl, rules, same_array_used, ◌∙◌}
use Rattle.tree_clean_up.proofs.Drops.{leaf_dropped}
use Rattle.tree_clean_up.proofs.clean_up.drop_keyed_leaf.Goals as goal

pub remove_leaf-requires : goal.remove_leaf-requires
remove_leaf-requires g c =
    (search fits, (search fits, same_array_used _ _ (c.unlink.ensures.splices.kept c.args.child) (rw c.unlink.ensures.here refl)))

pub take_keyed-requires : goal.take_keyed-requires
take_keyed-requires g c = (search rules, (search fits, rw (c.remove_leaf.ensures.nodes ∙ c.unlink.ensures.splices.nodes) c.requires.slot))

pub returns : goal.returns
returns g c = record {
  between = c.remove_leaf.new.self;
  dropped = leaf_dropped _ _ _ c.args.child _ c.unlink.ensures c.remove_leaf.ensures.leaves c.remove_leaf.ensures.nodes _ _ c.requires.linked.2;
  takes = c.take_keyed.ensures.nodes;
  leaves = c.take_keyed.ensures.leaves;
}
