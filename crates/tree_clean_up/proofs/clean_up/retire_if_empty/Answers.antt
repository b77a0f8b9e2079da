use Rattle.tree_clean_up.proofs.Common.{fits, refl, rules, same_array_used, ◌∙◌}
use Rattle.tree_clean_up.proofs.EmptyNodes.{emptied}
use Rattle.tree_clean_up.proofs.Drops.{leaf_dropped}
use Rattle.tree_clean_up.proofs.clean_up.retire_if_empty.Goals as goal

pub remove_leaf-requires : goal.remove_leaf-requires
remove_leaf-requires g c =
    (search fits, (search fits, same_array_used _ _ (c.unlink.ensures.splices.kept c.in-Some.last) (rw c.unlink.ensures.here refl)))

pub take_unbounded-requires : goal.take_unbounded-requires
take_unbounded-requires g c = (search rules, (search fits, rw (c.remove_leaf.ensures.nodes ∙ c.unlink.ensures.splices.nodes) (rw c.requires.stands.here refl)))

pub returns : goal.returns
returns g c =
    let only = rw c.in-Some.is at c.only_retired.ensures in
    emptied g.K.Ord.cmp c.args.arenas.now c.take_unbounded.new.arenas c.args.id c.in-Some.last c.take_unbounded.result c.requires only (record {
      between = c.remove_leaf.new.self;
      dropped = leaf_dropped _ _ _ c.in-Some.last _ c.unlink.ensures c.remove_leaf.ensures.leaves c.remove_leaf.ensures.nodes c.requires.front c.requires.back (rw only.0 at c.requires.chain);
      takes = c.take_unbounded.ensures.nodes;
      leaves = c.take_unbounded.ensures.leaves;
    })
