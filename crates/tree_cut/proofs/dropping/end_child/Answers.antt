use Rattle.tree_cut.proofs.Common.{◌+◌, ◌∙◌, Some, take, arith, refl, drop_all, keyed, node_children, unbounded, cut_whole}
use Rattle.tree_cut.proofs.Nodes.{length-turns}
use Rattle.tree_cut.proofs.dropping.end_child.Goals as goal

pub returns-in-First-clause-child : goal.returns-in-First-clause-child
returns-in-First-clause-child g c = rw c.in-First.is (_, cut_whole _ 0 _ c.child_at.ensures.child)

pub returns-in-Last-clause-child : goal.returns-in-Last-clause-child
returns-in-Last-clause-child g c =
    let node = c.args.node.now in
    let count = c.keyed_count.result in
    let long = length-turns (keyed node).entries (unbounded node) c.requires in
    rw c.in-Last.is (
      take count (node_children (Some node)),
      cut_whole _ count _ c.child_at-in-Last.ensures.child
          ∙ rw (drop_all (count + 1) (node_children (Some node)) (omega (arith, long, c.keyed_count.ensures.count))) refl,
    )
