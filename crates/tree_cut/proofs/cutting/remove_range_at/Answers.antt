use Rattle.tree_cut.proofs.Common.{rules, None, arith, sym, ap, length, get, keyed, fits, no_children, retired_at}
use Rattle.tree_node.proofs.NodeKinds.{node_used as node_there}
use Rattle.tree_cut.proofs.Nodes.{at_node, node_at, node_used, childless_cut, standing, length-turns}
use Rattle.tree_cut.proofs.cutting.remove_range_at.Goals as goal

pub node-requires : goal.node-requires
node-requires g c = search (rules, node_there c.args.level c.requires.node c.args.arenas.now c.args.id c.requires.part)

pub returns-then-is_childless-clause-cuts : goal.returns-then-is_childless-clause-cuts
returns-then-is_childless-clause-cuts g c =
    let told = retired_at g.K.Ord.cmp c.args.arenas.now c.args.id c.args.level c.requires.node _ c.node.ensures in
    childless_cut g.K.Ord.cmp _ _ c.args.level c.args.arenas.now c.args.id c.requires.node (told.0 (c.is_childless.ensures.0 c.if-is_childless.true))

pub returns-then-is_childless-clause-left : goal.returns-then-is_childless-clause-left
returns-then-is_childless-clause-left g c =
    ap length (sym (no_children (get c.args.arenas.now.nodes c.args.id) (rw c.node.ensures (c.is_childless.ensures.0 c.if-is_childless.true))).1)

pub cut_part-pairs-requires : goal.cut_part-pairs-requires
cut_part-pairs-requires g c =
    let part = standing g.K.Ord.cmp c.requires.node c.requires.part c.node.ensures c.is_childless.ensures.1 c.if-is_childless.false in
    (search rules, (search fits, (at_node c.args.level c.args.id c.requires.node, part)))

pub node-requires-2 : goal.node-requires-2
node-requires-2 g c =
    let part = standing g.K.Ord.cmp c.requires.node c.requires.part c.node.ensures c.is_childless.ensures.1 c.if-is_childless.false in
    let stands = c.cut_part-pairs.ensures.stands None None part.stands in
    search (rules, node_used g.K.Ord.cmp c.args.level c.cut_part-pairs.new.arenas c.args.id c.requires.node stands)

pub returns-clause-left : goal.returns-clause-left
returns-clause-left g c =
    let part = standing g.K.Ord.cmp c.requires.node c.requires.part c.node.ensures c.is_childless.ensures.1 c.if-is_childless.false in
    let stands = c.cut_part-pairs.ensures.stands None None part.stands in
    let node = node_at g.K.Ord.cmp c.args.level c.cut_part-pairs.new.arenas c.args.id _ c.requires.node stands c.node-2.ensures in
    rw c.node-2.ensures (omega (arith, length-turns (keyed c.node-2.result.now).entries _ node.has_last, c.keyed_count.ensures.count))

pub returns-clause-retired : goal.returns-clause-retired
returns-clause-retired g c retired =
    let told = retired_at g.K.Ord.cmp c.args.arenas.now c.args.id c.args.level c.requires.node _ c.node.ensures in
    absurd (cc (c.is_childless.ensures.1 (told.1 retired), c.if-is_childless.false))
