use Rattle.tree_cut.proofs.Common.{rules, ap, ◌∙◌, length, fits}
use Rattle.tree_cut.proofs.Ends.{beside_used, first_used, last_used, spliced_once, spliced_walk, dropped}
use Rattle.tree_cut.proofs.dropping.drop_part.Goals as goal

pub leaf-requires : goal.leaf-requires
leaf-requires g c = (search rules, (search fits, first_used c.requires.part c.end_leaf-first.ensures c.end_leaf-last.ensures))

pub leaf-requires-2 : goal.leaf-requires-2
leaf-requires-2 g c = (search rules, (search fits, last_used c.requires.part c.end_leaf-first.ensures c.end_leaf-last.ensures))

pub splice_link-requires : goal.splice_link-requires
splice_link-requires g c =
    let used = beside_used c.requires.part c.end_leaf-first.ensures c.end_leaf-last.ensures c.leaf.ensures c.leaf-2.ensures c.prev-left.ensures c.next-right.ensures in
    (search fits, used)

pub free_part-requires : goal.free_part-requires
free_part-requires g c =
    let once = spliced_once c.requires.part c.end_leaf-first.ensures c.end_leaf-last.ensures c.leaf.ensures c.leaf-2.ensures c.prev-left.ensures c.next-right.ensures
    c.splice_link.ensures in
    (search rules, (search fits, (c.requires.kind, once)))

pub returns-clause-dropped : goal.returns-clause-dropped
returns-clause-dropped g c =
    dropped c.requires.part c.end_leaf-first.ensures c.end_leaf-last.ensures c.leaf.ensures c.leaf-2.ensures c.prev-left.ensures c.next-right.ensures
    c.splice_link.ensures c.free_part.ensures.frees

pub returns-clause-gone : goal.returns-clause-gone
returns-clause-gone g c =
    let walked = spliced_walk c.requires.part c.end_leaf-first.ensures c.end_leaf-last.ensures c.leaf.ensures c.leaf-2.ensures c.prev-left.ensures c.next-right.ensures
    c.splice_link.ensures in
    c.free_part.ensures.gone ∙ ap length walked
