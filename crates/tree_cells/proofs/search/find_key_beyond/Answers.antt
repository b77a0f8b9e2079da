use Rattle.tree_cells.proofs.Lemmas.{sym, ◌∙◌, rules, greater_from_test, beyond_last, stands_some}
use Rattle.tree_cells.proofs.search.find_key_beyond.Goals as goal

pub key-requires : goal.key-requires
key-requires g c = (search rules, stands_some c.requires.in_order _ _ c.last-last.ensures)

pub returns-then-is_gt : goal.returns-then-is_gt
returns-then-is_gt g c =
    beyond_last g.met.K.Ord.total record { in_order = c.requires.in_order; order = c.args.order.whole; some = c.if-order-gt0.true } _ c.last-last.ensures c.key.ensures.1 (sym c.cmp.ensures ∙ greater_from_test c.cmp.result (sym c.if-is_gt.ensures))
