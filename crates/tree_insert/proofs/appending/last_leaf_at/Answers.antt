use Rattle.tree_insert.proofs.Common.{fits, inr, ◌≡◌}
use Rattle.tree_insert.proofs.Lasts.{some_found}
use Rattle.tree_insert.proofs.appending.last_leaf_at.Goals as goal

pub edge_at-requires : goal.edge_at-requires
edge_at-requires g c = (search fits, (search fits, (c.requires.node, c.requires.stands)))

pub leaf-requires : goal.leaf-requires
leaf-requires g c = (search fits, (search fits, c.in_ok-end.ensures.there))

pub returns-clause-last : goal.returns-clause-last
returns-clause-last g c leaf is =
    let same : c.in_ok-end.end.leaf ≡ leaf = cc in
    let some = some_found c.leaf.ensures (λ none. cc (c.if-is_empty.false, c.is_empty.ensures.1 (rw c.array.ensures none))) in
    rw (← same) (c.in_ok-end.ensures.below, some)

pub returns-then-is_empty-clause-none : goal.returns-then-is_empty-clause-none
returns-then-is_empty-clause-none g c none =
    inr (c.in_ok-end.end.leaf, c.in_ok-end.ensures.below, rw (c.leaf.ensures, ← c.array.ensures) (c.is_empty.ensures.0 c.if-is_empty.true))
