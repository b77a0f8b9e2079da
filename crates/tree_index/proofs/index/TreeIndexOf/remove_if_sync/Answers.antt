use Rattle.std.proofs.Common.{◌∙◌, ap, arith, sym, length}
use Rattle.tree_node.proofs.Common.{fits}
use Rattle.std.specs.Fn.{FnOnceReturnsAt}
use Rattle.tree_root.specs.Trees.{pairs_of}
use Rattle.tree_index.proofs.Indexed.{index_kept, keeps_spare, one_less, pairs_ascend}
use Rattle.tree_index.proofs.Removed.{removes_surely}
use Rattle.tree_index.proofs.index.TreeIndexOf.remove_if_sync.Goals as goal

pub remove_if-removed-requires : goal.remove_if-removed-requires
remove_if-removed-requires g c = (search fits, (c.self.invariant.1, rw (← c.self.view_is) at c.requires))

pub overflow_sub-self : goal.overflow_sub-self
overflow_sub-self g c =
    let less = one_less g.met.K.Ord.total _ c.self.inside.tree _ c.args.key.now c.self.invariant.1 (rw c.if-removed.true at c.remove_if-removed.ensures) in
    omega (arith, less, c.self.invariant.2)

pub invariant_of-self : goal.invariant_of-self
invariant_of-self g c =
    let less = one_less g.met.K.Ord.total _ c.self.inside.tree _ c.args.key.now c.self.invariant.1 (rw c.if-removed.true at c.remove_if-removed.ensures) in
    (c.self.invariant.0, c.remove_if-removed.ensures.whole, omega (arith, less, c.self.invariant.2))

pub invariant_of-self-else-removed : goal.invariant_of-self-else-removed
invariant_of-self-else-removed g c =
    let takes = rw c.if-removed.false at c.remove_if-removed.ensures in
    (c.self.invariant.0, takes.whole, c.self.invariant.2 ∙ ap length (sym takes.pairs.1))

pub returns-then-removed-clause-pairs : goal.returns-then-removed-clause-pairs
returns-then-removed-clause-pairs g c = rw (← c.self.view_is) c.remove_if-removed.ensures.pairs

pub returns-else-removed-clause-pairs : goal.returns-else-removed-clause-pairs
returns-else-removed-clause-pairs g c = rw (← c.self.view_is) c.remove_if-removed.ensures.pairs

pub returns-then-removed-clause-spare : goal.returns-then-removed-clause-spare
returns-then-removed-clause-spare g c = rw (← c.self.view_is) (keeps_spare g.K.Ord.cmp _ c.self.inside.tree _ c.args.key.now c.remove_if-removed.result c.remove_if-removed.ensures)

pub returns-else-removed-clause-spare : goal.returns-else-removed-clause-spare
returns-else-removed-clause-spare g c = rw (← c.self.view_is) (keeps_spare g.K.Ord.cmp _ c.self.inside.tree _ c.args.key.now c.remove_if-removed.result c.remove_if-removed.ensures)

pub returns-else-removed-clause-kept : goal.returns-else-removed-clause-kept
returns-else-removed-clause-kept g c = λ none. rw (← c.self.view_is) (index_kept g.K.Ord.cmp _ c.self.inside.tree _ c.args.key.now (rw c.if-removed.false at c.remove_if-removed.ensures))

pub returns-then-removed-clause-always : goal.returns-then-removed-clause-always
returns-then-removed-clause-always g c = rw (← c.self.view_is) (
    removes_surely g.met.K.Ord.total (FnOnceReturnsAt g.F.FnOnce c.args.condition) (pairs_of c.self.inside.tree) c.args.key.now c.remove_if-removed.result _ (pairs_ascend g.met.K.Ord.total c.self.inside.tree c.self.invariant.1) c.remove_if-removed.ensures.pairs)

pub returns-else-removed-clause-always : goal.returns-else-removed-clause-always
returns-else-removed-clause-always g c = rw (← c.self.view_is) (
    removes_surely g.met.K.Ord.total (FnOnceReturnsAt g.F.FnOnce c.args.condition) (pairs_of c.self.inside.tree) c.args.key.now c.remove_if-removed.result _ (pairs_ascend g.met.K.Ord.total c.self.inside.tree c.self.invariant.1) c.remove_if-removed.ensures.pairs)
