use Rattle.tree_insert.proofs.Common.{Err, IfOk, IsPart, IsRetired, Ok, Result, fits, inl, inr, node_used, not_retired, retired_node, rules}
use Rattle.port_calls.proofs.growth.grow_root_at.Goals as goal

-- what two clauses say of a success
both_ok : {T E : Type 0} (P Q : T → Type 0) (result : Result T E) → IfOk result P → IfOk result Q → IfOk result (λ x. P x × Q x)
both_ok P Q (Ok x) p q = (p, q)
both_ok P Q (Err e) p q = tt

pub node-node-requires : goal.node-node-requires
node-node-requires g c = (search fits, node_used c.args.depth c.requires.node c.args.arenas.now c.args.root c.requires.part)

pub replant-requires : goal.replant-requires
replant-requires g c =
    let retired : IsRetired 1 c.args.arenas.now c.args.root = elim c.requires.part [
      | inl part ↦ absurd (not_retired c.args.depth c.requires.node c.args.arenas.now c.args.root part _ c.node-node.ensures (c.is_childless.ensures.0 c.if-is_childless.true))
      | inr retired ↦ rw c.node-node.ensures (retired_node c.args.depth c.requires.node c.args.arenas.now c.args.root retired _ c.node-node.ensures)
    ] in
    (search rules, (search fits, (c.slots_left.ensures.len, retired)))

pub split_root_at-requires : goal.split_root_at-requires
split_root_at-requires g c =
    let part : IsPart g.K.Ord.cmp c.args.depth c.args.arenas.now c.args.root = elim c.requires.part [
      | inl part ↦ part
      | inr retired ↦ absurd (cc (c.is_childless.ensures.1 (retired_node c.args.depth c.requires.node c.args.arenas.now c.args.root retired _ c.node-node.ensures)))
    ] in
    (search rules, (search rules, (c.requires.node, part)))

pub returns-then-is_childless-clause-raised : goal.returns-then-is_childless-clause-raised
returns-then-is_childless-clause-raised g c part =
    absurd (not_retired c.args.depth c.requires.node c.args.arenas.now c.args.root part _ c.node-node.ensures (c.is_childless.ensures.0 c.if-is_childless.true))

pub returns-then-is_childless-clause-places : goal.returns-then-is_childless-clause-places
returns-then-is_childless-clause-places g c part =
    absurd (not_retired c.args.depth c.requires.node c.args.arenas.now c.args.root part _ c.node-node.ensures (c.is_childless.ensures.0 c.if-is_childless.true))

pub returns-else-is_childless-clause-raised : goal.returns-else-is_childless-clause-raised
returns-else-is_childless-clause-raised g c part = both_ok _ _ c.split_root_at.result c.split_root_at.ensures.done c.split_root_at.ensures.levels

pub returns-else-is_childless-clause-replanted : goal.returns-else-is_childless-clause-replanted
returns-else-is_childless-clause-replanted g c retired =
    absurd (cc (c.is_childless.ensures.1 (retired_node c.args.depth c.requires.node c.args.arenas.now c.args.root retired _ c.node-node.ensures)))

pub returns-else-is_childless-clause-leaf_place : goal.returns-else-is_childless-clause-leaf_place
returns-else-is_childless-clause-leaf_place g c retired =
    absurd (cc (c.is_childless.ensures.1 (retired_node c.args.depth c.requires.node c.args.arenas.now c.args.root retired _ c.node-node.ensures)))
