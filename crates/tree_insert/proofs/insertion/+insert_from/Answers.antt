use Rattle.tree_model.proofs.Common.{err_from_is_err_and}
use Rattle.tree_insert.proofs.Common.{Bool, Full, HasChildFor, InsertsUnder, Internal, IsPart, IsTotalOrder, NodeOf, None, Ok, Ordering, Result, Some, StoreResult, TreeArenas, arith, below_part}
use Rattle.tree_insert.proofs.Common.{child_inside, child_of, fits, get, inl, inner_level, keyed, node_used, outer_level, refl, rules, some_child, unbounded, ℕ, ◌-◌, ◌<◌, ◌≡◌}
use Rattle.tree_node.specs.declared.branch.BranchOf.{BranchOf}
use Rattle.tree_insert.proofs.Inserts.{inserts_in_node, no_split}
use Rattle.tree_insert.proofs.Retries.{IsFullBelow, full_below, held_above, last_attempt, no_room_either, part_with_room, refused_room, retried, room_by_split, which_still}
use Rattle.tree_insert.proofs.insertion.+insert_from.Goals as goal

module _ {K V : Type 0} {LEN : ℕ} {cmp : K → K → Ordering} {level : ℕ} (deep : 0 < level) {a : TreeArenas K V LEN} {id : ℕ} (part : IsPart cmp level a id) (key : K) where
  -- the child that was found
  goes : {node : NodeOf K LEN} {child : ℕ} → get a.nodes id ≡ Some node → child_of cmp key (keyed node).entries (unbounded node) ≡ Some child
      → HasChildFor cmp key (get a.nodes id) child
  goes here routed = rw here routed

  -- a node that stands has one
  has_some : {node : NodeOf K LEN} → get a.nodes id ≡ Some node → child_of cmp key (keyed node).entries (unbounded node) ≡ None → ⊥
  has_some here none = cc (rw here at (some_child level deep a id part key).1, none)

  -- the child of an inner node answered that it is full
  is_full : IsTotalOrder cmp → {upsert : Bool} {new : TreeArenas K V LEN} {child : ℕ} {val : V} {inner : BranchOf K ℕ LEN} {result : Result (StoreResult K V) (K × V)}
      {answer : StoreResult K V} {k : K} {v : V} → get a.nodes id ≡ Some (Internal inner) → child_of cmp key inner.children.entries inner.unbounded_child ≡ Some child
      → InsertsUnder cmp upsert (level - 1) a new child result key val → result ≡ Ok answer → answer ≡ Full k v
      → (1 < level) × IsFullBelow cmp upsert level a new id child key val k v
  is_full o {inner = inner} here routed ins ok full =
      (inner_level level deep a id part inner here, full_below o level deep part (goes here routed) (rw (rw full at ok) at ins))

pub node-requires : goal.node-requires
node-requires g t c = (search fits, node_used c.args.level c.requires.node c.args.arenas.now c.args.id (inl c.requires.part))

pub returns-in_default : goal.returns-in_default
returns-in_default g t c =
    absurd (has_some c.requires.node c.requires.part c.args.key (rw c.in-Internal.is at c.node.ensures) (rw c.in_default.is at c.child_place.ensures.child))

pub insert_from-requires : goal.insert_from-requires
insert_from-requires g t c κs within =
    let which = goes c.requires.node c.requires.part c.args.key (rw c.in-Internal.is at c.node.ensures) (rw c.in-Some.is at c.child_place.ensures.child) in
    let inner = inner_level c.args.level c.requires.node _ _ c.requires.part _ (rw c.in-Internal.is at c.node.ensures) in
    let deeper : 0 < c.args.level - 1 = omega (arith, inner) in
    let part = below_part g.met.K.Ord.total c.args.arenas.now c.args.key c.args.level c.requires.node c.args.id _ c.requires.part which in
    (omega (arith, c.requires.node), (search rules, (within.0, (within.1, (search rules, (search rules, (search fits, (deeper, part))))))))

pub split_child-requires : goal.split_child-requires
split_child-requires g t c =
    let met = is_full c.requires.node c.requires.part c.args.key g.met.K.Ord.total (rw c.in-Internal.is at c.node.ensures)
    (rw c.in-Some.is at c.child_place.ensures.child) c.insert_from.ensures c.in_ok-answer-in-Internal.was c.in-Full.is in
    let inside = child_inside g.met.K.Ord.total c.args.level c.requires.node _ _ _ c.in-Full.key met.1.part (which_still met.1) in
    (search rules, (search rules, ((c.args.level, met.0, met.1.part), inside)))

pub insert_from-requires-in-Ok-true : goal.insert_from-requires-in-Ok-true
insert_from-requires-in-Ok-true g t c κs within =
    let met = is_full c.requires.node c.requires.part c.args.key g.met.K.Ord.total (rw c.in-Internal.is at c.node.ensures)
    (rw c.in-Some.is at c.child_place.ensures.child) c.insert_from.ensures c.in_ok-answer-in-Internal.was c.in-Full.is in
    let made = room_by_split met.1 c.requires.node (rw c.in-Ok-true.field-0-test at (c.in-Ok-true.ensures.done c.args.level met.0 met.1.part)) in
    let less = last_attempt met.1 c.requires.node made in
    let part = part_with_room met.1 c.requires.node made in
    (omega (arith, less), (search rules, (within.0, (within.1, (search rules, (search (rules, c.requires-raw), (search (fits, c.requires-raw), (c.requires.node, part))))))))

pub returns-in_err-answer-in-Internal : goal.returns-in_err-answer-in-Internal
returns-in_err-answer-in-Internal g t c =
    let which = goes c.requires.node c.requires.part c.args.key (rw c.in-Internal.is at c.node.ensures) (rw c.in-Some.is at c.child_place.ensures.child) in
    let failed = err_from_is_err_and c.from_residual.result c.from_residual.ensures.1 in
    rw (failed.1, failed.2) (inserts_in_node g.met.K.Ord.total c.args.level c.requires.node _ c.requires.part which (rw c.in_err-answer-in-Internal.was at c.insert_from.ensures) refl)

pub returns-in-Err : goal.returns-in-Err
returns-in-Err g t c =
    let met = is_full c.requires.node c.requires.part c.args.key g.met.K.Ord.total (rw c.in-Internal.is at c.node.ensures)
    (rw c.in-Some.is at c.child_place.ensures.child) c.insert_from.ensures c.in_ok-answer-in-Internal.was c.in-Full.is in
    refused_room met.1 c.requires.node c.in-Err.ensures.err (rw (held_above _ _ c.args.level met.0) c.in-Err.ensures.many)

pub returns-in-Ok-true : goal.returns-in-Ok-true
returns-in-Ok-true g t c =
    let met = is_full c.requires.node c.requires.part c.args.key g.met.K.Ord.total (rw c.in-Internal.is at c.node.ensures)
    (rw c.in-Some.is at c.child_place.ensures.child) c.insert_from.ensures c.in_ok-answer-in-Internal.was c.in-Full.is in
    let made = room_by_split met.1 c.requires.node (rw c.in-Ok-true.field-0-test at (c.in-Ok-true.ensures.done c.args.level met.0 met.1.part)) in
    retried met.1 c.requires.node made _ c.insert_from-in-Ok-true.ensures

pub returns-in-Ok-false : goal.returns-in-Ok-false
returns-in-Ok-false g t c =
    let met = is_full c.requires.node c.requires.part c.args.key g.met.K.Ord.total (rw c.in-Internal.is at c.node.ensures)
    (rw c.in-Some.is at c.child_place.ensures.child) c.insert_from.ensures c.in_ok-answer-in-Internal.was c.in-Full.is in
    no_room_either met.1 c.requires.node (rw c.in-Ok-false.field-0-test at (c.in-Ok-false.ensures.done c.args.level met.0 met.1.part))

pub returns-in_default-answer : goal.returns-in_default-answer
returns-in_default-answer g t c =
    let which = goes c.requires.node c.requires.part c.args.key (rw c.in-Internal.is at c.node.ensures) (rw c.in-Some.is at c.child_place.ensures.child) in
    inserts_in_node g.met.K.Ord.total c.args.level c.requires.node _ c.requires.part which (rw c.in_ok-answer-in-Internal.was at c.insert_from.ensures)
    (no_split _ c.in_default-answer.not-Full)

pub returns-in_default-child_place : goal.returns-in_default-child_place
returns-in_default-child_place g t c =
    let none = rw c.in_default-child_place.is at c.child_place-in-Leaf.ensures.child in
    absurd (has_some c.requires.node c.requires.part c.args.key (rw c.in-Leaf.is at c.node.ensures) none)

pub insert_under_leaf_node-requires : goal.insert_under_leaf_node-requires
insert_under_leaf_node-requires g t c =
    let here = rw c.in-Leaf.is at c.node.ensures in
    let which = goes c.requires.node c.requires.part c.args.key here (rw c.in-Some-child_place.is at c.child_place-in-Leaf.ensures.child) in
    let one = outer_level c.args.level c.requires.node _ _ c.requires.part _ here in
    (search (rules, fits), (search (rules, fits), (rw one at c.requires.part, which)))

pub returns-after-rightmost : goal.returns-after-rightmost
returns-after-rightmost g t c =
    rw (outer_level c.args.level c.requires.node _ _ c.requires.part _ (rw c.in-Leaf.is at c.node.ensures)) c.insert_under_leaf_node.ensures
