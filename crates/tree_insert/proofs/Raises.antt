-- A root that comes under a new one, in which it is split.
use Rattle.tree_insert.proofs.Common.{Agrees, Gains, HasKind, Internal, IsLen, IsPacked, IsPart, KeepsBoth, None, Ordering, RaisesRoot, Some, SplitsChild, Stands, TreeArenas, Unchanged, []}
use Rattle.tree_insert.proofs.Common.{add-one, agrees_here, ap, append-nil, arith, cases_eq, chain_same, children_of, cond, get, head_here, in_order, inl, inr, is_some, leaves_at, nodes_at}
use Rattle.tree_insert.proofs.Common.{none_here, one_here, refl, room, same_array_refl, same_leaves, same_nodes, same_packed, same_stands, same_walk, sub-one, suc, sym, times, times-cons}
use Rattle.tree_insert.proofs.Common.{unchanged_by_keeping, uses, uses_none, uses_same, uses_some, walk, walk-children, zero, ℕ, ◌+◌, ◌<◌, ◌==◌, ◌∙◌, ◌∷◌, ◌≡◌}
use Rattle.tree_node.proofs.Common.{single_leaves, single_nodes}
use Rattle.tree_node.specs.declared.branch.BranchOf.{BranchOf}

-- above the leaves each node is an internal one
inner_above : {K : Type 0} {LEN : ℕ} (depth : ℕ) (node : BranchOf K ℕ LEN) → 0 < depth → HasKind depth (Internal node)
inner_above zero node deep = omega (arith, deep)
inner_above (suc depth) node deep = tt

room_agrees : {K V : Type 0} {LEN : ℕ} {a b : TreeArenas K V LEN} {id : ℕ} (level : ℕ) → 0 < level → Agrees level a b id → room level b id ≡ room level a id
room_agrees zero deep agrees = absurd (omega (arith, deep))
room_agrees {a = a} {b} {id} (suc level) deep agrees = rw (agrees_here level a b id agrees) refl

-- a new root over the old one, and what a split under it makes
pub record RaisedTop {K V : Type 0} {LEN : ℕ} (cmp : K → K → Ordering) (depth above : ℕ) (old mid : TreeArenas K V LEN) (root id : ℕ) : Type 0 where
  pub part : IsPart cmp above mid id
  pub inside : 0 < times root (children_of mid.nodes id)
  pub roomy : 6 < room above mid id
  pub raises_by : (new : TreeArenas K V LEN) → SplitsChild cmp above mid new id root → ((n : ℕ) → get new.leaves n ≡ get mid.leaves n)
      → RaisesRoot cmp depth old new root id

module _ {K V : Type 0} {LEN : ℕ} {cmp : K → K → Ordering} (depth : ℕ) (deep : 0 < depth) (is_len : IsLen LEN) {old reserved : TreeArenas K V LEN}
    (mid : TreeArenas K V LEN) {root id : ℕ} {top : BranchOf K ℕ LEN} (part : IsPart cmp depth old root) (keeps : KeepsBoth old reserved)
    (gains : Gains reserved.nodes mid.nodes id (Internal top)) (leaves : mid.leaves ≡ reserved.leaves) (keyed_none : top.children ≡ in_order [])
    (last : top.unbounded_child ≡ Some root) where
  same : Unchanged old reserved
  same = unchanged_by_keeping old reserved keeps

  was_free : get old.nodes id ≡ None
  was_free = sym (same.nodes id) ∙ gains.was_free

  nodes_stay : (n : ℕ) → (n ≡ id → ⊥) → get mid.nodes n ≡ get old.nodes n
  nodes_stay n differs = gains.updates.others n differs ∙ same.nodes n

  leaves_stay : (n : ℕ) → get mid.leaves n ≡ get old.leaves n
  leaves_stay n = rw leaves (same.leaves n)

  -- the root is the only child of the new one
  top_children : children_of mid.nodes id ≡ root ∷ []
  top_children = rw (gains.updates.changed, keyed_none, last) refl

  agrees : Agrees depth old mid root
  agrees = record {
    nodes = λ m below. nodes_stay m (λ at_id. omega (arith, part.nodes_once m, uses_none old.nodes m (rw at_id was_free), below));
    leaves = λ m below. rw (leaves_stay m) (same_array_refl (get old.leaves m));
  }

  top_leaves : leaves_at (suc depth) mid.nodes id ≡ leaves_at depth old.nodes root
  top_leaves = rw top_children (single_leaves depth mid.nodes root ∙ same_leaves depth old mid root agrees)

  top_nodes : (n : ℕ) → times n (nodes_at (suc depth) mid.nodes id) ≡ cond (id == n) 1 0 + times n (nodes_at depth old.nodes root)
  top_nodes n = rw (times-cons n id, top_children, single_nodes depth mid.nodes root, same_nodes depth old mid root agrees) refl

  uses_now : (n : ℕ) → uses mid.nodes n ≡ uses old.nodes n + cond (id == n) 1 0
  uses_now n = elim (cases_eq n id) [
    | inl at_id ↦
        let now : get mid.nodes n ≡ Some (Internal top) = rw at_id gains.updates.changed in
        let before : get old.nodes n ≡ None = rw at_id was_free in
        omega (arith, uses_some mid.nodes n (rw now refl), uses_none old.nodes n before, one_here n id at_id)
    | inr differs ↦ omega (arith, uses_same old.nodes mid.nodes n (ap is_some (nodes_stay n differs)), none_here n id differs)
  ]

  top_stands : Stands cmp (suc depth) mid None id None
  top_stands = record {
    node = Internal top;
    here = gains.updates.changed;
    kind = inner_above depth top deep;
    last = root;
    last_is = last;
    few = rw keyed_none (omega arith);
    parted = rw keyed_none (same_stands cmp depth old mid root agrees None None part.stands);
  }

  -- the new root has room for a separator
  top_room : 6 < room (suc depth) mid id
  top_room = rw (gains.updates.changed, last, keyed_none) (omega arith)

  pub raised_top : RaisedTop cmp depth (depth + 1) old mid root id
  raised_top = rw add-one (record {
    part = record {
      stands = top_stands;
      nodes_once = λ n. omega (arith, top_nodes n, uses_now n, part.nodes_once n);
      front = part.front;
      back = part.back;
      chain = rw top_leaves (chain_same old.leaves mid.leaves leaves_stay _ part.chain);
    };
    inside = rw top_children (head_here root []);
    roomy = top_room;
    raises_by = λ new split others. record {
      pairs = split.pairs ∙ walk-children depth mid id ∙ rw top_children (append-nil (walk depth mid root) ∙ same_walk depth old mid root agrees);
      stands = split.keeps None None top_stands;
      nodes_kept = λ n used outside.
          let differs : n ≡ id → ⊥ = λ at_id. let none : get old.nodes n ≡ None = rw at_id was_free in let gone = rw none at used in cc in
          split.replaces.nodes_kept n (rw (nodes_stay n differs) used)
          (omega (arith, outside, ap (times n) (single_nodes (suc depth) mid.nodes id), top_nodes n, none_here n id differs))
          ∙ nodes_stay n differs;
      leaves_kept = λ n. others n ∙ leaves_stay n;
      nodes_counted = λ n.
          let was = ap (times n) (single_nodes (suc depth) mid.nodes id) in
          let is = ap (times n) (single_nodes (suc depth) new.nodes id) in
          omega (arith, split.replaces.nodes_counted n, was, is, top_nodes n, uses_now n);
      leaves_counted = λ n.
          let was = ap (times n) (single_leaves (suc depth) mid.nodes id ∙ top_leaves) in
          let is = ap (times n) (single_leaves (suc depth) new.nodes id) in
          omega (arith, split.replaces.leaves_counted n, was, is, uses_same old.leaves mid.leaves n (ap is_some (leaves_stay n)));
      chained = λ front back chain.
          rw (single_leaves (suc depth) new.nodes id) at (split.replaces.chained front back
          (rw (single_leaves (suc depth) mid.nodes id, top_leaves) (chain_same old.leaves mid.leaves leaves_stay _ chain)));
      roomy = omega (arith, split.spends, top_room);
      packed = λ beyond none e.
          -- with the packed part as its only child, the new root is packed too
          let top_packed : IsPacked cmp beyond (suc depth) mid id = record {
            node = Internal top;
            here = gains.updates.changed;
            packed = rw keyed_none refl;
            keys = rw keyed_none tt;
            full = rw keyed_none tt;
            last = root;
            last_is = last;
            edge = same_packed cmp beyond depth old mid root agrees e;
          } in
          let more = split.packed beyond (rw gains.updates.changed last) (rw sub-one (room_agrees depth deep agrees ∙ none)) top_packed in
          (more.0, omega (arith, more.1));
      routed = λ key child which. rw sub-one at (split.routed key (rw (gains.updates.changed, last, keyed_none) refl) child which);
    };
  })
