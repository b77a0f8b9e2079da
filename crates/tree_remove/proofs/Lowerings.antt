-- A root that gives its place to its only child.
use Rattle.tree_remove.proofs.Common.{Agrees, BranchOf, Internal, IsOfLevel, IsPart, IsRetired, IsRoot, Leaf, Loses, LowersRoot, NodeOf, None, Option, Ordering, Replaces, Root, Some, Stands}
use Rattle.tree_remove.proofs.Common.{TreeArenas, [], ap, append-nil, arith, children_of, cond, get, inl, inr, leaves_at, no_children, node_is, nodes_at, one_here, refl, root_at, same_array_refl}
use Rattle.tree_remove.proofs.Common.{same_leaves, same_nodes, same_stands, single_nodes, sub-one, suc, times, times-cons, uses_le_one, zero, ℕ, ◌+◌, ◌-◌, ◌<◌, ◌==◌, ◌∙◌, ◌∷◌}
use Rattle.tree_remove.proofs.Common.{◌≡◌, ◌⊎◌}
use Rattle.tree_clean_up.proofs.Drops.{lost_counted, node_dropped}
use Rattle.tree_clean_up.proofs.EmptyNodes.{only_stands}

module _ {K V : Type 0} {LEN : ℕ} (cmp : K → K → Ordering) (a : TreeArenas K V LEN) (root : ℕ) where
  stays : (level : ℕ) → IsRoot cmp a root level → LowersRoot cmp level a a root (Some (root_at root level))
  stays level stands = record { stands = stands; leaves = refl; leaves_under = refl; pairs = refl; nodes_kept = λ n used outside. refl; nodes_counted = λ n. refl }

  -- a leaf node stays, retired or not
  pub leaf_node_stays : (level : ℕ) → 0 < level → IsPart cmp level a root ⊎ IsRetired level a root → IsOfLevel level (get a.nodes root)
      → (node : BranchOf K ℕ LEN) → get a.nodes root ≡ Some (Leaf node) → LowersRoot cmp level a a root (Some (root_at root level))
  leaf_node_stays zero inner given kind node here = absurd (omega (arith, inner))
  leaf_node_stays (suc zero) inner (inl part) kind node here = stays 1 (omega arith, inl (part, λ tall none. omega (arith, tall)))
  leaf_node_stays (suc zero) inner (inr retired) kind node here = stays 1 (omega arith, inr (refl, retired, rw here tt))
  leaf_node_stays (suc (suc level)) inner given kind node here = absurd (rw here at kind)

  -- and so does a node with a keyed child
  pub keyed_stays : (level : ℕ) → 0 < level → IsPart cmp level a root ⊎ IsRetired level a root → (node : BranchOf K ℕ LEN) → get a.nodes root ≡ Some (Internal node) → (node.children.entries ≡ [] → ⊥)
      → LowersRoot cmp level a a root (Some (root_at root level))
  keyed_stays zero inner given node here some = absurd (omega (arith, inner))
  keyed_stays (suc level) inner (inl part) node here some = stays (suc level) (omega arith, inl (part, λ tall none. some (rw here at none)))
  keyed_stays (suc level) inner (inr retired) node here some = absurd (some (rw here at retired).0)

  -- a root that has one child alone, from which it is lowered on
  pub record OverOne (b : TreeArenas K V LEN) (x level lower : ℕ) : Type 0 where
    pub inner : 0 < lower
    pub part : IsPart cmp lower b x
    pub kind : IsOfLevel lower (get b.nodes x)
    pub on : (new : TreeArenas K V LEN) (result : Option Root) → LowersRoot cmp lower b new x result → LowersRoot cmp level a new root result

  module _ (b : TreeArenas K V LEN) (node : BranchOf K ℕ LEN) (gone : NodeOf K LEN) (here : get a.nodes root ≡ Some (Internal node))
      (loses : Loses a.nodes b.nodes root gone) (leaves : b.leaves ≡ a.leaves) where
    -- nothing is left of a retired root
    pub retired_gone : (level : ℕ) → 0 < level → IsPart cmp level a root ⊎ IsRetired level a root → node.unbounded_child ≡ None → LowersRoot cmp level a b root None
    retired_gone zero inner given none = absurd (omega (arith, inner))
    retired_gone (suc level) inner (inl part) none = grind (arith, part.stands, node_is)
    retired_gone (suc level) inner (inr retired) none =
        let no_leaf : leaves_at (suc level) a.nodes root ≡ [] = rw ((no_children (get a.nodes root) retired).1) refl in
        let dropped : Replaces (suc level) a b (root ∷ []) [] = node_dropped level a b root gone retired loses leaves in
        grind (arith, no_leaf, dropped.nodes_kept, dropped.nodes_counted, leaves, single_nodes (suc level) a.nodes root)

    -- the only child is a part then, from which the root is lowered on
    module _ (below x : ℕ) (part : IsPart cmp (suc (suc below)) a root) (no_keyed : node.children.entries ≡ []) (last_is : node.unbounded_child ≡ Some x) where
      only_child : children_of a.nodes root ≡ x ∷ []
      only_child = rw (here, no_keyed, last_is) refl

      nodes_below : (n : ℕ) → times n (nodes_at (suc (suc below)) a.nodes root) ≡ cond (root == n) 1 0 + times n (nodes_at (suc below) a.nodes x)
      nodes_below n = rw (times-cons n root, only_child, append-nil (nodes_at (suc below) a.nodes x)) refl

      agrees : Agrees (suc below) a b x
      agrees = grind (arith, loses.updates.others, nodes_below, part.nodes_once, one_here, uses_le_one, same_array_refl)

      stands_below : Stands cmp (suc below) b None x None
      stands_below = same_stands cmp (suc below) a b x agrees None None (only_stands a root (Internal node) here x last_is cmp (suc below) part.stands no_keyed)

      leaves_now : leaves_at (suc below) b.nodes x ≡ leaves_at (suc (suc below)) a.nodes root
      leaves_now = same_leaves (suc below) a b x agrees ∙ rw (only_child, append-nil (leaves_at (suc below) a.nodes x)) refl

      nodes_now : (n : ℕ) → times n (nodes_at (suc below) b.nodes x) ≡ times n (nodes_at (suc below) a.nodes x)
      nodes_now n = ap (times n) (same_nodes (suc below) a b x agrees)

      over : OverOne b x (suc (suc below)) (suc below)
      over = record {
        inner = omega arith;
        part = grind (arith, stands_below, nodes_now, nodes_below, part.nodes_once, lost_counted a.nodes b.nodes root gone loses, part.chain, leaves, leaves_now);
        kind = rw stands_below.here stands_below.kind;
        on = λ new result rest.
            let lost = lost_counted a.nodes b.nodes root gone loses in
            let others = loses.updates.others in
            let kept = rest.nodes_kept in
            grind (arith, rest.stands, rest.leaves, rest.leaves_under, rest.pairs, kept, rest.nodes_counted, leaves_now, nodes_now, nodes_below, one_here, others, lost);
      }

  pub over_one : (b : TreeArenas K V LEN) {node : BranchOf K ℕ LEN} {gone : NodeOf K LEN} (x level : ℕ) → get a.nodes root ≡ Some (Internal node)
      → Loses a.nodes b.nodes root gone → b.leaves ≡ a.leaves → 0 < level → IsPart cmp level a root ⊎ IsRetired level a root
      → IsOfLevel level (get a.nodes root) → node.children.entries ≡ [] → node.unbounded_child ≡ Some x → OverOne b x level (level - 1)
  over_one b x zero here loses leaves inner given kind none last_is = absurd (omega (arith, inner))
  over_one b x (suc zero) here loses leaves inner given kind none last_is = absurd (rw here at kind)
  over_one b x (suc (suc below)) here loses leaves inner (inr retired) kind none last_is = absurd (cc ((rw here at retired).1, last_is))
  over_one b {node} {gone} x (suc (suc below)) here loses leaves inner (inl part) kind none last_is =
      rw (sub-one (suc (suc below))) (over b node gone here loses leaves below x part none last_is)
