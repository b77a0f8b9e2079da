-- Copies of pairs. `Clones` and `Copies` tell the clones of a key and of a value.
use Rattle.std.specs.Prelude.{◌≡◌, ℕ, List, ◌∷◌, ◌++◌}
use Rattle.std.specs.List.{AllByRecursion}
use Rattle.std.specs.declared.cmp.Ordering.{Ordering}
use Rattle.std.specs.declared.cmp.Ordering.TheVariants.{Less}
use Rattle.tree_leaf.specs.Rest.{left_of}
use Rattle.tree_leaf.specs.Walks.{LeafWalk}
use Rattle.tree_leaf.specs.Chain.{IsChain}
use Rattle.tree_model.specs.declared.way.Way.TheVariants.{On}

-- each key of the list is smaller than k
abbrev pub AllSmaller : {K V : Type 0} → (K → K → Ordering) → List (K × V) → K → Type 0
AllSmaller cmp l k = AllByRecursion (λ pair. cmp pair.0 k ≡ Less) l

-- q is a clone of the key of p with a clone of its value
pub record IsPairClone {K V : Type 0} (IsKeyClone : K → K → Type 0) (IsValueClone : V → V → Type 0) (p q : K × V) : Type 0 where
  pub key : IsKeyClone p.0 q.0
  pub value : IsValueClone p.1 q.1

-- a walk in a chain has these pairs left
pub record HasLeft {K V : Type 0} {LEN : ℕ} (walk : LeafWalk K V LEN) (left : List (K × V)) : Type 0 where
  pub front : List ℕ
  pub back : List ℕ
  pub chain : IsChain walk.leaves (front ++ walk.leaf ∷ back)
  pub are : left_of On walk front back ≡ left
