-- What stands behind a `&mut` to a leaf, to a node or to a leaf's array once the borrow ends: the last value that was written through it.
use Rattle.std.specs.Prelude.{ℕ, Bool, Option}
use Rattle.std.specs.Borrow.{Lends, MutBor, Fml, RattleType}
use Rattle.std.specs.declared.cmp.Ordering.{Ordering}
use Rattle.slab.specs.Slab.{with_value}
use Rattle.tree_array.specs.contracts.array.ArrayOf.{the_row as array_row}
use Rattle.tree_leaf.specs.contracts.arena.SlotsOf.{the_row as slots_row}
use Rattle.tree_leaf.specs.contracts.leaf.LeafOf.{the_row as leaf_row}

-- the types, where K has these comparisons
module _ (K V N LEN : RattleType) (cmp : K.Denot → K.Denot → Ordering) (eq : K.Denot → K.Denot → Bool) (partial_cmp : K.Denot → K.Denot → Option Ordering) where
  abbrev pub the_array : RattleType
  the_array = array_row K V LEN (record { cmp = cmp }) (record { eq = eq }) (record { partial_cmp = partial_cmp })

  abbrev pub the_leaf : RattleType
  the_leaf = leaf_row K V LEN (record { cmp = cmp }) (record { eq = eq }) (record { partial_cmp = partial_cmp })

  abbrev pub the_slots : RattleType
  the_slots = slots_row K V N LEN (record { cmp = cmp }) (record { eq = eq }) (record { partial_cmp = partial_cmp })

  -- the leaf stands under its number
  abbrev pub lends_leaf : MutBor the_slots.Denot → ℕ → MutBor the_leaf.Denot → Fml
  lends_leaf arenas id lent = Lends the_slots the_leaf arenas lent (λ leaf. record arenas.now { leaves = with_value arenas.now.leaves id leaf })

  -- the node stands under its number
  abbrev pub lends_node : MutBor the_slots.Denot → ℕ → MutBor N.Denot → Fml
  lends_node arenas id lent = Lends the_slots N arenas lent (λ node. record arenas.now { nodes = with_value arenas.now.nodes id node })

  -- the leaf has the array
  abbrev pub lends_array : MutBor the_leaf.Denot → MutBor the_array.Denot → Fml
  lends_array leaf lent = Lends the_leaf the_array leaf lent (λ array. record leaf.now { array = array })
