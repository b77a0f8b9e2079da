-- How many writes are sure to go into a leaf, by how many entries and free slots its array has.
use Rattle.std.proofs.Common.{◌≡◌, ℕ, suc, ◌-◌, ◌<◌, ◌≤◌, List, length, Some, arith}
use Rattle.tree_node.proofs.Common.{LeafOf, TreeArenas, found_free, get, held, in_order, length-map, limit, nat_tests, room, spare, spare_for}

-- a leaf has no more free slots than slots
pub free_within : {K V : Type 0} {LEN : ℕ} (leaf : LeafOf K V LEN) → found_free {V = V} {LEN = LEN} (Some leaf) ≤ LEN
free_within leaf = grind arith

module _ (len : ℕ) where
  -- never fewer than the free slots
  pub spare_at_least : (count room : ℕ) → room ≤ spare_for len count room
  spare_at_least count room = grind (arith, nat_tests)

  -- a write takes one of them at most
  pub spare_written : (count room count' room' : ℕ) → count' ≤ suc count → suc room' ≡ room → spare_for len count room ≤ suc (spare_for len count' room')
  spare_written count room count' room' more fewer = grind (arith, nat_tests)

  -- and a removal none
  pub spare_removed : (count room count' : ℕ) → count' ≤ count → spare_for len count room ≤ spare_for len count' room
  spare_removed count room count' fewer = grind (arith, nat_tests)

  -- also where it retires the array
  pub spare_retired : (count room : ℕ) → room ≤ len → spare_for len count room ≤ spare_for len 0 0
  spare_retired count room within = grind (arith, nat_tests)

-- a full leaf that is to be split takes none
module _ {K V : Type 0} {LEN : ℕ} where
  pub leaf_spent : (a : TreeArenas K V LEN) (id : ℕ) → room 0 a id ≡ 0 → limit LEN < held 0 a id → spare 0 a id ≡ 0
  leaf_spent a id none many = grind (arith, nat_tests)

  -- a leaf takes no more than its slots without an entry
  pub spare_beside : (a : TreeArenas K V LEN) (id : ℕ) (leaf : LeafOf K V LEN) → get a.leaves id ≡ Some leaf → length leaf.array.entries ≤ length leaf.array.arrivals → length leaf.array.arrivals ≤ LEN
      → spare 0 a id ≤ LEN - length leaf.array.entries
  spare_beside a id leaf here reachable few = rw here (grind (arith, nat_tests))

  -- and one that was built anew takes as many
  pub spare_anew : (a : TreeArenas K V LEN) (id : ℕ) (leaf : LeafOf K V LEN) (entries : List (K × V)) → get a.leaves id ≡ Some leaf → leaf.array ≡ in_order entries → LEN - length entries ≤ spare 0 a id
  spare_anew a id leaf entries here anew = grind (arith, nat_tests, length-map, spare_at_least)
