-- An insert under a leaf node, in the leaf that its key belongs to.
use Rattle.tree_insert.proofs.Common.{Arrivals, Bool, Full, HasChildFor, InsertsUnder, IsPart, IsStore, IsTotalOrder, LeafOf, Ok, Ordering, Some, StoreResult, TreeArenas, arith, asks_split, false}
use Rattle.tree_insert.proofs.Common.{found_free, get, none_free, room, with_array, ℕ, ◌<◌, ◌≡◌}
use Rattle.tree_insert.proofs.Inserts.{inserts_in_leaf, inserts_in_node, no_split}
use Rattle.tree_insert.proofs.Retries.{IsFullBelow, full_below}
use Rattle.tree_insert.proofs.Ways.{takes_one}

module _ {K V : Type 0} {LEN : ℕ} {cmp : K → K → Ordering} (o : IsTotalOrder cmp) {upsert : Bool} {a : TreeArenas K V LEN} {id : ℕ} (leaf : ℕ) (key : K) (val : V)
    (part : IsPart cmp 1 a id) (which : HasChildFor cmp key (get a.nodes id) leaf) {slot : LeafOf K V LEN} (there : get a.leaves leaf ≡ Some slot)
    (array : Arrivals K V) {read : Arrivals K V} {answer : StoreResult K V} (is : read ≡ slot.array) (stores : IsStore cmp LEN upsert read key val answer array) where
  in_leaf : InsertsUnder cmp upsert 0 a (with_array a leaf slot array) leaf (Ok answer) key val
  in_leaf = inserts_in_leaf o upsert a leaf slot array key val there answer (rw is at stores)

  -- the leaf took the pair, or has the key
  pub leaf_stored : asks_split {K = K} {V = V} (Ok answer) ≡ false → InsertsUnder cmp upsert 1 a (with_array a leaf slot array) id (Ok answer) key val
  leaf_stored no_split = inserts_in_node o 1 (omega arith) (Ok answer) part which in_leaf no_split

  -- it has no slot left
  pub leaf_full : {k : K} {v : V} → answer ≡ Full k v → IsFullBelow cmp upsert 1 a (with_array a leaf slot array) id leaf key val k v
  leaf_full told = full_below o 1 (omega arith) part which (rw told at in_leaf)

  -- it had room
  pub room_stored : 0 < room 0 a leaf → InsertsUnder cmp upsert 1 a (with_array a leaf slot array) id (Ok answer) key val
  room_stored some =
      let more : 0 < found_free {V = V} {LEN = LEN} (Some slot) = rw there at some in
      leaf_stored (takes_one cmp LEN upsert slot.array array key val (λ full. omega (arith, more, none_free LEN slot.array full)) answer (rw is at stores))
