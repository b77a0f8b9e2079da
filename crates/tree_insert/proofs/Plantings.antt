-- The first pair of an array and of a tree.
use Rattle.tree_insert.proofs.Common.{Arrivals, IsInsert, IsLen, IsPacked, IsTotalOrder, LeafOf, NodeOf, None, Ordering, Some, TreeArenas, [], arith, false}
use Rattle.tree_insert.proofs.Common.{false≢true, get, in_order, inl, inr, keyed, packed_in_order, refl, unbounded, ℕ, ◌∙◌, ◌∷◌, ◌≡◌}
use Rattle.tree_array.specs.declared.answers.InsertResult.{InsertResult}
use Rattle.tree_array.specs.declared.answers.InsertResult.TheVariants.{Duplicate, Full, Success}

-- a new array takes a pair, and has no other
pub first_stored : {K V : Type 0} (cmp : K → K → Ordering) (len : ℕ) (key : K) (val : V) (result : InsertResult K V) (old new : Arrivals K V) → IsLen len
    → old ≡ in_order [] → IsInsert cmp len false old key val result new → new ≡ in_order ((key, val) ∷ [])
first_stored cmp len key val Success old new is_len empty h = h.new_is ∙ rw empty refl
first_stored cmp len key val (Duplicate k v) old new is_len empty h = absurd (false≢true (rw empty at h.present))
first_stored cmp len key val (Full k v) old new is_len empty h = elim (rw empty at h.full) [ inl none ↦ absurd (omega (arith, none)) | inr retired ↦ absurd cc ]

-- a leaf node over a leaf with one pair is packed
pub packed_first : {K V : Type 0} {LEN : ℕ} {cmp : K → K → Ordering} → IsTotalOrder cmp → (a : TreeArenas K V LEN) (id : ℕ) (node : NodeOf K LEN) (leaf : ℕ) (slot : LeafOf K V LEN) (key : K) (val : V)
    → get a.nodes id ≡ Some node → keyed node ≡ in_order [] → unbounded node ≡ Some leaf → get a.leaves leaf ≡ Some slot → slot.array ≡ in_order ((key, val) ∷ []) → IsPacked cmp None 1 a id
packed_first o a id node leaf slot key val here none last there one = record {
  node = node;
  here = here;
  packed = packed_in_order o (keyed node) [] none;
  keys = rw none tt;
  full = rw none tt;
  last = leaf;
  last_is = last;
  edge = record { leaf = slot; here = there; packed = packed_in_order o slot.array ((key, val) ∷ []) one; ends = rw one (omega arith) };
}
