-- Where the child of a key stands in its node.
use Rattle.std.specs.Prelude.{◌≡◌, ℕ, Option, None, Some, IsSome, MatchOption}
use Rattle.tree_node.specs.Arenas.{Arrivals, Ordering, arrival, least_from}

-- the child that a key belongs to: a keyed one, whose separator stands in this slot, or else the unbounded one
abbrev pub IsChildAt : {K X : Type 0} → (K → K → Ordering) → K → Arrivals K X → Option X → X → Option ℕ → Type 0
IsChildAt cmp key children last child None = (least_from cmp children.entries key ≡ None) × (last ≡ Some child)
IsChildAt {K = K} cmp key children last child (Some slot) =
    (separator : K) × (arrival children.arrivals slot ≡ Some (separator, child)) × (least_from cmp children.entries key ≡ Some (separator, child)) × IsSome last

-- the slot of the first separator that a key doesn't exceed, or none if it is larger than each
abbrev pub IsSlotFor : {K X : Type 0} → (K → K → Ordering) → K → Arrivals K X → Option ℕ → Type 0
IsSlotFor {K} {X} cmp key children slot = MatchOption slot (least_from cmp children.entries key ≡ None)
    (λ at. (pair : K × X) × (arrival children.arrivals at ≡ Some pair) × (least_from cmp children.entries key ≡ Some pair))
