-- Where a key stands in the order of an array.
use Rattle.std.specs.Prelude.{◌≡◌, ◌⊎◌, ℕ, ◌+◌, ◌*◌, ◌/◌, ◌^◌, ◌<◌, ◌≤◌, List, take, drop, length, Option, None, Some, if◌then◌else◌, ltb, slice_get}
use Rattle.std.specs.List.{AllByRecursion}
use Rattle.std.specs.declared.cmp.Ordering.{Ordering}
use Rattle.std.specs.declared.cmp.Ordering.TheVariants.{Less, Equal, Greater}
use Rattle.tree_cells.specs.declared.search.Place.{Place}
use Rattle.tree_cells.specs.declared.search.Place.TheVariants.{At, Before}
use Rattle.tree_cells.specs.Arrivals.{arrival}
use Rattle.tree_cells.specs.Order.{named}

-- a search compares at most so often: 3 times among 7, 4 times among 15
abbrev pub searched : ℕ → ℕ
searched len = if ltb 7 len then 4 else 3

-- the slot that a place names
abbrev pub slot_of : Place → ℕ
slot_of (At place slot) = slot
slot_of (Before place slot) = slot

module _ {K V : Type 0} (cmp : K → K → Ordering) (entries : List (K × V)) (key : K) where
  -- the entries before the place are smaller than the key, and the others larger
  pub record Parts (place : ℕ) : Type 0 where
    pub within : place ≤ length entries
    pub smaller : AllByRecursion (λ e. cmp key e.0 ≡ Greater) (take place entries)
    pub larger : AllByRecursion (λ e. cmp key e.0 ≡ Less) (drop place entries)

  -- the entry at the place has the key
  pub record HasKey (place : ℕ) : Type 0 where
    pub pair : K × V
    pub there : slice_get entries place ≡ Some pair
    pub same : cmp key pair.0 ≡ Equal

  -- the place has the key, or parts the smaller entries from the larger, and the slot stands there; or all are smaller
  abbrev pub IsPlace : List ℕ → Place → Type 0
  IsPlace slots (At place slot) = HasKey place × (slice_get slots place ≡ Some slot)
  IsPlace slots (Before place slot) = (Parts place × (slice_get slots place ≡ Some slot)) ⊎ ((length entries ≤ place) × (slot ≡ 15) × Parts (length entries))

-- how a key compares with that of a pair
abbrev pub against : {K V : Type 0} → (K → K → Ordering) → K → Option (K × V) → Ordering
against cmp key None = Equal
against cmp key (Some pair) = cmp key pair.0

module _ {K V : Type 0} (cmp : K → K → Ordering) (cells : List (Option (K × V))) (word : ℕ) (key : K) where
  -- the key is larger than the pairs before the window, and no larger than the pairs behind it: smaller, if no key met was equal
  pub record IsWindow (len place rest met width : ℕ) : Type 0 where
    pub reach : place + width ≤ len
    pub few : met + width < 16
    pub left : rest ≡ word / 2 ^ (4 * place)
    pub smaller : (i : ℕ) → i < place → against cmp key (arrival cells (named word i)) ≡ Greater
    pub larger : met ≡ 0 → (i : ℕ) → place + width ≤ i → i < len → against cmp key (arrival cells (named word i)) ≡ Less
    pub equal : 0 < met → (place + width < len) × (against cmp key (arrival cells (named word (place + width))) ≡ Equal)
