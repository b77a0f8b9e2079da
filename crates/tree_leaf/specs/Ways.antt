-- Which way a walk goes: what lies ahead of it in a list, and which leaves the links lead it to.
use Rattle.tree_model.specs.Ways.{along}
use Rattle.std.specs.Prelude.{ℕ, ◌==◌, if◌then◌else◌, List, [], ◌∷◌, length, drop, take, reverse, Option, Some, option_and_then, option_map}
use Rattle.slab.specs.Slab.{Slab, get}
use Rattle.tree_array.specs.Walk.{place_ahead, places_behind}
use Rattle.tree_leaf.specs.declared.leaf.LeafOf.{LeafOf}
use Rattle.tree_leaf.specs.declared.stand.Beside.{Beside}
use Rattle.tree_model.specs.declared.way.Way.{Way}
use Rattle.tree_model.specs.declared.way.Way.TheVariants.{On, Back}
use Rattle.tree_leaf.specs.Entries.{leaf_entries}

-- what lies ahead of a walk this way, in its order
abbrev pub ahead : {X : Type 0} → Way → List X → Option ℕ → List X
ahead On xs at = drop (place_ahead at) xs
ahead Back xs at = reverse (take (places_behind (length xs) at) xs)

-- of the leaves before and behind one, those that the way leads to: in the order of the chain, and the nearest first
abbrev pub beyond : Way → List ℕ → List ℕ → List ℕ
beyond On front back = back
beyond Back front back = front

abbrev pub leaves_on : Way → List ℕ → List ℕ → List ℕ
leaves_on way front back = along way (beyond way front back)

module _ {K V : Type 0} {LEN : ℕ} where
  -- the leaf beside this one on the way
  abbrev pub beside : Way → LeafOf K V LEN → Option ℕ
  beside On leaf = leaf.next
  beside Back leaf = leaf.prev

  -- what a walk this way keeps of the leaf under this number
  abbrev pub seen_at : Way → Slab (LeafOf K V LEN) → ℕ → Beside
  seen_at way leaves id = record { id = id; len = length (leaf_entries leaves id); beyond = option_and_then (beside way) (get leaves id) }

  -- the same where there may be no leaf
  abbrev pub seen : Way → Slab (LeafOf K V LEN) → Option ℕ → Option Beside
  seen way leaves id = option_map (seen_at way leaves) id

  -- the first of these leaves that has an entry, else the last, else what was before them
  abbrev pub landing : Slab (LeafOf K V LEN) → Option ℕ → List ℕ → Option ℕ
  landing leaves before [] = before
  landing leaves before (id ∷ ids) = if length (leaf_entries leaves id) == 0 then landing leaves (Some id) ids else Some id
