-- What contracts see of a cursor over a tree.
use Rattle.std.specs.Prelude.{◌≡◌, ℕ, ◌+◌, ◌==◌, if◌then◌else◌, List, [], ◌∷◌, length, Option, Some, None}
use Rattle.std.specs.Borrow.{Bor}
use Rattle.std.specs.Range.Bound.{bound_map}
use Rattle.std.specs.declared.cmp.Ordering.{Ordering}
use Rattle.std.specs.declared.ops.Bound.{Bound}
use Rattle.slab.specs.Slab.{Slab}
use Rattle.tree_leaf.specs.Entries.{leaf_entries}
use Rattle.tree_leaf.specs.Rest.{StandsIn}
use Rattle.tree_leaf.specs.Walks.{LeafWalk, here, stood_on}
use Rattle.tree_array.specs.Walk.{places_left}
use Rattle.tree_model.specs.Rest.{lent_entry}
use Rattle.tree_leaf.specs.declared.leaf.LeafOf.{LeafOf}
use Rattle.tree_model.specs.declared.way.Way.{Way}
use Rattle.tree_node.specs.declared.node.Root.{Root}
use Rattle.tree_node.specs.Arenas.{TreeArenas}
use Rattle.tree_node.specs.Whole.{IsTree, leaves_under, walk_under}
use Rattle.tree_model.specs.Cursor.{Cursor, End, next_end, unopened, at_place, exhausted}
use Rattle.tree_cursors.specs.declared.end.End.{End as TreeEnd}
use Rattle.tree_cursors.specs.declared.end.End.TheVariants.{Unopened, At, Exhausted}

module _ {K V : Type 0} {LEN : ℕ} where
  -- where the entry number i of a leaf is among the entries of these leaves
  abbrev pub place_in : Slab (LeafOf K V LEN) → List ℕ → ℕ → ℕ → ℕ
  place_in leaves [] id i = i
  place_in leaves (x ∷ ids) id i = if x == id then i else length (leaf_entries leaves x) + place_in leaves ids id i

  abbrev pub place_at : Slab (LeafOf K V LEN) → List ℕ → ℕ → Option ℕ → End
  place_at leaves ids id None = unopened
  place_at leaves ids id (Some i) = at_place (place_in leaves ids id i)

  -- the pair that an end stands on
  abbrev pub pair_of : TreeEnd (LeafWalk K V LEN) → Option (K × V)
  pair_of Unopened = None
  pair_of (At walk) = stood_on walk
  pair_of Exhausted = None

module _ {K V : Type 0} {LEN : ℕ} (arenas : TreeArenas K V LEN) (root : Option Root) where
  -- where a walk stands among the pairs of the tree
  abbrev pub place_of : LeafWalk K V LEN → End
  place_of walk = place_at arenas.leaves (leaves_under arenas.nodes root) walk.leaf walk.at

  abbrev pub end_of : TreeEnd (LeafWalk K V LEN) → End
  end_of Unopened = unopened
  end_of (At walk) = place_of walk
  end_of Exhausted = exhausted

  -- the walk stands on an entry of a leaf of the tree
  pub record Stands (walk : LeafWalk K V LEN) : Type 0 where
    pub stand : StandsIn arenas.leaves (leaves_under arenas.nodes root) walk
    pub pair : K × V
    pub here : stood_on walk ≡ Some pair

  abbrev pub EndStands : TreeEnd (LeafWalk K V LEN) → Type 0
  EndStands Unopened = Unit {0}
  EndStands (At walk) = Stands walk
  EndStands Exhausted = Unit {0}

  -- an end has gone where a move takes it, and stands on this entry
  pub record GoesTo (cmp : K → K → Ordering) (way : Way) (old : TreeEnd (LeafWalk K V LEN)) (entry : Bor K × Bor V) (new : TreeEnd (LeafWalk K V LEN)) : Type 0 where
    pub place : (bound : Bound K) → end_of new ≡ next_end cmp way bound (walk_under arenas root) (end_of old)
    pub stands : EndStands new
    pub pair : pair_of new ≡ Some (lent_entry entry)

  -- what is seen of a cursor's parts
  abbrev pub seen : Bound (Bor K) → Bound (Bor K) → TreeEnd (LeafWalk K V LEN) → TreeEnd (LeafWalk K V LEN) → Cursor K V
  seen low high forward backward = record {
    pairs = walk_under arenas root;
    low = bound_map (λ k. k.now) low;
    high = bound_map (λ k. k.now) high;
    forward = end_of forward;
    backward = end_of backward;
  }

  -- what holds of its parts
  pub record Kept (cmp : K → K → Ordering) (forward backward : TreeEnd (LeafWalk K V LEN)) : Type 0 where
    pub tree : IsTree cmp arenas root
    pub forward_stands : EndStands forward
    pub backward_stands : EndStands backward

-- an end has no entry ahead of it in its leaf, or stands in none
abbrev pub EndsLeaf : {K V : Type 0} {LEN : ℕ} → Way → TreeEnd (LeafWalk K V LEN) → Type 0
EndsLeaf way Unopened = Unit {0}
EndsLeaf way (At walk) = places_left way (length (here walk)) walk.at ≡ 0
EndsLeaf way Exhausted = Unit {0}

-- an end went to the next entry in its leaf, in whatever tree it stands; or there was none, and it is what it was
abbrev pub StepsInLeaf : {K V : Type 0} {LEN : ℕ} → (K → K → Ordering) → Way → TreeEnd (LeafWalk K V LEN) → Option (Bor K × Bor V) → TreeEnd (LeafWalk K V LEN) → Type 0
StepsInLeaf cmp way old None new = (new ≡ old) × EndsLeaf way old
StepsInLeaf {K} {V} {LEN} cmp way old (Some entry) new =
    (arenas : TreeArenas K V LEN) (root : Option Root) → IsTree cmp arenas root → EndStands arenas root old → GoesTo arenas root cmp way old entry new
