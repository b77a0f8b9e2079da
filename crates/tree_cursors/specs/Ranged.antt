-- What the ends of a cursor are to one another.
use Rattle.std.specs.Prelude.{◌≡◌, ℕ, ◌+◌, Bool, true, false, List, filter, length, Option, Some}
use Rattle.std.specs.declared.cmp.Ordering.{Ordering}
use Rattle.std.specs.declared.ops.Bound.TheVariants.{Unbounded}
use Rattle.tree_model.specs.Pairs.{IsAscending, within}
use Rattle.tree_model.specs.declared.way.Way.{Way}
use Rattle.tree_model.specs.declared.way.Way.TheVariants.{On, Back}
use Rattle.tree_leaf.specs.Walks.{LeafWalk}
use Rattle.tree_array.specs.Walk.{places_left}
use Rattle.tree_node.specs.declared.node.Root.{Root}
use Rattle.tree_node.specs.Arenas.{TreeArenas}
use Rattle.tree_model.specs.Cursor.{Cursor, End, unopened, at_place, exhausted, are_apart, can_flip, flipped}
use Rattle.tree_model.specs.Rest.{StandsInside}
use Rattle.tree_cursors.specs.declared.end.End.{End as TreeEnd}
use Rattle.tree_cursors.specs.declared.end.End.TheVariants.{Unopened, At, Exhausted}
use Rattle.tree_cursors.specs.View.{Kept, end_of}

-- in whatever tree the ends stand, this tells whether they are apart there
abbrev pub TellsApart : {K V : Type 0} {LEN : ℕ} → (K → K → Ordering) → TreeEnd (LeafWalk K V LEN) → TreeEnd (LeafWalk K V LEN) → Bool → Type 0
TellsApart {K} {V} {LEN} cmp forward backward apart =
    (arenas : TreeArenas K V LEN) (root : Option Root) → Kept arenas root cmp forward backward
    → apart ≡ are_apart (end_of arenas root forward) (end_of arenas root backward)

-- an end that was never moved
abbrev pub is_new : {W : Type 0} → TreeEnd W → Bool
is_new Unopened = true
is_new (At walk) = false
is_new Exhausted = false

-- a flip takes a cursor s to t and answers r
pub record Flips {K V : Type 0} (cmp : K → K → Ordering) (s : Cursor K V) (r : Bool) (t : Cursor K V) : Type 0 where
  pub cursor : t ≡ flipped cmp s
  pub answer : r ≡ can_flip cmp s
  pub ascending : IsAscending cmp s.pairs
  pub inside : StandsInside s.pairs s.backward

-- how many places of a list of this length an end has still to come to at most
abbrev pub end_left : Way → ℕ → End → ℕ
end_left way len unopened = len
end_left way len (at_place i) = places_left way len (Some i)
end_left way len exhausted = 0

-- how many moves of either end can still answer a pair at most
abbrev pub moves_left : {K V : Type 0} → Cursor K V → ℕ
moves_left c = end_left On (length c.pairs) c.forward + end_left Back (length c.pairs) c.backward

-- both bounds are open
pub record IsOpen {K V : Type 0} (c : Cursor K V) : Type 0 where
  pub low : c.low ≡ Unbounded
  pub high : c.high ≡ Unbounded

-- neither end was ever moved
pub record IsFresh {K V : Type 0} (c : Cursor K V) : Type 0 where
  pub forward : c.forward ≡ unopened
  pub backward : c.backward ≡ unopened

-- the pairs of a cursor that are within its bounds
abbrev pub pairs_within : {K V : Type 0} → (K → K → Ordering) → Cursor K V → List (K × V)
pairs_within cmp c = filter (λ pair. within cmp c.low c.high pair.0) c.pairs

-- the way of the backward end, or of the forward one
abbrev pub way_of : Bool → Way
way_of false = On
way_of true = Back
