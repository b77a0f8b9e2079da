-- Elements that are added one after another, and a set of elements that ascend.
use Rattle.std.specs.Prelude.{◌≡◌, if◌then◌else◌, List, ◌∷◌, [], ◌++◌, Option, Result, Ok, Err, MatchResult}
use Rattle.std.specs.Iterator.{Drains, Yields}
use Rattle.std.specs.List.{fold}
use Rattle.std.specs.declared.cmp.Ordering.{Ordering}
use Rattle.tree_set.specs.declared.collects.FromSortedError.{FromSortedError}
use Rattle.tree_set.specs.declared.collects.FromSortedError.TheVariants.{NotAscending, OutOfMemory}
use Rattle.tree_set.specs.Sets.{IsAscending, has, put}

module _ {K : Type 0} (cmp : K → K → Ordering) where
  -- l with k among its elements, unless an equal one is there
  abbrev pub added : List K → K → List K
  added l k = if has cmp l k then l else put cmp l k

  -- l with each element added, in order: of equal ones the first stays
  abbrev pub added_each : List K → List K → List K
  added_each l elements = fold (λ list k. added list k) l elements

  -- Elements that a source gives were added in order: all of them, or those before the one for which an allocation failed, which is returned.
  pub record AddsElements {U T : Type 0} (becomes : U → T → Type 0) (steps : T → Option K → T → Type 0) (source : U) (old new : List K) (result : Result (Unit {0}) K) : Type 0 where
    pub from : T
    pub became : becomes source from
    pub elements : List K
    pub all : MatchResult result (λ _. Drains steps from elements) (λ refused. (rest : T) × Yields steps from (elements ++ refused ∷ []) rest)
    pub added : new ≡ added_each old elements

  -- A set of the very elements. Or they don't ascend and are returned, or an allocation failed.
  abbrev pub BuildsSorted : List K → Result (List K) (FromSortedError K) → Type 0
  BuildsSorted elements (Ok set) = IsAscending cmp elements × (set ≡ elements)
  BuildsSorted elements (Err (NotAscending back)) = (¬ (IsAscending cmp elements)) × (back.items ≡ elements)
  BuildsSorted elements (Err OutOfMemory) = IsAscending cmp elements
