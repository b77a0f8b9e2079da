-- Pairs that are put one after another, and an index of pairs that ascend.
use Rattle.std.specs.Prelude.{◌≡◌, true, List, ◌∷◌, [], ◌++◌, Option, Result, Ok, Err, MatchResult, OnOk}
use Rattle.std.specs.Iterator.{Drains, Yields}
use Rattle.std.specs.List.{fold}
use Rattle.std.specs.declared.cmp.Ordering.{Ordering}
use Rattle.tree_index.specs.declared.collects.FromSortedError.{FromSortedError}
use Rattle.tree_index.specs.declared.collects.FromSortedError.TheVariants.{NotAscending, OutOfMemory}
use Rattle.tree_model.specs.Pairs.{IsAscending, put}
use Rattle.tree_index.specs.Index.{Index}

module _ {K V : Type 0} (cmp : K → K → Ordering) where
  -- l with each pair put, in order: of equal keys the last one stays
  abbrev pub puts : List (K × V) → List (K × V) → List (K × V)
  puts l pairs = fold (λ list pair. put cmp list pair.0 pair.1) l pairs

  -- Pairs that a source gives were put in order: all of them, or those before the one for which an allocation failed, which comes back.
  pub record PutsPairs {U T : Type 0} (becomes : U → T → Type 0) (steps : T → Option (K × V) → T → Type 0) (source : U) (old new : Index K V) (result : Result (Unit {0}) (K × V)) : Type 0 where
    pub from : T
    pub became : becomes source from
    pub pairs : List (K × V)
    pub all : MatchResult result (λ _. Drains steps from pairs) (λ refused. (rest : T) × Yields steps from (pairs ++ refused ∷ []) rest)
    pub put : new.pairs ≡ puts old.pairs pairs
    -- pairs that come in ascending order leave a packed index packed
    pub packed : OnOk result (IsAscending cmp (old.pairs ++ pairs) → old.packed ≡ true → new.packed ≡ true)

  -- An index of the very pairs, as full as can be. Or they don't ascend and come back, or memory was refused.
  abbrev pub BuildsSorted : List (K × V) → Result (Index K V) (FromSortedError K V) → Type 0
  BuildsSorted pairs (Ok index) = IsAscending cmp pairs × (index.pairs ≡ pairs) × (index.packed ≡ true)
  BuildsSorted pairs (Err (NotAscending back)) = (¬ (IsAscending cmp pairs)) × (back.items ≡ pairs)
  BuildsSorted pairs (Err OutOfMemory) = IsAscending cmp pairs
