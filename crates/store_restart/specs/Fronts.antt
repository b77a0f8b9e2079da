-- The batches of a run, and what is found of them.
use Rattle.std.specs.Prelude.{◌≡◌, ℕ, ◌≤◌, Bool, false, List, [], ◌∷◌, ◌++◌, length, Option}
use Rattle.std.specs.declared.cmp.Ordering.{Ordering}
use Rattle.store_codec.specs.declared.records.Record.{Record}
use Rattle.store_pair.specs.Pair.{AreClean, Held}
use Rattle.store_restart.specs.declared.batch.Batch.{Batch}
use Rattle.store_restart.specs.declared.run.Reached.{Reached}
use Rattle.tree_store.specs.Changes.{changed_by}
use Rattle.tree_store.specs.Laws.{AreAlike}
use Rattle.tree_store.specs.Store.{HasSaved, Leave, StandFor, Store}

-- the list after these batches, the first of them first
abbrev pub made_by : {K V : Type 0} → (K → K → Ordering) → List (Batch K V) → List (K × V) → List (K × V)
made_by cmp [] pairs = pairs
made_by cmp (batch ∷ batches) pairs = made_by cmp batches (changed_by cmp batch.changes.items pairs)

-- the first of the batches: all that are durable, and none that wasn't made
pub record IsFront {B : Type 0} (reached : Reached) (front batches : List B) : Type 0 where
  pub rest : List B
  pub is : front ++ rest ≡ batches
  pub least : reached.durable ≤ length front
  pub most : length front ≤ reached.made

-- a list is seen as the one after a front of the batches
pub record IsAfterFront {K V A B : Type 0} (cmp : K → K → Ordering) (seen_key : K → A) (seen_value : V → B) (reached : Reached) (batches : List (Batch K V)) (old new : List (K × V)) : Type 0 where
  pub front : List (Batch K V)
  pub is : IsFront reached front batches
  pub alike : AreAlike seen_key seen_value new (made_by cmp front old)

module _ {K V A B : Type 0} (cmp : K → K → Ordering) (seen_key : K → A) (seen_value : V → B) (read : List ℕ → Option (Record A B × List ℕ)) (kinds : ℕ × ℕ) where
  -- the files stand for a list after a front of the batches
  pub record StandForFront (reached : Reached) (batches : List (Batch K V)) (old : List (K × V)) (held : Held) : Type 0 where
    pub pairs : List (K × V)
    pub stand : StandFor cmp seen_key seen_value read kinds held pairs
    pub after : IsAfterFront cmp seen_key seen_value reached batches old pairs

  -- a store isn't stopped, and its pairs are what its files stand for after a crash
  pub record IsDurable {D : Type 0} (is_clean : D → Bool) (may_leave : D → List ℕ → Type 0) (store : Store K V D) : Type 0 where
    pub runs : store.saved.stopped ≡ false
    pub saved : AreClean is_clean store.saved.files → HasSaved cmp seen_key seen_value read store.saved store.pairs
    pub leaves : AreClean is_clean store.saved.files → Leave cmp seen_key seen_value read kinds may_leave store.saved.files store.pairs
