-- What files stand for, and what a store keeps.
use Rattle.std.specs.Prelude.{◌≡◌, ℕ, Bool, false, List, [], map, Option}
use Rattle.std.specs.declared.cmp.Ordering.{Ordering}
use Rattle.store_codec.specs.Records.{record_map}
use Rattle.store_codec.specs.declared.records.Record.{Record}
use Rattle.store_log.specs.Head.{HasKinds}
use Rattle.store_pair.specs.Pair.{AreClean, HavePair, Held, LeavePair, MayHold, Pair}
use Rattle.store_log.specs.declared.head.Head.{Head}
use Rattle.tree_store.specs.Changes.{Leads, Spells, changed_by}
use Rattle.store_pair.specs.declared.files.Files.{Files}

-- what contracts see of a store
pub record Store (K V D : Type 0) : Type 0 where
  pub pairs : List (K × V)
  -- what of the store is in its files
  pub saved : Pair D

abbrev pub store_of : {K V D : Type 0} → List (K × V) → Pair D → Store K V D
store_of pairs log = record { pairs = pairs; saved = log }

-- the head of a new store
abbrev pub new_head : ℕ → ℕ → ℕ → Head
new_head keys values key = record { kind_of_keys = keys; kind_of_values = values; generation = 1; key = key }

module _ {K V A B : Type 0} (cmp : K → K → Ordering) (seen_key : K → A) (seen_value : V → B) (read : List ℕ → Option (Record A B × List ℕ)) where
  -- the batches in the files lead to these pairs
  abbrev pub HasSaved : {D : Type 0} → Pair D → List (K × V) → Type 0
  HasSaved saved pairs = Leads cmp seen_key seen_value read saved.texts [] pairs

  -- the files have a head of these kinds, and batches that lead to these pairs
  pub record StandFor (kinds : ℕ × ℕ) (held : Held) (pairs : List (K × V)) : Type 0 where
    pub head : Head
    pub are : HasKinds head kinds
    pub texts : List (List ℕ)
    pub has : HavePair head texts held
    pub leads : Leads cmp seen_key seen_value read texts [] pairs

  -- a crash leaves files that stand for these pairs
  abbrev pub Leave : {D : Type 0} → ℕ × ℕ → (D → List ℕ → Type 0) → Files D → List (K × V) → Type 0
  Leave kinds may_leave files pairs = (left : Held) → MayHold may_leave files left → StandFor kinds left pairs

  -- the pairs are those of the batches in the files, after the records of the batch that isn't there yet
  pub record GoesOn (texts : List (List ℕ)) (batch : List ℕ) (pairs : List (K × V)) : Type 0 where
    pub durable : List (K × V)
    pub leads : Leads cmp seen_key seen_value read texts [] durable
    pub records : List (Record K V)
    pub spells : Spells read (map (record_map seen_key seen_value) records) batch
    pub now : pairs ≡ changed_by cmp records durable

  -- a log and a batch whose pairs these are, unless the log is stopped
  pub record IsStore {D : Type 0} (kinds : ℕ × ℕ) (is_clean : D → Bool) (may_leave : D → List ℕ → Type 0) (log : Pair D) (batch : List ℕ) (pairs : List (K × V)) : Type 0 where
    pub are : HasKinds log.head kinds
    pub leaves : log.stopped ≡ false → AreClean is_clean log.files → LeavePair may_leave log.head log.texts log.files
    pub goes_on : log.stopped ≡ false → AreClean is_clean log.files → GoesOn log.texts batch pairs
