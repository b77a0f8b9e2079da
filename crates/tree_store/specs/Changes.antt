-- What records do to a list of pairs, and which records a text has.
use Rattle.std.specs.Prelude.{◌≡◌, ℕ, List, [], ◌∷◌, ◌++◌, map, Option, Some, Result, Ok, Err}
use Rattle.std.specs.declared.cmp.Ordering.{Ordering}
use Rattle.tree_model.specs.Pairs.{put, without, cut, IsAbsent, IsPresent}
use Rattle.tree_model.specs.declared.commands.InsertError.{InsertError}
use Rattle.tree_model.specs.declared.commands.InsertError.TheVariants.{Duplicate, OutOfMemory}
use Rattle.store_codec.specs.Records.{ReadsBack, record_map}
use Rattle.store_codec.specs.declared.records.Record.{Record}
use Rattle.store_codec.specs.declared.records.Record.TheVariants.{Put, Remove, Cut, Clear}

module _ {K V : Type 0} (cmp : K → K → Ordering) where
  -- the list after a record
  abbrev pub changed : Record K V → List (K × V) → List (K × V)
  changed (Put key value) pairs = put cmp pairs key value
  changed (Remove key) pairs = without cmp pairs key
  changed (Cut low high) pairs = cut cmp pairs low high
  changed Clear pairs = []

  -- the list after these records, the first of them first
  abbrev pub changed_by : List (Record K V) → List (K × V) → List (K × V)
  changed_by [] pairs = pairs
  changed_by (first ∷ records) pairs = changed_by records (changed first pairs)

  -- The pair is stored, if its key was absent. Or it comes back and nothing changed: as a duplicate if its key is present, or because an allocation failed.
  abbrev pub InsertsOrRefuses : {T : Type 0} → List (K × V) → K → V → Result T (InsertError K V) → List (K × V) → Type 0
  InsertsOrRefuses old k v (Ok _) new = IsAbsent cmp old k × (new ≡ put cmp old k v)
  InsertsOrRefuses old k v (Err (Duplicate key value)) new = IsPresent cmp old k × (key ≡ k) × (value ≡ v) × (new ≡ old)
  InsertsOrRefuses old k v (Err (OutOfMemory key value)) new = (key ≡ k) × (value ≡ v) × (new ≡ old)

module _ {A B : Type 0} (read : List ℕ → Option (Record A B × List ℕ)) where
  -- the text has these records, one behind the other, and nothing else
  abbrev pub ReadsRecords : List (Record A B) → List ℕ → Type 0
  ReadsRecords [] text = text ≡ []
  ReadsRecords (first ∷ records) text = (rest : List ℕ) × (read text ≡ Some (first, rest)) × ReadsRecords records rest

  -- the same, and each record is found whatever is behind it
  abbrev pub Spells : List (Record A B) → List ℕ → Type 0
  Spells [] text = text ≡ []
  Spells (first ∷ records) text = (front : List ℕ) × (rest : List ℕ) × (text ≡ front ++ rest) × ReadsBack read front first × Spells records rest

  -- each text has some records and nothing else
  abbrev pub HaveRecords : List (List ℕ) → Type 0
  HaveRecords [] = Unit {0}
  HaveRecords (text ∷ texts) = ((records : List (Record A B)) × ReadsRecords records text) × HaveRecords texts

module _ {K V A B : Type 0} (cmp : K → K → Ordering) (seen_key : K → A) (seen_value : V → B) (read : List ℕ → Option (Record A B × List ℕ)) where
  -- the records of these texts lead from one list to another
  abbrev pub Leads : List (List ℕ) → List (K × V) → List (K × V) → Type 0
  Leads [] old new = new ≡ old
  Leads (text ∷ texts) old new = (records : List (Record K V)) × ReadsRecords read (map (record_map seen_key seen_value) records) text × Leads texts (changed_by cmp records old) new

  -- a write put records behind a text, and did what they say
  pub record Notes (old_text new_text : List ℕ) (old new : List (K × V)) : Type 0 where
    pub records : List (Record K V)
    pub more : List ℕ
    pub grows : new_text ≡ old_text ++ more
    pub spells : Spells read (map (record_map seen_key seen_value) records) more
    pub does : new ≡ changed_by cmp records old
