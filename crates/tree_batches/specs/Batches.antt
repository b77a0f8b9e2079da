-- Look-ups of several keys: where each has come to, and what they answer.
use Rattle.std.specs.Prelude.{◌≡◌, ◌+◌, ◌-◌, ◌≤◌, ◌<◌, ℕ, List, map, length, get_or, Option, None, Some, MatchOption, unwrap_or}
use Rattle.std.specs.Option.{option_map}
use Rattle.std.specs.declared.cmp.Ordering.{Ordering}
use Rattle.tree_batches.specs.declared.batch.Batch.{Batch}
use Rattle.tree_model.specs.Pairs.{pair_at}
use Rattle.tree_node.specs.Arenas.{Slab, TreeArenas, get}
use Rattle.tree_node.specs.Tree.{IsRetired, child_of}
use Rattle.tree_node.specs.Ways.{IsLeafFor}
use Rattle.tree_node.specs.declared.node.NodeOf.{NodeOf}
use Rattle.tree_node.specs.declared.node.NodeOf.TheVariants.{Internal, Leaf}
use Rattle.tree_node.specs.declared.node.Root.{Root}

-- what single look-ups of these keys find, in turn
abbrev pub entries_for : {K V : Type 0} → (K → K → Ordering) → List (K × V) → List K → List (Option (K × V))
entries_for cmp pairs keys = map (pair_at cmp pairs) keys

abbrev pub values_for : {K V : Type 0} → (K → K → Ordering) → List (K × V) → List K → List (Option V)
values_for cmp pairs keys = map (option_map (λ pair. pair.1)) (entries_for cmp pairs keys)

module _ {K : Type 0} {LEN : ℕ} (cmp : K → K → Ordering) (key : K) where
  -- the child of a node over nodes that the key belongs to
  abbrev pub node_of : Option (NodeOf K LEN) → Option ℕ
  node_of None = None
  node_of (Some (Internal node)) = child_of cmp key node.children.entries node.unbounded_child
  node_of (Some (Leaf node)) = None

  -- the same of a node over leaves
  abbrev pub leaf_of : Option (NodeOf K LEN) → Option ℕ
  leaf_of None = None
  leaf_of (Some (Internal node)) = None
  leaf_of (Some (Leaf node)) = child_of cmp key node.children.entries node.unbounded_child

  abbrev pub child_or_itself : Slab (NodeOf K LEN) → ℕ → ℕ
  child_or_itself nodes id = unwrap_or (node_of (get nodes id)) id

module _ {K V : Type 0} {LEN : ℕ} (cmp : K → K → Ordering) (arenas : TreeArenas K V LEN) where
  -- the leaf under a root that the key belongs to, or none if no leaf is under the root
  abbrev pub LeafUnder : Option Root → K → Option ℕ → Type 0
  LeafUnder None key found = found ≡ None
  LeafUnder (Some root) key found = MatchOption found (IsRetired root.level arenas root.id) (IsLeafFor cmp key root.level arenas root.id)

module _ {Q K V : Type 0} {LEN : ℕ} (key : Q → K) (cmp : K → K → Ordering) (arenas : TreeArenas K V LEN) where
  -- the same of each key up to a place, by the forms in which they are lent
  abbrev pub HaveLeaves : Option Root → List Q → ℕ → List (Option ℕ) → Type 0
  HaveLeaves root keys to found = (k : ℕ) (d : Q) → k < to → LeafUnder cmp arenas root (key (get_or keys k d)) (get_or found k None)

  -- the leaves of all of these keys, in an array of eight
  pub record LeavesUnder (root : Option Root) (keys : List Q) (found : List (Option ℕ)) : Type 0 where
    pub long : length found ≡ 8
    pub each : HaveLeaves root keys (length keys) found

-- what is answered for a key that is lent: what the pairs show for it
abbrev pub answer_for : {Q K V Y : Type 0} → ((K → K → Ordering) → List (K × V) → K → Y) → (Q → K) → (K → K → Ordering) → List (K × V) → Q → Y
answer_for shown key cmp pairs lent = shown cmp pairs (key lent)

module _ {Q X Y : Type 0} (seen : X → Y) (answer : Q → Y) where
  -- the answers for the keys up to a place
  abbrev pub AreFound : List Q → ℕ → List X → Type 0
  AreFound keys to found = (k : ℕ) (d : Q) (e : X) → k < to → seen (get_or found k e) ≡ answer (get_or keys k d)

  -- A batch has at most eight keys of a list, each of which has its answer from the first that wasn't answered on.
  pub record HasFound (keys : List Q) (batch : Batch X) : Type 0 where
    pub begun : batch.start ≤ batch.answered
    pub within : batch.answered ≤ batch.end
    pub inside : batch.end ≤ length keys
    pub few : batch.end ≤ batch.start + 8
    pub long : length batch.found ≡ 8
    pub each : (k : ℕ) (d : Q) (e : X) → batch.answered ≤ k → k < batch.end → seen (get_or batch.found (k - batch.start) e) ≡ answer (get_or keys k d)

-- no key has its answer, and none was answered
pub record IsEmpty {X : Type 0} (batch : Batch X) : Type 0 where
  pub answered : batch.answered ≡ 0
  pub start : batch.start ≡ 0
  pub end : batch.end ≡ 0
  pub long : length batch.found ≡ 8

-- one key more was answered
pub record Advances {X : Type 0} (old new : Batch X) : Type 0 where
  pub found : new.found ≡ old.found
  pub start : new.start ≡ old.start
  pub end : new.end ≡ old.end
  pub answered : new.answered ≡ old.answered + 1
