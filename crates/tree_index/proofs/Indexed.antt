-- The pairs of a whole tree ascend, and how many there are after a store and after a removal.
use Rattle.std.proofs.Common.{◌≡◌, ◌⊎◌, ◌↔◌, ◌==◌, ℕ, zero, suc, ◌+◌, ◌<◌, Bool, true, false, IsTrue, List, [], ◌∷◌, length, Option, Some, None, MatchOption, is_some, Bor, Result, Ok, Err, inl, inr, refl, sym, ap, ◌∙◌, arith, Ordering, option_map, append-nil}
use Rattle.tree_model.proofs.Common.{IsTotalOrder, nat_tests, IsAbsent, IsAscending, IsPresent, pair_at, put}
use Rattle.tree_model.specs.declared.commands.InsertError.{InsertError}
use Rattle.tree_array.specs.declared.answers.StoreResult.{StoreResult}
use Rattle.tree_array.specs.declared.answers.StoreResult.TheVariants.{New, Replaced, Duplicate, Full}
use Rattle.tree_node.proofs.Common.{get, TreeArenas, Stands, StandsOrRetired, leaves_at, walk, IsRetiredRoot, leaves_under, walk_under, root_at}
use Rattle.tree_node.specs.declared.node.Root.{Root}
use Rattle.tree_model.specs.declared.commands.InsertError.TheVariants.{Duplicate as SameKey, OutOfMemory}
use Rattle.tree_model.specs.Edits.{Inserts as InsertsPair, handed_back}
use Rattle.tree_model.proofs.Lengths.{length-put, without_absent, without_present}
use Rattle.tree_parts.specs.Ends.{IsLinked}
use Rattle.tree_insert.specs.Inserts.{Inserts, declined}
use Rattle.tree_node.specs.Whole.{IsTop, depth_of}
use Rattle.tree_node.proofs.Walks.{walk_ascends}
use Rattle.tree_node.proofs.Standing.{no_children}
use Rattle.tree_root.specs.declared.tree.Stored.{Stored}
use Rattle.tree_root.specs.declared.tree.Stored.TheVariants.{New as NewKey, Replaced as OldKey}
use Rattle.tree_root.specs.declared.tree.Tree.{Tree}
use Rattle.tree_split.proofs.Tests.{packed_depth}
use Rattle.tree_root.proofs.Storing.{stands_or_retired}
use Rattle.tree_index.specs.Index.{Index, IsTreeOf, IsWritten, StaysPacked, KeepsSpare, SpendsInsert, StoresPair, index_of}
use Rattle.tree_root.specs.Trees.{IsWhole, Stores, Takes, pairs_of, told}

module _ {K V : Type 0} {LEN : ℕ} {cmp : K → K → Ordering} (o : IsTotalOrder cmp) where
  pub pairs_ascend : (tree : Tree K V LEN) → IsWhole cmp tree → IsAscending cmp (pairs_of tree)
  pairs_ascend tree whole = by_root tree.root whole.top
    where
      by_top : (root : Root) → (Stands cmp root.level tree.arenas None root.id None ⊎ IsRetiredRoot tree.arenas root.id root.level) → IsAscending cmp (walk root.level tree.arenas root.id)
      by_top root (inl s) = walk_ascends o root.level tree.arenas None root.id None s
      by_top root (inr gone) = rw (gone.0, (no_children (get tree.arenas.nodes root.id) gone.1).1) tt

      by_root : (root : Option Root) → IsTop cmp tree.arenas root → IsAscending cmp (walk_under tree.arenas root)
      by_root None top = tt
      by_root (Some root) top = by_top root top.1

  module _ (old new : Tree K V LEN) (key : K) (val : V) where
    -- a new pair is one more, and a replaced one is as many
    pub one_more : (upsert : Bool) → Stores cmp upsert old new key val (Ok New) → length (pairs_of new) ≡ length (pairs_of old) + 1
    one_more upsert stores = omega (arith, ap length stores.pairs.1, length-put cmp (pairs_of old) key val, without_absent cmp (pairs_of old) key stores.pairs.0)

    pub as_many : (upsert : Bool) → IsWhole cmp old → Stores cmp upsert old new key val (Ok Replaced) → length (pairs_of new) ≡ length (pairs_of old)
    as_many upsert whole stores =
        omega (arith, ap length stores.pairs.2, length-put cmp (pairs_of old) key val, without_present o (pairs_of old) key (pairs_ascend old whole) stores.pairs.1)

  -- a removed pair is one less
  pub one_less : (Says : V → Bool → Type 0) (old new : Tree K V LEN) (key : K) → IsWhole cmp old → Takes cmp Says old new key true → length (pairs_of new) + 1 ≡ length (pairs_of old)
  one_less Says old new key whole takes =
      let there : IsPresent cmp (pairs_of old) key = rw takes.pairs.1 refl in
      omega (arith, ap length takes.pairs.3, without_present o (pairs_of old) key (pairs_ascend old whole) there)

module _ {K V : Type 0} {LEN : ℕ} (cmp : K → K → Ordering) (upsert : Bool) (old new : Tree K V LEN) (key : K) (val : V) where
  -- a pair that comes back for a duplicate, or because there is no room, leaves the pairs
  as_it_was : (result : Result (StoreResult K V) (K × V)) → declined result ≡ true → Inserts cmp upsert result (pairs_of old) key val (pairs_of new) → pairs_of new ≡ pairs_of old
  as_it_was (Ok New) so inserts = absurd (cc)
  as_it_was (Ok Replaced) so inserts = absurd (cc)
  as_it_was (Ok (Duplicate k v)) so inserts = inserts.4
  as_it_was (Ok (Full k v)) so inserts = inserts.3
  as_it_was (Err pair) so inserts = absurd (cc)

  -- so does one that comes back from the tree
  pub pairs_kept : (error : InsertError K V) → Stores cmp upsert old new key val (told (Err error)) → pairs_of new ≡ pairs_of old
  pairs_kept (SameKey k v) stores = stores.pairs.4
  pairs_kept (OutOfMemory k v) stores = stores.pairs.3

  -- what a store in the tree is to the index
  pub stores_pair : (result : Result Stored (InsertError K V)) → Stores cmp upsert old new key val (told result) → StoresPair cmp upsert LEN (index_of cmp old) (index_of cmp new) key val result
  stores_pair result stores = record {
    pairs = stores.pairs;
    spent = stores.spent;
    written = λ taken. record { lowers = stores.lowers; first = λ none. stores.first none taken; shallow = λ so. packed_depth cmp new.arenas new.root so };
    kept = λ so. rw (as_it_was (told result) so stores.pairs, (stores.kept so).0, (stores.kept so).1, (stores.kept so).2) refl;
    packed = stores.packed;
  }

-- a write that changed nothing met a tree with a root
pub deep_if_kept : {K V : Type 0} (LEN : ℕ) (old new : Index K V) → new ≡ old → IsWritten LEN old new → 0 < old.depth
deep_if_kept {K = K} {V = V} LEN old new same written = by_depth old.depth refl
  where
    by_depth : (depth : ℕ) → old.depth ≡ depth → 0 < depth
    by_depth zero none = absurd (omega (arith, none, ap (λ (index : Index K V). index.depth) same, (written.first none).0))
    by_depth (suc depth) deep = omega arith

-- a removal that removed nothing leaves the index as it was
pub index_kept : {K V : Type 0} {LEN : ℕ} (cmp : K → K → Ordering) (Says : V → Bool → Type 0) (old new : Tree K V LEN) (key : K) → Takes cmp Says old new key false → index_of cmp new ≡ index_of cmp old
index_kept cmp Says old new key takes = rw (takes.pairs.1, (takes.kept refl).0, (takes.kept refl).1, (takes.kept refl).2) refl

-- a tree without a leaf has no pair
no_pairs : {K V : Type 0} {LEN : ℕ} (a : TreeArenas K V LEN) (root : Option Root) → leaves_under a.nodes root ≡ [] → walk_under a root ≡ []
no_pairs a None bare = refl
no_pairs a (Some root) bare = rw bare refl

-- what a removal from the tree leaves of the spare
pub keeps_spare : {K V : Type 0} {LEN : ℕ} (cmp : K → K → Ordering) (Says : V → Bool → Type 0) (old new : Tree K V LEN) (key : K) (removed : Bool) → Takes cmp Says old new key removed → KeepsSpare (index_of cmp old) (index_of cmp new)
keeps_spare cmp Says old new key removed takes = elim takes.spare [ inl more ↦ inl more | inr none ↦ inr (no_pairs new.arenas new.root none, rw none refl) ]

-- the index is empty where no pair is counted
pub empty_by_count : {X : Type 0} (l : List X) (n : ℕ) → n ≡ length l → IsTrue (n == 0) ↔ (l ≡ [])
empty_by_count [] n none = rw none ((λ t. refl), (λ e. refl))
empty_by_count (x ∷ xs) n some = ((λ t. absurd (let none : n ≡ 0 = grind (arith, nat_tests) in omega (arith, some, none))), (λ e. absurd (cc)))

-- a pair of these two
pub pair_is : {A B : Type 0} (pair : A × B) (a : A) (b : B) → pair.0 ≡ a → pair.1 ≡ b → pair ≡ (a, b)
pair_is (x, y) a b first second = rw (first, second) refl

-- what is lent of an index is its tree
pub is_tree_of : {K V : Type 0} {LEN : ℕ} (cmp : K → K → Ordering) (tree : Tree K V LEN) (root : Option ℕ) → option_map (λ id. root_at id (depth_of tree.root)) root ≡ tree.root → IsWhole cmp tree → IsTreeOf cmp (index_of cmp tree) tree.arenas root
is_tree_of cmp tree root same whole = record {
  tree = rw same whole;
  pairs = rw same refl;
  spare = rw same refl;
  packed = rw same refl;
  rootless = λ none. let gone : tree.root ≡ None = sym same ∙ ap (option_map (λ id. root_at id (depth_of tree.root))) none in rw gone refl;
}

-- a key is present where a pair is found at it
pub present_where_found : {K V : Type 0} (cmp : K → K → Ordering) (l : List (K × V)) (k : K) (found : Option (Bor K × Bor V)) (is : Bool) → is ≡ is_some found
    → MatchOption found (IsAbsent cmp l k) (λ pair. pair_at cmp l k ≡ Some (pair.0.now, pair.1.now)) → IsTrue is ↔ IsPresent cmp l k
present_where_found cmp l k None is told absent = rw (told, absent) ((λ t. absurd (cc)), (λ t. absurd (cc)))
present_where_found cmp l k (Some pair) is told at_key = rw (told, at_key) ((λ t. refl), (λ t. refl))

-- a tree that is lent can be walked from either end
pub walks_from : {K V : Type 0} {LEN : ℕ} (cmp : K → K → Ordering) (index : Index K V) (arenas : TreeArenas K V LEN) (root : ℕ) → IsTreeOf cmp index arenas (Some root)
    → (0 < index.depth) × StandsOrRetired cmp index.depth arenas root × IsLinked index.depth arenas root
walks_from cmp index arenas root is =
    (is.tree.top.0, stands_or_retired cmp arenas root index.depth is.tree, ([], [], rw (append-nil (leaves_at index.depth arenas.nodes root)) is.tree.chain))

-- what a store is to an insert, which replaces no pair, and to an upsert, which finds no duplicate
module _ {K V : Type 0} (LEN : ℕ) (cmp : K → K → Ordering) (old new : Index K V) (key : K) (val : V) where
  pub inserted : (stored : Stored) → StoresPair cmp false LEN old new key val (Ok stored) → IsAbsent cmp old.pairs key × (new.pairs ≡ put cmp old.pairs key val) × IsWritten LEN old new × StaysPacked cmp old new key
  inserted NewKey stores = (stores.pairs.0, stores.pairs.1, stores.written refl, stores.packed refl)
  inserted OldKey stores = absurd (let no : false ≡ true = stores.pairs.0 in cc)

  pub not_inserted : (error : InsertError K V) → StoresPair cmp false LEN old new key val (Err error) → InsertsPair cmp {T = Unit {0}} old.pairs key val (Err error) new.pairs × SpendsInsert {T = Unit {0}} LEN old new (Err error)
  not_inserted (SameKey k v) stores = ((stores.pairs.1, stores.pairs.2, stores.pairs.3, stores.pairs.4), (deep_if_kept LEN old new (stores.kept refl) (stores.written refl), stores.kept refl))
  not_inserted (OutOfMemory k v) stores = ((stores.pairs.0 refl, stores.pairs.1, stores.pairs.2, stores.pairs.3), stores.spent refl)

  pub upserted : (stored : Stored) → StoresPair cmp true LEN old new key val (Ok stored) → (new.pairs ≡ put cmp old.pairs key val) × IsWritten LEN old new × StaysPacked cmp old new key
  upserted NewKey stores = (stores.pairs.1, stores.written refl, stores.packed refl)
  upserted OldKey stores = (stores.pairs.2, stores.written refl, stores.packed refl)

  not_upserted : (k : K) (v : V) → StoresPair cmp true LEN old new key val (Err (OutOfMemory k v)) → (◌≡◌ {A = K × V} (k, v) (key, val)) × (new.pairs ≡ old.pairs) × (old.spare ≡ 0)
  not_upserted k v stores = (pair_is (k, v) key val stores.pairs.1 stores.pairs.2, stores.pairs.3, stores.spent refl)

  no_duplicate : (k : K) (v : V) → StoresPair cmp true LEN old new key val (Err (SameKey k v)) → ⊥
  no_duplicate k v stores = let no : true ≡ false = stores.pairs.0 in cc

  pub upsert_refused : (error : InsertError K V) → StoresPair cmp true LEN old new key val (Err error) → (handed_back error ≡ (key, val)) × (new.pairs ≡ old.pairs) × (old.spare ≡ 0)
  upsert_refused (OutOfMemory k v) stores = not_upserted k v stores
  upsert_refused (SameKey k v) stores = absurd (no_duplicate k v stores)
