-- What a store in a tree comes to: the first pair, a pair under the root, and a pair after the root has grown.
use Rattle.std.proofs.Common.{◌≡◌, ◌⊎◌, ℕ, zero, suc, ◌<◌, Bool, true, false, List, [], Option, Some, None, IsSome, Result, Ok, Err, inl, inr, refl, sym, ap, ◌∙◌, arith, Ordering, Less}
use Rattle.tree_model.proofs.Common.{AllByRecursion, IsTotalOrder, IsAbsent, IsPresent}
use Rattle.tree_model.specs.declared.commands.InsertError.{InsertError}
use Rattle.tree_array.specs.declared.answers.StoreResult.{StoreResult}
use Rattle.tree_array.specs.declared.answers.StoreResult.TheVariants.{New, Replaced, Duplicate, Full}
use Rattle.tree_node.proofs.Common.{get, TreeArenas, IsPart, Unchanged, room, spare, IsRetired, IsRetiredNode, Stands, StandsOrRetired, leaves_at, IsRetiredRoot, IsTree, leaves_under, walk_under, root_at}
use Rattle.tree_node.specs.declared.node.Root.{Root}
use Rattle.std.proofs.lemmas.Bool.{false_from_ne_true}
use Rattle.tree_node.proofs.Ways.{part_not_retired}
use Rattle.tree_insert.specs.Inserts.{Inserts, InsertsUnder, IsNew, asks_split, declined, stores}
use Rattle.tree_insert.specs.Roots.{RaisesRoot}
use Rattle.tree_node.specs.Whole.{HasOnly, depth_of}
use Rattle.tree_insert.proofs.Crowded.{crowded_room}
use Rattle.tree_node.proofs.Whole.{spare_standing, spare_unchanged, tree_after, tree_part, tree_unchanged, walk_unchanged}
use Rattle.tree_node.proofs.Standing.{no_children}
use Rattle.tree_node.proofs.Levels.{node_at}
use Rattle.tree_insert.proofs.RaisedTrees.{tree_raised}
use Rattle.tree_model.specs.declared.commands.InsertError.TheVariants.{Duplicate as Declined, OutOfMemory}
use Rattle.tree_root.specs.declared.tree.Stored.{Stored as TreeStored}
use Rattle.tree_root.specs.declared.tree.Stored.TheVariants.{New as NewKey, Replaced as OldKey}
use Rattle.tree_root.specs.declared.tree.Tree.{Tree}
use Rattle.tree_split.specs.Packed.{IsPacked}
use Rattle.tree_split.proofs.Tests.{packed_unchanged}
use Rattle.tree_root.specs.Trees.{IsWhole, Stores, packed_of, pairs_of, spare_of, told}
use Rattle.tree_root.proofs.Packs.{packed_anew, packed_raised, packed_under_root}

-- a tree always finds room
pub never_full : {K V : Type 0} (result : Result TreeStored (InsertError K V)) → asks_split (told result) ≡ false
never_full (Ok NewKey) = refl
never_full (Ok OldKey) = refl
never_full (Err (Declined key val)) = refl
never_full (Err (OutOfMemory key val)) = refl

-- what is answered for a retired root is the answer of the tree
pub answered : {K V R U : Type 0} {answer full : StoreResult K V} → (R → (answer ≡ full) × U) → R → (◌≡◌ {A = Result (StoreResult K V) (K × V)} (Ok answer) (Ok full)) × U
answered told retired = let it = told retired in (ap Ok it.0, it.1)

-- and a part isn't retired
pub not_retired : {R K V : Type 0} {LEN : ℕ} {cmp : K → K → Ordering} (o : IsTotalOrder cmp) (a : TreeArenas K V LEN) (key : K) (level id : ℕ) → 0 < level → IsPart cmp level a id → IsRetired level a id → R
not_retired o a key level id deep part retired = absurd (part_not_retired o a key level deep id part retired)

-- a tree that is packed stays so, where the pair was stored, and its key is larger than all
abbrev pub KeepsTreePacked : {K V : Type 0} {LEN : ℕ} → (K → K → Ordering) → Tree K V LEN → Tree K V LEN → K → Result (StoreResult K V) (K × V) → Type 0
KeepsTreePacked cmp old new key result = stores result ≡ true → AllByRecursion (λ p. cmp p.0 key ≡ Less) (pairs_of old) → packed_of cmp old ≡ true → packed_of cmp new ≡ true

module _ {K V : Type 0} (cmp : K → K → Ordering) (upsert : Bool) where
  -- a pair that is new is no duplicate
  not_declined : (result : Result (StoreResult K V) (K × V)) (old new : List (K × V)) (key : K) (val : V) → IsNew cmp upsert old key → Inserts cmp upsert result old key val new → asks_split result ≡ false → declined result ≡ false
  not_declined (Ok New) old new key val absent inserts takes = refl
  not_declined (Ok Replaced) old new key val absent inserts takes = refl
  not_declined (Ok (Duplicate k v)) old new key val absent inserts takes = absurd (let none : IsAbsent cmp old key = absent inserts.0 in let there : IsPresent cmp old key = inserts.1 in cc)
  not_declined (Ok (Full k v)) old new key val absent inserts takes = absurd (cc)
  not_declined (Err pair) old new key val absent inserts takes = refl

module _ {K V : Type 0} {LEN : ℕ} (cmp : K → K → Ordering) where
  -- a tree without leaves has no pair, and no spare slot
  bare_pairs : (tree : Tree K V LEN) → leaves_under tree.arenas.nodes tree.root ≡ [] → pairs_of tree ≡ []
  bare_pairs tree bare = by_root tree.root bare
    where
      by_root : (root : Option Root) → leaves_under tree.arenas.nodes root ≡ [] → walk_under tree.arenas root ≡ []
      by_root None none = refl
      by_root (Some root) none = rw none refl

  bare_spare : (tree : Tree K V LEN) → leaves_under tree.arenas.nodes tree.root ≡ [] → spare_of tree ≡ 0
  bare_spare tree bare = rw bare refl

  room_unchanged : (level : ℕ) (a b : TreeArenas K V LEN) (id : ℕ) → Unchanged a b → room level b id ≡ room level a id
  room_unchanged zero a b id same = rw (same.leaves id) refl
  room_unchanged (suc level) a b id same = rw (same.nodes id) refl

  retired_unchanged : (level : ℕ) (a b : TreeArenas K V LEN) (id : ℕ) → Unchanged a b → IsRetired level a id → IsRetired level b id
  retired_unchanged zero a b id same retired = rw (same.leaves id) retired
  retired_unchanged (suc level) a b id same retired = rw (same.nodes id) retired

  module _ (upsert : Bool) (old new : Tree K V LEN) (key : K) (val : V) where
    -- the first pair
    pub stored_first : (id : ℕ) → leaves_under old.arenas.nodes old.root ≡ [] → new.root ≡ Some (root_at id 1) → HasOnly cmp new.arenas id key val → IsPacked cmp None 1 new.arenas id → Stores cmp upsert old new key val (Ok New)
    stored_first id bare root only packed = record {
      whole = rw root only.tree;
      pairs = rw (bare_pairs old bare) (refl, rw root only.pairs);
      lowers = omega (arith, bare_spare old bare);
      spent = λ so. absurd (cc);
      first = λ none taken. (rw root refl, rw root only.spare, rw root (packed_anew cmp new.arenas id packed), bare_pairs old bare);
      kept = λ so. absurd (cc);
      packed = λ so smaller was. rw root (packed_anew cmp new.arenas id packed);
    }

    pub not_stored_first : (pair : K × V) → IsWhole cmp old → leaves_under old.arenas.nodes old.root ≡ [] → new.root ≡ old.root → Unchanged old.arenas new.arenas → pair.0 ≡ key → pair.1 ≡ val
        → Stores cmp upsert old new key val (Err pair)
    not_stored_first pair whole bare root same k v = record {
      whole = rw root (tree_unchanged old.arenas new.arenas old.root same whole);
      pairs = ((λ inserts. rw (bare_pairs old bare) refl), k, v, rw root (walk_unchanged old.arenas new.arenas old.root same));
      lowers = omega (arith, bare_spare old bare);
      spent = λ so. bare_spare old bare;
      first = λ none taken. absurd (cc);
      kept = λ so. absurd (cc);
      packed = λ so. absurd (cc);
    }

    -- a pair under the root
    module _ (id level : ℕ) (result : Result (StoreResult K V) (K × V)) (was : old.root ≡ Some (root_at id level)) (now : new.root ≡ Some (root_at id level)) (whole : IsWhole cmp old)
        (inserts : IsPart cmp level old.arenas id → InsertsUnder cmp upsert level old.arenas new.arenas id result key val)
        (retired : IsRetired level old.arenas id → (result ≡ Ok (Full key val)) × Unchanged old.arenas new.arenas) where
      here : IsWhole cmp (record old { root = Some (root_at id level) })
      here = rw was at whole

      under : IsTotalOrder cmp → Stands cmp level old.arenas None id None → asks_split result ≡ false → Stores cmp upsert old new key val result
      under o stands no_split =
          let ins = inserts (tree_part old.arenas id level here stands) in
          let stands_now = ins.stands None None tt tt stands in
          let was_spare : spare_of old ≡ spare level old.arenas id = rw was (spare_standing cmp old.arenas id level stands) in
          let is_spare : spare_of new ≡ spare level new.arenas id = rw now (spare_standing cmp new.arenas id level stands_now) in
          record {
            whole = rw now (tree_after old.arenas new.arenas id level here ins.replaces (here.top.0, inl stands_now));
            pairs = rw (was, now) ins.pairs;
            lowers = omega (arith, ins.lowers, was_spare, is_spare);
            spent = λ so. was_spare ∙ ins.spent so (λ asks. here.top.0);
            first = λ none taken. absurd (omega (arith, here.top.0, ap depth_of was, none));
            kept = λ so. rw (was, now) (refl, spare_unchanged old.arenas new.arenas (Some (root_at id level)) (ins.unchanged so), packed_unchanged cmp old.arenas new.arenas (Some (root_at id level)) (ins.unchanged so));
            packed = λ so smaller packed. rw now (packed_under_root o upsert old.arenas new.arenas id level key val result stands (rw was at packed) (rw was at smaller) ins so);
          }

      pub stored_under : IsTotalOrder cmp → asks_split result ≡ false → Stores cmp upsert old new key val result
      stored_under o no_split = by_top here.top.1
        where
          by_top : (Stands cmp level old.arenas None id None ⊎ IsRetiredRoot old.arenas id level) → Stores cmp upsert old new key val result
          by_top (inl stands) = under o stands no_split
          by_top (inr gone) =
              let full = retired (rw gone.0 gone.1) in
              absurd (let both : asks_split {K = K} {V = V} (Ok (Full key val)) ≡ false = rw full.0 at no_split in cc)

      -- the root has no room for it, and nothing has changed
      pub record NoRoom (k : K) (v : V) : Type 0 where
        pub still_whole : IsWhole cmp new
        pub full : IsRetired level new.arenas id ⊎ (room level new.arenas id ≡ 0)
        pub absent : IsNew cmp upsert (pairs_of new) k
        pub spent : spare_of new ≡ 0
        pub was_spent : spare_of old ≡ 0
        pub pairs : pairs_of new ≡ pairs_of old
        pub packed : packed_of cmp new ≡ packed_of cmp old
        pub same_key : k ≡ key
        pub same_val : v ≡ val

      pub no_room : (k : K) (v : V) → result ≡ Ok (Full k v) → NoRoom k v
      no_room k v is = by_top here.top.1
        where
          kept : Unchanged old.arenas new.arenas → (pairs_of new ≡ pairs_of old) × (spare_of new ≡ spare_of old) × (packed_of cmp new ≡ packed_of cmp old) × IsWhole cmp new
          kept same =
              rw (was, now) (
                walk_unchanged old.arenas new.arenas (Some (root_at id level)) same,
                spare_unchanged old.arenas new.arenas (Some (root_at id level)) same,
                packed_unchanged cmp old.arenas new.arenas (Some (root_at id level)) same,
                tree_unchanged old.arenas new.arenas (Some (root_at id level)) same here,
              )

          by_top : (Stands cmp level old.arenas None id None ⊎ IsRetiredRoot old.arenas id level) → NoRoom k v
          by_top (inl stands) =
              let ins = rw is at (inserts (tree_part old.arenas id level here stands)) in
              let same = kept (ins.unchanged refl) in
              let none : spare_of old ≡ 0 = rw was (spare_standing cmp old.arenas id level stands) ∙ ins.spent refl (λ asks. here.top.0) in
              record {
                still_whole = same.3;
                full = inr (room_unchanged level old.arenas new.arenas id (ins.unchanged refl) ∙ crowded_room cmp level old.arenas id key (ins.full refl));
                absent = λ inserts_only. rw (same.0, was, ins.pairs.1) (ins.pairs.0 inserts_only);
                spent = same.1 ∙ none;
                was_spent = none;
                pairs = same.0;
                packed = same.2;
                same_key = ins.pairs.1;
                same_val = ins.pairs.2;
              }
          by_top (inr gone) =
              let at_level : IsRetired level old.arenas id = rw gone.0 gone.1 in
              let told = retired at_level in
              let same = kept told.1 in
              let bare : leaves_under old.arenas.nodes old.root ≡ [] = rw (was, gone.0, (no_children (get old.arenas.nodes id) gone.1).1) refl in
              let both : Ok (Full key val) ≡ Ok (Full k v) = sym told.0 ∙ is in
              record {
                still_whole = same.3;
                full = inl (retired_unchanged level old.arenas new.arenas id told.1 at_level);
                absent = λ inserts_only. rw (same.0, bare_pairs old bare) refl;
                spent = same.1 ∙ bare_spare old bare;
                was_spent = bare_spare old bare;
                pairs = same.0;
                packed = same.2;
                same_key = cc;
                same_val = cc;
              }

  -- the root has grown, and then the pair was stored
  pub stored_grown : (upsert : Bool) (old mid new : Tree K V LEN) (key : K) (val : V) (result : Result (StoreResult K V) (K × V)) → spare_of old ≡ 0 → 0 < depth_of old.root → IsNew cmp upsert (pairs_of old) key
      → pairs_of mid ≡ pairs_of old → asks_split result ≡ false → Stores cmp upsert mid new key val result → KeepsTreePacked cmp old new key result → Stores cmp upsert old new key val result
  stored_grown upsert old mid new key val result spent deep absent pairs no_split stored packed = record {
    whole = stored.whole;
    packed = packed;
    pairs = rw pairs at stored.pairs;
    lowers = omega (arith, spent);
    spent = λ so. spent;
    first = λ none taken. absurd (omega (arith, none, deep));
    kept = λ so. absurd (let no : declined result ≡ false = not_declined cmp upsert result (pairs_of old) (pairs_of new) key val absent (rw pairs at stored.pairs) no_split in cc);
  }

  -- the root could not grow for want of memory
  pub not_grown : (upsert : Bool) (old new : Tree K V LEN) (key : K) (val : V) (pair : K × V) → IsWhole cmp old → new.root ≡ old.root → Unchanged old.arenas new.arenas → spare_of old ≡ 0 → 0 < depth_of old.root
      → IsNew cmp upsert (pairs_of old) key → pair.0 ≡ key → pair.1 ≡ val → Stores cmp upsert old new key val (Err pair)
  not_grown upsert old new key val pair whole root same spent deep absent k v = record {
    whole = rw root (tree_unchanged old.arenas new.arenas old.root same whole);
    pairs = (absent, k, v, rw root (walk_unchanged old.arenas new.arenas old.root same));
    lowers = omega (arith, spent);
    spent = λ so. spent;
    first = λ none taken. absurd (cc);
    kept = λ so. absurd (cc);
    packed = λ so. absurd (cc);
  }

  -- what is known of the root of a tree
  pub part_or_retired : (a : TreeArenas K V LEN) (id level : ℕ) → IsTree cmp a (Some (root_at id level)) → IsPart cmp level a id ⊎ IsRetired level a id
  part_or_retired a id level tree = by_top tree.top.1
    where
      by_top : (Stands cmp level a None id None ⊎ IsRetiredRoot a id level) → IsPart cmp level a id ⊎ IsRetired level a id
      by_top (inl stands) = inl (tree_part a id level tree stands)
      by_top (inr gone) = inr (rw gone.0 gone.1)

  pub stands_or_retired : (a : TreeArenas K V LEN) (id level : ℕ) → IsTree cmp a (Some (root_at id level)) → StandsOrRetired cmp level a id
  stands_or_retired a id level tree = by_top tree.top.1
    where
      by_top : (Stands cmp level a None id None ⊎ IsRetiredRoot a id level) → StandsOrRetired cmp level a id
      by_top (inl stands) = inl stands
      by_top (inr gone) = inr (rw gone.0 gone.1)

  pub root_there : (a : TreeArenas K V LEN) (id level : ℕ) → IsTree cmp a (Some (root_at id level)) → IsSome (get a.nodes id)
  root_there a id level tree = node_at cmp a id level tree.top.0 (stands_or_retired a id level tree)

  -- a root without a child has no leaf
  pub childless_root : (a : TreeArenas K V LEN) (id level : ℕ) → IsTree cmp a (Some (root_at id level)) → IsRetiredNode (get a.nodes id) → leaves_at level a.nodes id ≡ []
  childless_root a id level tree retired = by_level level tree.top.0
    where
      by_level : (level : ℕ) → 0 < level → leaves_at level a.nodes id ≡ []
      by_level zero deep = absurd (omega (arith, deep))
      by_level (suc level) deep = rw (no_children (get a.nodes id) retired).1 refl

  -- and one with a child stands
  pub root_part : (a : TreeArenas K V LEN) (id level : ℕ) → IsTree cmp a (Some (root_at id level)) → (IsRetiredNode (get a.nodes id) → ⊥) → IsPart cmp level a id
  root_part a id level tree kept = by_top tree.top.1
    where
      by_top : (Stands cmp level a None id None ⊎ IsRetiredRoot a id level) → IsPart cmp level a id
      by_top (inl stands) = tree_part a id level tree stands
      by_top (inr gone) = absurd (kept gone.1)

  -- where it has no room, it has no room as a part
  pub full_root : (a : TreeArenas K V LEN) (id level : ℕ) → IsTree cmp a (Some (root_at id level)) → (IsRetiredNode (get a.nodes id) → ⊥) → IsRetired level a id ⊎ (room level a id ≡ 0) → IsPart cmp level a id × (room level a id ≡ 0)
  full_root a id level tree kept full = (root_part a id level tree kept, by_level level tree.top.0 full)
    where
      by_level : (level : ℕ) → 0 < level → IsRetired level a id ⊎ (room level a id ≡ 0) → room level a id ≡ 0
      by_level zero deep full = absurd (omega (arith, deep))
      by_level (suc level) deep (inl retired) = absurd (kept retired)
      by_level (suc level) deep (inr none) = none

  -- the root was split under a new one, and then the pair was inserted there
  module _ (upsert : Bool) (old mid new : Tree K V LEN) (key : K) (val : V) (result : Result (StoreResult K V) (K × V)) (root top depth : ℕ) (was : old.root ≡ Some (root_at root depth))
      (between : mid.root ≡ Some (root_at top (suc depth))) (now : new.root ≡ Some (root_at top (suc depth))) (whole : IsWhole cmp old) (raised : RaisesRoot cmp depth old.arenas mid.arenas root top)
      (inserts : IsPart cmp (suc depth) mid.arenas top → InsertsUnder cmp upsert (suc depth) mid.arenas new.arenas top result key val)
      (retired : IsRetired (suc depth) mid.arenas top → (result ≡ Ok (Full key val)) × Unchanged mid.arenas new.arenas) where
    here_before : IsTree cmp old.arenas (Some (root_at root depth))
    here_before = rw was at whole

    pub raised_whole : IsTree cmp mid.arenas (Some (root_at top (suc depth)))
    raised_whole = tree_raised old.arenas mid.arenas root top depth here_before raised

    pub takes_it : asks_split result ≡ false
    takes_it = false_from_ne_true (asks_split result) (λ asks. omega (arith, raised.roomy, crowded_room cmp (suc depth) mid.arenas top key ((inserts (tree_part mid.arenas top (suc depth) raised_whole raised.stands)).full asks)))

    pub stored_raised : IsTotalOrder cmp → IsPart cmp depth old.arenas root × (room depth old.arenas root ≡ 0) → spare_of old ≡ 0 → IsNew cmp upsert (pairs_of old) key → Stores cmp upsert old new key val result
    stored_raised o full spent absent =
        stored_grown upsert old mid new key val result spent (rw was here_before.top.0) absent (rw (was, between) raised.pairs) takes_it
        (stored_under upsert mid new key val top (suc depth) result between now (rw between raised_whole) inserts retired o takes_it)
        (λ so smaller packed. rw now
        (packed_raised o upsert old.arenas new.arenas root depth key val result full.0.stands (rw was at packed) (rw was at smaller) mid.arenas top raised full.1 (inserts (tree_part mid.arenas top (suc depth) raised_whole raised.stands)) so))
