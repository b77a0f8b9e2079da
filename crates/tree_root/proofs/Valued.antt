-- A value that is replaced in its leaf: what that makes of a tree.
use Rattle.std.proofs.Common.{◌≡◌, ℕ, zero, suc, ◌<◌, ◌^◌, Bool, true, false, cond, List, [], ◌∷◌, map, length, length-append, Option, Some, None, refl, sym, ap, ◌∙◌, arith, sub-one, inl, inr}
use Rattle.std.specs.Prelude.{◌&&◌}
use Rattle.std.specs.List.{AllByRecursion, flat_map}
use Rattle.std.specs.Option.{option_map}
use Rattle.std.specs.Ordering.{is_eq}
use Rattle.std.specs.declared.cmp.Ordering.{Ordering}
use Rattle.std.specs.declared.cmp.Ordering.TheVariants.{Equal}
use Rattle.std.specs.Cmp.{IsTotalOrder}
use Rattle.std.proofs.Math.Seq.{map-set_same}
use Rattle.std.proofs.lemmas.Bool.{cases_eq}
use Rattle.std.proofs.lemmas.Cmp.{tied_back}
use Rattle.std.proofs.lemmas.List.{length-map, length-set, map-append}
use Rattle.slab.specs.Slab.{Slab, get}
use Rattle.tree_array.specs.Arrivals.{Arrivals, arrival, with_val}
use Rattle.tree_leaf.specs.declared.leaf.LeafOf.{LeafOf}
use Rattle.tree_leaf.specs.Entries.{found_entries, leaf_entries}
use Rattle.tree_model.specs.Pairs.{IsAbsent, IsAscending, above, below, pair_at, put}
use Rattle.tree_model.proofs.Ascending.{IsAscending-put}
use Rattle.tree_model.proofs.LookUps.{equal_from_test, pair_at-put, same_look_ups}
use Rattle.tree_node.specs.declared.node.NodeOf.{NodeOf}
use Rattle.tree_node.specs.declared.node.Root.{Root}
use Rattle.tree_node.specs.Arenas.{TreeArenas}
use Rattle.tree_node.specs.Parts.{IsPart, KeepsBounds, Replaces, Unchanged}
use Rattle.tree_node.specs.Shape.{found_spare, leaf_spare, least}
use Rattle.tree_node.specs.Tree.{HasChildFor, IsAbove, IsUpTo, Stands, keyed, leaves_at, unbounded, walk}
use Rattle.tree_node.specs.Whole.{IsTree, root_at, spare_under}
use Rattle.tree_node.proofs.Between.{put_between}
use Rattle.tree_node.proofs.ChildChanges.{child_part, new_walk, node_keeps, node_replaces, old_walk}
use Rattle.tree_node.proofs.Children.{walk-leaf}
use Rattle.tree_node.proofs.LeafWrites.{array_replaces, here_now, updated, with_array}
use Rattle.tree_node.proofs.Walks.{back_walk_above, front_walk_below}
use Rattle.tree_node.proofs.Whole.{spare_unchanged, tree_after, tree_unchanged, walk_unchanged}
use Rattle.tree_node.specs.Ways.{IsOnWay, LeadsTo}
use Rattle.tree_remove.proofs.EntryPlaces.{absent_there, leads_alike, pair_alike}
use Rattle.tree_remove.proofs.Ways.{found_on_way, leaf_on_way}
use Rattle.tree_split.specs.Packed.{all_full, in_turn, last_packed, leaf_packed, node_packed, packed_at, packed_under}
use Rattle.tree_split.proofs.Tests.{packed_unchanged}
use Rattle.tree_root.specs.declared.tree.Tree.{Tree}
use Rattle.tree_root.specs.Trees.{IsWhole, KeepsKeys, pairs_of}

-- the keys of pairs, in turn
abbrev keys : {K V : Type 0} → List (K × V) → List K
keys pairs = map (λ p. p.0) pairs

abbrev found_keys : {K V : Type 0} → List (Option (K × V)) → List (Option K)
found_keys arrivals = map (option_map (λ p. p.0)) arrivals

-- what holds of each key
all_keys : {K V : Type 0} (P : K → Type 0) (xs ys : List (K × V)) → keys ys ≡ keys xs → AllByRecursion (λ p. P p.0) xs → AllByRecursion (λ p. P p.0) ys
all_keys P [] [] same all = tt
all_keys P [] (y ∷ ys) same all = absurd (cc)
all_keys P (x ∷ xs) [] same all = absurd (cc)
all_keys {K} P (x ∷ xs) (y ∷ ys) same all =
    let head : y.0 ≡ x.0 = cc in
    let rest : keys ys ≡ keys xs = cc in
    (rw head all.0, all_keys P xs ys rest all.1)

-- the keys of the arrivals alone tell whether they came in turn
in_turn_alike : {K V : Type 0} (cmp : K → K → Ordering) (xs ys : List (Option (K × V))) (es fs : List (K × V)) → found_keys ys ≡ found_keys xs → keys fs ≡ keys es → in_turn cmp ys fs ≡ in_turn cmp xs es
in_turn_alike {K = K} {V = V} cmp xs ys es fs arrived same = in_keys ys fs ∙ (rw (arrived, same) refl) ∙ sym (in_keys xs es)
  where
    keys_in_turn : List (Option K) → List K → Bool
    keys_in_turn [] [] = true
    keys_in_turn [] (k ∷ ks) = false
    keys_in_turn (None ∷ xs) ks = false
    keys_in_turn (Some x ∷ xs) [] = false
    keys_in_turn (Some x ∷ xs) (k ∷ ks) = is_eq (cmp x k) && keys_in_turn xs ks

    in_keys : (xs : List (Option (K × V))) (es : List (K × V)) → in_turn cmp xs es ≡ keys_in_turn (found_keys xs) (keys es)
    in_keys [] [] = refl
    in_keys [] (e ∷ es) = refl
    in_keys (None ∷ xs) es = refl
    in_keys (Some x ∷ xs) [] = refl
    in_keys (Some x ∷ xs) (e ∷ es) = ap (λ (b : Bool). is_eq (cmp x.0 e.0) && b) (in_keys xs es)

module _ {K V : Type 0} {cmp : K → K → Ordering} (o : IsTotalOrder cmp) (l : List (K × V)) (k : K) (old : V) (ascending : IsAscending cmp l) (found : pair_at cmp l k ≡ Some (k, old)) where
  -- a pair that is there is put in its own place
  put_same : put cmp l k old ≡ l
  put_same = same_look_ups o (put cmp l k old) l (IsAscending-put o l k old ascending) ascending (λ key. pair_at-put o key l k old ∙ by_test key (is_eq (cmp k key)) refl)
    where
      by_test : (key : K) (b : Bool) → is_eq (cmp k key) ≡ b → cond b (Some (k, old)) (pair_at cmp l key) ≡ pair_at cmp l key
      by_test key true same = sym (sym (pair_alike o k key (equal_from_test (cmp k key) same) l) ∙ found)
      by_test key false same = refl

  -- another value under its key leaves the keys
  keys_put : (v : V) → keys (put cmp l k v) ≡ keys l
  keys_put v =
      map-append (λ (p : K × V). p.0) (below cmp l k) ((k, v) ∷ above cmp l k)
      ∙ sym (map-append (λ (p : K × V). p.0) (below cmp l k) ((k, old) ∷ above cmp l k))
      ∙ ap keys put_same

  pub length_put : (v : V) → length (put cmp l k v) ≡ length l
  length_put v = omega (arith, length-map (put cmp l k v) (λ (p : K × V). p.0), length-map l (λ (p : K × V). p.0), ap length (keys_put v))

-- so the leaf, and each part on the way of the key to it, has the pairs with the value put
record SetsUnder {K V : Type 0} {LEN : ℕ} (cmp : K → K → Ordering) (level : ℕ) (a b : TreeArenas K V LEN) (id : ℕ) (k : K) (v : V) : Type 0 where
  pub pairs : walk level b id ≡ put cmp (walk level a id) k v
  pub keeps : KeepsBounds cmp level a b id
  pub replaces : Replaces level a b (id ∷ []) (id ∷ [])

module _ {K V : Type 0} {LEN : ℕ} {cmp : K → K → Ordering} (o : IsTotalOrder cmp) (a b : TreeArenas K V LEN) (k : K) (v : V) where
  above_child : (level id child : ℕ) → IsPart cmp (suc level) a id → HasChildFor cmp k (get a.nodes id) child → SetsUnder cmp level a b child k v → SetsUnder cmp (suc level) a b id k v
  above_child level id child part which sets = record {
    pairs =
        new_walk o level a id child k part which None None part.stands b sets.replaces
        ∙ rw sets.pairs (sym (put_between o k _ (walk level a child) _ (front_walk_below o level a None id None part.stands k) (back_walk_above o level a None id None part.stands k) v))
        ∙ ap (λ (l : List (K × V)). put cmp l k v) (sym (old_walk o level a id child k part which None None part.stands b sets.replaces));
    keeps = λ low high s. node_keeps o level a id child k part which low high s b sets.replaces sets.keeps;
    replaces = node_replaces o level a id child k part which None None part.stands b sets.replaces;
  }

  module _ (leaf : ℕ) (sets : SetsUnder cmp 0 a b leaf k v) where
    on_way : (steps : ℕ) (id node : ℕ) → IsPart cmp (suc steps) a id → IsOnWay cmp k steps a id node → HasChildFor cmp k (get a.nodes node) leaf → SetsUnder cmp (suc steps) a b id k v
    on_way zero id node part way which = above_child 0 id leaf part (rw way which) sets
    on_way (suc steps) id node part way which =
        above_child (suc steps) id way.0 part way.1 (on_way steps way.0 node (child_part o (suc steps) a id way.0 k part way.1 None None part.stands) way.2 which)

    sets_on_way : (level : ℕ) → 0 < level → (id node : ℕ) → LeadsTo cmp k level a id node leaf → SetsUnder cmp level a b id k v
    sets_on_way zero deep id node leads = absurd (omega (arith, deep))
    sets_on_way (suc level) deep id node leads = on_way level id node leads.0 (rw sub-one at leads.1) leads.2

-- leaves that tell the same of their sizes
record AreAlike {K V : Type 0} {LEN : ℕ} (cmp : K → K → Ordering) (found found' : Option (LeafOf K V LEN)) : Type 0 where
  pub packed : leaf_packed cmp found' ≡ leaf_packed cmp found
  pub many : length (found_entries found') ≡ length (found_entries found)
  pub spare : found_spare found' ≡ found_spare found

module _ {K V : Type 0} {LEN : ℕ} (cmp : K → K → Ordering) (a : TreeArenas K V LEN) (leaves : Slab (LeafOf K V LEN)) (alike : (n : ℕ) → AreAlike cmp (get a.leaves n) (get leaves n)) where
  abbrev now : TreeArenas K V LEN
  now = record a { leaves = leaves }

  many_alike : (ids : List ℕ) → length (flat_map (leaf_entries leaves) ids) ≡ length (flat_map (leaf_entries a.leaves) ids)
  many_alike [] = refl
  many_alike (n ∷ ids) =
      omega (
        arith,
        length-append (leaf_entries leaves n) (flat_map (leaf_entries leaves) ids),
        length-append (leaf_entries a.leaves n) (flat_map (leaf_entries a.leaves) ids),
        (alike n).many,
        many_alike ids,
      )

  least_alike : (ids : List ℕ) → least LEN (leaf_spare leaves) ids ≡ least LEN (leaf_spare a.leaves) ids
  least_alike [] = refl
  least_alike (n ∷ ids) = rw ((alike n).spare, least_alike ids) refl

  full_alike : (level size : ℕ) (pairs : List (K × ℕ)) → all_full (λ child. length (walk level now child)) size pairs ≡ all_full (λ child. length (walk level a child)) size pairs
  full_alike level size [] = refl
  full_alike level size (c ∷ rest) = rw (many_alike (leaves_at level a.nodes c.1), full_alike level size rest) refl

  packed_alike : (level id : ℕ) → packed_at cmp level now id ≡ packed_at cmp level a id
  packed_alike zero id = (alike id).packed
  packed_alike (suc level) id = by_node (λ last. packed_alike level last) (get a.nodes id)
    where
      by_last : ((last : ℕ) → packed_at cmp level now last ≡ packed_at cmp level a last) → (last : Option ℕ) → last_packed (packed_at cmp level now) last ≡ last_packed (packed_at cmp level a) last
      by_last later None = refl
      by_last later (Some last) = later last

      by_node : ((last : ℕ) → packed_at cmp level now last ≡ packed_at cmp level a last) → (found : Option (NodeOf K LEN))
          → node_packed cmp (packed_at cmp level now) (λ child. length (walk level now child)) (LEN ^ suc level) found ≡ node_packed cmp (packed_at cmp level a) (λ child. length (walk level a child)) (LEN ^ suc level) found
      by_node later None = refl
      by_node later (Some node) = rw (full_alike level (LEN ^ suc level) (keyed node).entries, by_last later (unbounded node)) refl

  shape_alike : (root : Option Root) → (spare_under now root ≡ spare_under a root) × (packed_under cmp now root ≡ packed_under cmp a root)
  shape_alike None = (refl, refl)
  shape_alike (Some root) = (rw (least_alike (leaves_at root.level a.nodes root.id)) refl, rw (packed_alike root.level root.id) refl)

-- nothing has changed
pub nothing_set : {K V : Type 0} {LEN : ℕ} (cmp : K → K → Ordering) (old new : Tree K V LEN) → IsWhole cmp old → new.root ≡ old.root → Unchanged old.arenas new.arenas → KeepsKeys cmp old new × (pairs_of new ≡ pairs_of old)
nothing_set cmp old new whole root same =
    let walk : pairs_of new ≡ pairs_of old = rw root (walk_unchanged old.arenas new.arenas old.root same) in (
      record {
        whole = rw root (tree_unchanged old.arenas new.arenas old.root same whole);
        counted = ap length walk;
        shape = rw root (refl, spare_unchanged old.arenas new.arenas old.root same, packed_unchanged cmp old.arenas new.arenas old.root same);
      },
      walk,
    )

-- the leaf that a key leads to, which its search looks through
module _ {K V : Type 0} {LEN : ℕ} {cmp : K → K → Ordering} (o : IsTotalOrder cmp) (old : Tree K V LEN) (whole : IsWhole cmp old) (key : K) (root level node id : ℕ) (is : old.root ≡ Some (root_at root level)) (leads : LeadsTo cmp key level old.arenas root node id)
    (leaf : LeafOf K V LEN) (was : get old.arenas.leaves id ≡ Some leaf) where
  tree : IsTree cmp old.arenas (Some (root_at root level))
  tree = rw is at whole

  -- it is absent
  pub absent_in_leaf : IsAbsent cmp leaf.array.entries key → IsAbsent cmp (pairs_of old) key
  absent_in_leaf none = rw is (absent_there o old.arenas key level tree.top.0 root node id leads (rw (walk-leaf old.arenas id leaf was) none))

  -- and the leaf was only read
  pub read_alone : Unchanged old.arenas (with_array old.arenas id leaf leaf.array)
  read_alone = record {
    leaves = λ n. elim (cases_eq n id) [
      | inl same ↦ rw (same, here_now old.arenas id leaf leaf.array was, was) refl
      | inr differs ↦ (updated old.arenas id leaf leaf.array was).others n differs
    ];
    nodes = λ n. refl;
  }

  -- it is there, and its value is replaced
  module _ (slot : ℕ) (k : K) (before v : V) (same : cmp k key ≡ Equal) (there : arrival leaf.array.arrivals slot ≡ Some (k, before)) (found_by : pair_at cmp leaf.array.entries key ≡ Some (k, before)) where
    abbrev array : Arrivals K V
    array = with_val cmp leaf.array slot k v

    abbrev after : TreeArenas K V LEN
    after = with_array old.arenas id leaf array

    pub present_in_leaf : pair_at cmp (pairs_of old) key ≡ Some (k, before)
    present_in_leaf = rw is (found_on_way o old.arenas key id level tree.top.0 root node leads.0 leads.1 leads.2 ∙ rw (walk-leaf old.arenas id leaf was) found_by)

    found : pair_at cmp leaf.array.entries k ≡ Some (k, before)
    found = pair_alike o k key same leaf.array.entries ∙ found_by

    ascending : IsAscending cmp leaf.array.entries
    ascending =
        let part = leaf_on_way o old.arenas key id level tree.top.0 root node leads.0 leads.1 leads.2 in
        let s : Stands cmp 0 old.arenas None id None = part.stands in
        let both : Some s.leaf ≡ Some leaf = sym s.here ∙ was in
        let is : s.leaf ≡ leaf = cc in
        rw is at s.ascending

    many : length array.entries ≡ length leaf.array.entries
    many = length_put o leaf.array.entries k before ascending found v

    arrived : found_keys array.arrivals ≡ found_keys leaf.array.arrivals
    arrived = map-set_same (option_map (λ (p : K × V). p.0)) leaf.array.arrivals slot (Some (k, v)) None (rw there refl)

    same_keys : keys array.entries ≡ keys leaf.array.entries
    same_keys = keys_put o leaf.array.entries k before ascending found v

    alike : (n : ℕ) → AreAlike cmp (get old.arenas.leaves n) (get after.leaves n)
    alike n = elim (cases_eq n id) [
      | inl same ↦
          rw (same, here_now old.arenas id leaf array was, was) (record {
            packed = rw (in_turn_alike cmp leaf.array.arrivals array.arrivals leaf.array.entries array.entries arrived same_keys, many) refl;
            many = many;
            spare = rw (many, length-set leaf.array.arrivals slot (Some (k, v))) refl;
          })
      | inr differs ↦ rw ((updated old.arenas id leaf array was).others n differs) (record { packed = refl; many = refl; spare = refl })
    ]

    sets_leaf : SetsUnder cmp 0 old.arenas after id k v
    sets_leaf = record {
      pairs = rw (walk-leaf old.arenas id leaf was, walk-leaf after id _ (here_now old.arenas id leaf array was)) refl;
      keeps = λ low high s.
          let both : Some s.leaf ≡ Some leaf = sym s.here ∙ was in
          let is : s.leaf ≡ leaf = cc in
          record {
            leaf = record leaf { array = array };
            here = here_now old.arenas id leaf array was;
            few = rw many (rw is at s.few);
            ascending = IsAscending-put o leaf.array.entries k v ascending;
            above = all_keys (IsAbove cmp low) leaf.array.entries array.entries same_keys (rw is at s.above);
            up_to = all_keys (λ key. IsUpTo cmp key high) leaf.array.entries array.entries same_keys (rw is at s.up_to);
          };
      replaces = array_replaces old.arenas id leaf array was;
    }

    pub value_set : KeepsKeys cmp old (record old { arenas = after }) × (pairs_of (record old { arenas = after }) ≡ put cmp (pairs_of old) k v)
    value_set =
        let alike_leads = leads_alike o key k (tied_back o k key same) old.arenas level root node id leads in
        let sets = sets_on_way o old.arenas after k v id sets_leaf level tree.top.0 root node alike_leads in
        let shape = shape_alike cmp old.arenas after.leaves alike old.root in (
          record {
            whole = rw is (tree_after old.arenas after root level tree sets.replaces (tree.top.0, inl (sets.keeps None None leads.0.stands)));
            counted = rw is (many_alike cmp old.arenas after.leaves alike (leaves_at level old.arenas.nodes root));
            shape = (refl, shape.0, shape.1);
          },
          rw is sets.pairs,
        )
