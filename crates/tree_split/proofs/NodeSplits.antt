-- A node that gives its lower children to a new one before it.
use Rattle.std.proofs.Common.{◌≡◌, ℕ, suc, ◌+◌, ◌<◌, ◌≤◌, ◌==◌, ◌^◌, cond, List, [], ◌∷◌, ◌++◌, map, length, length-append, take, drop, Option, Some, None, IsSome, is_some, refl, sym, ap, ◌∙◌, arith, append_assoc, inl, inr, Ordering, length-take, length-drop}
use Rattle.std.proofs.Math.Nat.{pow-suc}
use Rattle.tree_split.proofs.Common.{⊤, Agrees, AllByRecursion, AreParted, Arrivals, IsAbove, IsAscending, IsBelow, IsLen, IsPacked, IsPart, IsTotalOrder, SplitsLow, Stands, Stay, TreeArenas, above_next, agree_each, all_behind, all_front, all_held, boundary, cases_eq, chain_same, children_of, counts_same, cut_whole, flat_map-append, full_length, get, in_use, keyed, leaves_of, length-map, map-append, node_is, node_made, nodes_of, none_here, one_here, packed_boundary, packed_in_order, parted_map, room, same_array_refl, same_packed, single_nodes, spares-append, spares_same, stands_each, stay, times, times-append, times-cons, unbounded, uses, uses_le_one, uses_none, uses_same, uses_some, walk, walk-children}
use Rattle.tree_node.specs.Tree.{leaves_at, nodes_at}
use Rattle.tree_split.specs.DividesNode.{DividesNode}

-- the children on both sides of a separator
children_apart : {K : Type 0} (lower : List (K × ℕ)) (separator : K) (middle : ℕ) (upper : List (K × ℕ)) (last : ℕ)
    → map (λ c. c.1) (lower ++ ((separator, middle) ∷ upper)) ++ last ∷ [] ≡ (map (λ c. c.1) lower ++ middle ∷ []) ++ (map (λ c. c.1) upper ++ last ∷ [])
children_apart {K} lower separator middle upper last = rw (map-append (λ (c : K × ℕ). c.1) lower ((separator, middle) ∷ upper)) (simp append_assoc)

module _ {K : Type 0} {cmp : K → K → Ordering} (o : IsTotalOrder cmp) (Child : Option K → ℕ → Option K → Type 0) where
  -- children are parted on both sides of a separator
  parted_apart : (separator : K) (middle : ℕ) (low : Option K) (lower upper : List (K × ℕ)) (last : ℕ) (high : Option K) → AreParted cmp Child low (lower ++ ((separator, middle) ∷ upper)) last high
      → IsAbove cmp low separator × IsBelow cmp separator high × AreParted cmp Child low lower middle (Some separator) × AreParted cmp Child (Some separator) upper last high
  parted_apart separator middle low [] upper last high parted = (parted.1, parted.2, parted.0, parted.3)
  parted_apart separator middle low (c ∷ rest) upper last high parted =
      let later = parted_apart separator middle (Some c.0) rest upper last high parted.3 in
      (above_next o low c.0 separator parted.1 later.0, later.1, (parted.0, parted.1, later.0, later.2), later.3)

module _ {K V : Type 0} {LEN : ℕ} {cmp : K → K → Ordering} (o : IsTotalOrder cmp) {level : ℕ} {old new : TreeArenas K V LEN} {x place y : ℕ} {separator : K}
    (part : IsPart cmp (suc level) old x) (d : DividesNode old new x place separator y) where
  abbrev stood : Stands cmp (suc level) old None x None
  stood = part.stands

  last_is : unbounded d.node ≡ Some stood.last
  last_is = cc (stood.here, stood.last_is, d.was)

  abbrev lower : List (K × ℕ)
  lower = take place (keyed d.node).entries

  abbrev upper : List (K × ℕ)
  upper = drop (place + 1) (keyed d.node).entries

  whole : (keyed d.node).entries ≡ lower ++ ((separator, d.cuts.middle) ∷ upper)
  whole = cut_whole (keyed d.node).entries place (separator, d.cuts.middle) d.cuts.apart

  low_entries : (keyed d.low).entries ≡ lower
  low_entries = ap (λ (a : Arrivals K ℕ). a.entries) d.cuts.low_keyed

  high_entries : (keyed d.high).entries ≡ upper
  high_entries = ap (λ (a : Arrivals K ℕ). a.entries) d.cuts.high_keyed

  high_last : unbounded d.high ≡ Some stood.last
  high_last = d.cuts.high_last ∙ last_is

  abbrev low_ids : List ℕ
  low_ids = map (λ c. c.1) lower ++ d.cuts.middle ∷ []

  abbrev high_ids : List ℕ
  high_ids = map (λ c. c.1) upper ++ stood.last ∷ []

  x_children : children_of old.nodes x ≡ low_ids ++ high_ids
  x_children = rw (d.was, last_is) (ap (λ pairs. map (λ c. c.1) pairs ++ stood.last ∷ []) whole ∙ children_apart lower separator d.cuts.middle upper stood.last)

  y_children : children_of new.nodes y ≡ low_ids
  y_children = rw (d.low_here, low_entries, d.cuts.low_last) refl

  now_children : children_of new.nodes x ≡ high_ids
  now_children = rw (d.high_here, high_entries, high_last) refl

  -- the children stand in two nodes
  pub children_shared : children_of old.nodes x ≡ children_of new.nodes y ++ children_of new.nodes x
  children_shared = rw (x_children, y_children, now_children) refl

  not_new : (n : ℕ) → IsSome (get old.nodes n) → n ≡ y → ⊥
  not_new n used same = let none : get old.nodes n ≡ None = rw same d.was_free in cc (rw none at used)

  agree : AllByRecursion (λ c. Agrees level old new c) (low_ids ++ high_ids)
  agree =
      rw (← x_children)
      (agree_each level old new (children_of old.nodes x)
      (λ m below.
      let once = rw (times-cons m x (nodes_of level old.nodes (children_of old.nodes x))) at (part.nodes_once m) in
      d.others m (λ same. omega (arith, once, uses_le_one old.nodes m, one_here m x same)) (not_new m (in_use old.nodes m (omega (arith, once)))))
      (λ m inside. rw (d.leaves m) (same_array_refl (get old.leaves m))))

  low_agree : AllByRecursion (λ c. Agrees level old new c) low_ids
  low_agree = all_front _ low_ids high_ids agree

  high_agree : AllByRecursion (λ c. Agrees level old new c) high_ids
  high_agree = all_behind _ low_ids high_ids agree

  stays : Stay level old new low_ids × Stay level old new high_ids
  stays = (stay level old new low_ids low_agree, stay level old new high_ids high_agree)

  apart_leaves : leaves_of (suc level) new.nodes (y ∷ (x ∷ [])) ≡ leaves_of (suc level) old.nodes (x ∷ [])
  apart_leaves =
      rw (y_children, now_children, x_children, flat_map-append (leaves_at level old.nodes) low_ids, stays.0.leaves, stays.1.leaves) (simp append_assoc)

  old_times : (n : ℕ) → times n (nodes_of (suc level) old.nodes (x ∷ [])) ≡ cond (x == n) 1 0 + (times n (nodes_of level old.nodes low_ids) + times n (nodes_of level old.nodes high_ids))
  old_times n =
      ap (times n) (single_nodes (suc level) old.nodes x)
      ∙ rw (times-cons n x, x_children, flat_map-append (nodes_at level old.nodes) low_ids, times-append n (nodes_of level old.nodes low_ids)) refl

  uses_now : (n : ℕ) → uses new.nodes n ≡ uses old.nodes n + cond (y == n) 1 0
  uses_now n = elim (cases_eq n y) [
    | inl same ↦ omega (arith, uses_some new.nodes n (rw (same, d.low_here) refl), uses_none old.nodes n (rw same d.was_free), one_here n y same)
    | inr differs ↦ elim (cases_eq n x) [
      | inl here ↦ omega (arith, uses_same old.nodes new.nodes n (rw (here, d.high_here, d.was) refl), none_here n y differs)
      | inr other ↦ omega (arith, uses_same old.nodes new.nodes n (ap is_some (d.others n other differs)), none_here n y differs)
    ]
  ]

  -- at some bounds of the node
  module _ (low high : Option K) (s : Stands cmp (suc level) old low x high) where
    is_node : s.node ≡ d.node
    is_node = node_is level old low x high s d.node d.was

    parts : IsAbove cmp low separator × IsBelow cmp separator high × AreParted cmp (Stands cmp level old) low lower d.cuts.middle (Some separator)
        × AreParted cmp (Stands cmp level old) (Some separator) upper stood.last high
    parts =
        let same_last : s.last ≡ stood.last = cc (rw is_node at s.last_is, last_is) in
        parted_apart o (Stands cmp level old) separator d.cuts.middle low lower upper stood.last high (rw (is_node, whole, same_last) at s.parted)

    few_entries : length (keyed d.node).entries ≤ LEN
    few_entries = rw is_node at s.few

  pub node_splits_low : SplitsLow cmp (λ low high. ⊤) (suc level) old new x y separator
  node_splits_low = record {
    pairs =
        rw (walk-children level new y, walk-children level new x, walk-children level old x, x_children, y_children, now_children)
        (rw (flat_map-append (walk level old) low_ids, stays.0.walks, stays.1.walks) refl);
    separates = λ low high any s. let all = parts low high s in (all.0, all.1);
    lower = λ low high any s.
        let each = stands_each cmp level old new low_ids low_agree in
        node_made d.low_here (d.cuts.low_kind level (rw (is_node low high s) at s.kind)) d.cuts.low_last low_entries (simp length-take (omega (arith, few_entries low high s)))
        (parted_map cmp (Stands cmp level old) (Stands cmp level new) low lower d.cuts.middle (Some separator) each (parts low high s).2);
    upper = λ low high any s.
        let each = stands_each cmp level old new high_ids high_agree in
        node_made d.high_here (d.cuts.high_kind level (rw (is_node low high s) at s.kind)) high_last high_entries (simp length-drop (omega (arith, few_entries low high s)))
        (parted_map cmp (Stands cmp level old) (Stands cmp level new) (Some separator) upper stood.last high each (parts low high s).3);
    replaces = record {
      nodes_kept = λ n used outside. d.others n (λ same. omega (arith, outside, old_times n, one_here n x same)) (not_new n used);
      leaves_kept = λ n used outside. rw (d.leaves n) (same_array_refl (get old.leaves n));
      links_kept = λ n leaf apart. d.leaves n ∙ apart.here;
      nodes_counted = λ n.
          let new_times : times n (nodes_of (suc level) new.nodes (y ∷ (x ∷ [])))
          ≡ (cond (y == n) 1 0 + times n (nodes_of level old.nodes low_ids)) + (cond (x == n) 1 0 + times n (nodes_of level old.nodes high_ids)) =
          ap (times n) (ap (λ ids. nodes_at (suc level) new.nodes y ++ ids) (single_nodes (suc level) new.nodes x))
          ∙ times-append n (nodes_at (suc level) new.nodes y) (nodes_at (suc level) new.nodes x)
          ∙ rw (y_children, now_children, stays.0.nodes, stays.1.nodes, times-cons n y, times-cons n x) refl in
          omega (arith, uses_now n, old_times n, new_times);
      leaves_counted = λ n. rw (apart_leaves, uses_same old.leaves new.leaves n (ap is_some (d.leaves n))) refl;
      chained = λ front back chain. rw apart_leaves (chain_same old.leaves new.leaves d.leaves _ chain);
    };
    spares =
        rw (x_children, y_children, now_children)
        (omega (arith, spares-append level old low_ids high_ids, spares_same level old new low_ids low_agree, spares_same level old new high_ids high_agree));
  }

  module _ (within : place < length (keyed d.node).entries) where
    -- the new one has those up to the one at the place
    pub children_given : length (children_of new.nodes y) ≡ suc place
    children_given = rw y_children (simp (length-append, length-map, length-take) (omega (arith, within)))

    few_here : length (keyed d.node).entries ≤ LEN
    few_here = few_entries None None stood

    -- both have room
    pub low_node_room : 0 < room (suc level) new y
    low_node_room =
        rw (d.low_here, d.cuts.low_last, d.cuts.low_keyed, length-map lower Some, length-take place (keyed d.node).entries) (omega (arith, within, few_here))

    pub high_node_room : 0 < room (suc level) new x
    high_node_room =
        rw (d.high_here, high_last, d.cuts.high_keyed, length-map upper Some, length-drop (place + 1) (keyed d.node).entries) (omega (arith, within, few_here))

  -- the last child of a packed part, which is full: the new one is as full as can be, and this one goes on with the edge
  pub edge_goes_on : (beyond : Option K) → IsPacked cmp beyond (suc level) old x → room (suc level) old x ≡ 0 → IsLen LEN → IsAscending cmp (keyed d.node).entries
      → place ≡ (boundary cmp LEN (keyed d.node)).0
      → (length (walk (suc level) new y) ≡ LEN ^ suc (suc level)) × IsPacked cmp beyond (suc level) new x × IsBelow cmp separator beyond
  edge_goes_on beyond e none is_len ascending rule =
      let same_node : e.node ≡ d.node = cc (e.here, d.was) in
      let low_pairs : List (K × ℕ) = lower ++ (separator, d.cuts.middle) ∷ [] in
      let all : length (keyed d.node).entries ≡ LEN = rw d.was at (all_held cmp beyond (suc level) old None x None part.stands e none) in
      let cut = packed_boundary o LEN (keyed d.node) is_len (rw same_node at e.packed) ascending all in
      let low_count : length low_pairs ≡ LEN =
      omega (arith, length-append lower ((separator, d.cuts.middle) ∷ []), length-take place (keyed d.node).entries, all, rule, is_len, cut.0) in
      let two_parts : (keyed e.node).entries ≡ low_pairs ++ upper = rw same_node (whole ∙ sym (append_assoc lower ((separator, d.cuts.middle) ∷ []) upper)) in
      let same_ids : map (λ c. c.1) low_pairs ≡ low_ids = map-append (λ (c : K × ℕ). c.1) lower ((separator, d.cuts.middle) ∷ []) in
      let full_before : AllByRecursion (λ c. length (walk level old c.1) ≡ LEN ^ suc level) (low_pairs ++ upper) = rw two_parts at e.full in
      let smaller : AllByRecursion (λ c. IsBelow cmp c.0 beyond) (low_pairs ++ upper) = rw two_parts at e.keys in
      let counted = counts_same level old new (LEN ^ suc level) low_pairs (rw same_ids low_agree) (all_front _ low_pairs upper full_before) in
      let length_is = full_length (walk level new) (LEN ^ suc level) (map (λ c. c.1) low_pairs) (all_ids (LEN ^ suc level) low_pairs counted) in
      let last_same : e.last ≡ stood.last = cc (rw same_node at e.last_is, last_is) in
      let kept = all_front _ (map (λ c. c.1) upper) (stood.last ∷ []) high_agree in
      let last_kept = all_behind _ (map (λ c. c.1) upper) (stood.last ∷ []) high_agree in (
        rw (walk-children level new y, y_children, ← same_ids) (length_is ∙ rw (length-map low_pairs (λ c. c.1), low_count) (sym (pow-suc LEN (suc level)))),
        record {
          node = d.high;
          here = d.high_here;
          packed = packed_in_order o (keyed d.high) upper d.cuts.high_keyed;
          keys = rw high_entries (all_behind _ low_pairs upper smaller);
          full = rw high_entries (counts_same level old new (LEN ^ suc level) upper kept (all_behind _ low_pairs upper full_before));
          last = stood.last;
          last_is = high_last;
          edge = same_packed cmp beyond level old new stood.last last_kept.0 (rw last_same at e.edge);
        },
        (all_behind _ lower ((separator, d.cuts.middle) ∷ []) (all_front _ low_pairs upper smaller)).0,
      )
    where
      all_ids : (size : ℕ) (pairs : List (K × ℕ)) → AllByRecursion (λ c. length (walk level new c.1) ≡ size) pairs
          → AllByRecursion (λ id. length (walk level new id) ≡ size) (map (λ c. c.1) pairs)
      all_ids size [] all = tt
      all_ids size (c ∷ rest) all = (all.0, all_ids size rest all.1)
