-- A child that gives its lower part to a new one before it, and the node above it, which is written with the separator.
use Rattle.std.proofs.Common.{◌≡◌, ℕ, suc, ◌<◌, ◌≤◌, ◌^◌, min, true, List, [], ◌∷◌, ◌++◌, map, length, length-append, Option, Some, None, refl, sym, ap, ◌∙◌, arith, append-nil, append_assoc, inl, inr, Ordering}
use Rattle.tree_split.proofs.Words.{spend, spent_at, Agrees, AllByRecursion, AreParted, Arrivals, HasChildFor, IsAbove, IsAbsent, IsBelow, IsPart, IsTotalOrder, Replaces, Stands, TreeArenas, Updates, Updates-with_value, agrees_here, all-append, cases_eq, child_at, children_of, found_keyed, get, is_from, keyed, length-map, none_here, node_is, node_made, room, same_stands, same_walk, spare, stands_each, times, times-append, times-cons, unbounded, walk, with_value, NodeOf, PutsChild, Lifted, leaves_once_in, lifts, node_stays, IsAt, child_between, children_around, children_put, high_at, later_children, low_at, parted_low, routed_by, separator_absent, separator_put, separators_beside, spares-cons, spares-single, HasLast, IsPacked}
use Rattle.tree_split.proofs.Arrays.{packed_stored}
use Rattle.tree_split.proofs.Edges.{counts_same, one_last, same_packed}

-- The part under x has become the parts under y and x, in this order, with this separator between them: x keeps its number, and y is new. `Within` says of bounds that the separator fits between them.
pub record SplitsLow {K V : Type 0} {LEN : ℕ} (cmp : K → K → Ordering) (Within : Option K → Option K → Type 0) (level : ℕ) (old new : TreeArenas K V LEN) (x y : ℕ) (separator : K) : Type 0 where
  pub pairs : walk level new y ++ walk level new x ≡ walk level old x
  pub separates : (low high : Option K) → Within low high → Stands cmp level old low x high → IsAbove cmp low separator × IsBelow cmp separator high
  pub lower : (low high : Option K) → Within low high → Stands cmp level old low x high → Stands cmp level new low y (Some separator)
  pub upper : (low high : Option K) → Within low high → Stands cmp level old low x high → Stands cmp level new (Some separator) x high
  pub replaces : Replaces level old new (x ∷ []) (y ∷ (x ∷ []))
  pub spares : spare level old x ≤ min (spare level new y) (spare level new x)

-- The node above the two has got the new child before the old one, and nothing else of it changed: the pairs are the same, and one slot of its array is taken.
pub record GainsLow {K V : Type 0} {LEN : ℕ} (cmp : K → K → Ordering) (Within : Option K → Option K → Type 0) (level : ℕ) (old mid new : TreeArenas K V LEN) (id x y : ℕ) (separator : K) : Type 0 where
  pub pairs : walk (suc level) new id ≡ walk (suc level) old id
  pub stands : (low high : Option K) → Within low high → Stands cmp (suc level) old low id high → Stands cmp (suc level) new low id high
  pub replaces : Replaces (suc level) old new (id ∷ []) (id ∷ [])
  pub spares : spare (suc level) old id ≤ spare (suc level) new id
  pub spends : room (suc level) old id ≤ suc (room (suc level) new id)
  pub low_room : 0 < room level mid y → 0 < room level new y
  pub high_room : 0 < room level mid x → 0 < room level new x
  -- what belonged to x belongs to one of the two
  pub routed : (key : K) (child : ℕ) → HasChildFor cmp key (get old.nodes id) x → HasChildFor cmp key (get new.nodes id) child
      → (is_from cmp key separator ≡ true → 0 < room level mid y) → 0 < room level mid x → 0 < room level new child
  pub gained : (z : ℕ) → 0 < times z (children_of new.nodes id) → times z (children_of old.nodes id) ≡ 0 → z ≡ y

-- x is a child of a node under which a part stands, and has become y and x
pub record PartsChild {K V : Type 0} {LEN : ℕ} (cmp : K → K → Ordering) (Within : Option K → Option K → Type 0)
    (level : ℕ) (old mid : TreeArenas K V LEN) (id x y : ℕ) (separator : K) : Type 0 where
  pub part : IsPart cmp (suc level) old id
  pub splits : SplitsLow cmp Within level old mid x y separator
  pub at : IsAt (keyed part.stands.node).entries part.stands.last x
  pub inner : (low high : Option K) → Within low high → Within (low_at low at.before) (high_at at.onward high)
  pub within : Within None None

-- the place of the last child
abbrev pub last_place : {K V : Type 0} {LEN : ℕ} {cmp : K → K → Ordering} (level : ℕ) (old : TreeArenas K V LEN) (id : ℕ)
    (s : Stands cmp (suc level) old None id None) (x : ℕ)
    → HasLast (get old.nodes id) x → IsAt (keyed s.node).entries s.last x
last_place level old id s x last =
    record { before = (keyed s.node).entries; onward = []; split = sym (append-nil _); child = one_last (get old.nodes id) s.last x (rw s.here s.last_is) last }

module _ {K V : Type 0} {LEN : ℕ} {cmp : K → K → Ordering} (o : IsTotalOrder cmp) {Within : Option K → Option K → Type 0} {level : ℕ}
    {old mid : TreeArenas K V LEN} {id x y : ℕ} {separator : K}
    (d : PartsChild cmp Within level old mid id x y separator) where
  abbrev stood : Stands cmp (suc level) old None id None
  stood = d.part.stands

  abbrev front : List ℕ
  front = map (λ c. c.1) d.at.before

  abbrev back : List ℕ
  back = later_children d.at.onward stood.last

  was : children_of old.nodes id ≡ front ++ (x ∷ [] ++ back)
  was = children_around level old None id None stood x d.at

  -- the node stays as long as it isn't written
  pub stays : get mid.nodes id ≡ get old.nodes id
  stays = node_stays level old id d.part front x back was mid (y ∷ (x ∷ [])) d.splits.replaces

  -- at some bounds of the node
  module _ (low high : Option K) (within : Within low high) (s : Stands cmp (suc level) old low id high) where
    parted : AreParted cmp (Stands cmp level old) low (d.at.before ++ d.at.onward) stood.last high
    parted =
        let same_last : s.last ≡ stood.last = cc (s.here, s.last_is, stood.here, stood.last_is) in
        rw (node_is level old low id high s stood.node stood.here, d.at.split, same_last) at s.parted

    child_stood : Stands cmp level old (low_at low d.at.before) x (high_at d.at.onward high)
    child_stood = rw d.at.child at (child_between o (Stands cmp level old) low d.at.before d.at.onward stood.last high parted)

    sides : IsAbove cmp (low_at low d.at.before) separator × IsBelow cmp separator (high_at d.at.onward high)
    sides = d.splits.separates (low_at low d.at.before) (high_at d.at.onward high) (d.inner low high within) child_stood

  at_bounds : AreParted cmp (Stands cmp level old) None (d.at.before ++ d.at.onward) stood.last None
  at_bounds = parted None None d.within stood

  fits : IsAbove cmp (low_at None d.at.before) separator × IsBelow cmp separator (high_at d.at.onward None)
  fits = sides None None d.within stood

  module _ (above : NodeOf K LEN) (is_above : get mid.nodes id ≡ Some above) where
    above_is : above ≡ stood.node
    above_is = cc (stays, is_above, stood.here)

    -- no child of the node has the separator yet
    pub absent_here : IsAbsent cmp (keyed above).entries separator
    absent_here = rw (above_is, d.at.split)
        (separator_absent o (Stands cmp level old) separator None d.at.before d.at.onward stood.last None at_bounds fits.0 fits.1)

    module _ (node' : NodeOf K LEN) (puts : PutsChild cmp above node' separator y) where
      abbrev new : TreeArenas K V LEN
      new = record mid { nodes = with_value mid.nodes id node' }

      update : Updates mid.nodes new.nodes id (Some node')
      update = Updates-with_value mid.nodes id node' (rw is_above refl)

      pub entries_now : (keyed node').entries ≡ d.at.before ++ (separator, y) ∷ d.at.onward
      entries_now =
          ap (λ (a : Arrivals K ℕ). a.entries) puts.put
          ∙ rw (above_is, d.at.split) (separator_put o (Stands cmp level old) separator None d.at.before d.at.onward stood.last None at_bounds fits.0 fits.1 y)

      pub last_now : unbounded node' ≡ Some stood.last
      last_now = puts.last ∙ rw above_is stood.last_is

      now : children_of new.nodes id ≡ front ++ (y ∷ (x ∷ []) ++ back)
      now = rw (update.changed, last_now, entries_now, children_put d.at.before d.at.onward stood.last separator y, d.at.child) refl

      lift : Lifted level old mid new id front (x ∷ []) (y ∷ (x ∷ [])) back
      lift =
          lifts level old mid new id front (x ∷ []) (y ∷ (x ∷ [])) back d.splits.replaces was now d.part.nodes_once (leaves_once_in (suc level) old id d.part)
          (λ n differs. update.others n differs) (rw update.changed refl) refl

      -- the two children stay as they are
      pub changed : AllByRecursion (λ c. Agrees level mid new c) (y ∷ (x ∷ []))
      changed = lift.changed

      same_room : (lev z : ℕ) → Agrees lev mid new z → room lev new z ≡ room lev mid z
      same_room lev z same = grind (arith, agrees_here)

      routed_now : (P : ℕ → Type 0) (k : K) (old_child new_child : ℕ) → HasChildFor cmp k (get old.nodes id) old_child → HasChildFor cmp k (get new.nodes id) new_child
          → (is_from cmp k separator ≡ true → P y) → P old_child → P new_child
      routed_now P k old_child new_child which which' low high =
          let was_child : child_at (is_from cmp k) (d.at.before ++ d.at.onward) stood.last ≡ old_child =
          cc (rw (stood.here, stood.last_is, d.at.split) at which) in
          let is_child : child_at (is_from cmp k) (d.at.before ++ (separator, y) ∷ d.at.onward) stood.last ≡ new_child =
          cc (rw (update.changed, last_now, entries_now) at which') in
          rw is_child at (routed_by (is_from cmp k) P d.at.before d.at.onward stood.last separator y low (rw was_child high))

      -- the node has the two children in place of the one
      pub gains_low : GainsLow cmp Within level old mid new id x y separator
      gains_low = record {
        pairs = rw (lift.walk_now, lift.walk_was, ← d.splits.pairs, append_assoc (walk level mid y) (walk level mid x) []) refl;
        stands = λ low high fits s.
            let inside = d.inner low high fits in
            let child = child_stood low high fits s in
            let lower = same_stands cmp level mid new y lift.changed.0 (low_at low d.at.before) (Some separator) (d.splits.lower _ _ inside child) in
            let upper = same_stands cmp level mid new x lift.changed.1.0 (Some separator) (high_at d.at.onward high) (d.splits.upper _ _ inside child) in
            let kind = puts.kind level (rw (node_is level old low id high s stood.node stood.here, ← above_is) at s.kind) in
            node_made update.changed kind last_now entries_now (rw entries_now at puts.few)
            (parted_low o (Stands cmp level old) (Stands cmp level new) separator y low d.at.before d.at.onward stood.last high (parted low high fits s)
            (sides low high fits s).0 (sides low high fits s).1 (stands_each cmp level old new front lift.fronts)
            lower (rw d.at.child upper) (stands_each cmp level old new back lift.backs));
        replaces = lift.replaces;
        spares = omega (
          arith,
          d.splits.spares,
          lift.spare_was,
          lift.spare_now,
          spares-single level old x,
          spares-single level mid x,
          spares-cons level mid y (x ∷ []),
        );
        spends =
            let arrivals = (keyed stood.node).arrivals in
            let one_more = length-append (spend cmp arrivals separator) (Some (separator, y) ∷ []) in
            let as_many = length-map arrivals (spent_at cmp separator) in
            rw (stood.here, update.changed, stood.last_is, last_now, puts.put, above_is) (grind arith);
        low_room = λ some. rw (same_room level y lift.changed.0) some;
        high_room = λ some. rw (same_room level x lift.changed.1.0) some;
        routed = λ key child which routed low high.
            routed_now (λ z. 0 < room level new z) key x child which routed (λ from. rw (same_room level y lift.changed.0) (low from))
            (rw (same_room level x lift.changed.1.0) high);
        gained = λ z inside outside. elim (cases_eq z y) [
          | inl same ↦ same
          | inr differs ↦
              let before = rw (was, times-append z front (x ∷ back)) at outside in
              let after = rw (now, times-append z front (y ∷ (x ∷ back)), times-cons z y (x ∷ back), none_here z y differs) at inside in
              absurd (omega arith)
        ];
      }

      -- where a packed part's last child gave it, the part stays packed, and has a keyed child more
      pub packed_split : d.at.onward ≡ [] → (beyond : Option K) → HasLast (get old.nodes id) x
          → (e : IsPacked cmp beyond (suc level) old id) → length (walk level mid y) ≡ LEN ^ suc level
          → IsPacked cmp beyond level mid x → IsBelow cmp separator beyond
          → IsPacked cmp beyond (suc level) new id × (found_keyed (get old.nodes id) < found_keyed (get new.nodes id))
      packed_split ends beyond last e full edge less =
          let node_here : e.node ≡ above = cc (stays, is_above, e.here) in
          let lower : (keyed e.node).entries ≡ d.at.before = rw (node_here, above_is, d.at.split, ends) (append-nil d.at.before) in
          let grown : (keyed node').entries ≡ d.at.before ++ (separator, y) ∷ [] = rw ends at entries_now in
          let smaller = (separators_beside o (Stands cmp level old) separator None d.at.before d.at.onward stood.last None at_bounds fits.0 fits.1).0 in
          let counted = counts_same level old new (LEN ^ suc level) d.at.before lift.fronts (rw lower at e.full) in (
            record {
              node = node';
              here = update.changed;
              packed = rw puts.put (packed_stored o (keyed above) separator y (rw node_here at e.packed) (rw (← node_here, lower) smaller));
              keys = rw grown (all-append _ d.at.before ((separator, y) ∷ []) (rw lower at e.keys) (less, tt));
              full = rw grown (all-append _ d.at.before ((separator, y) ∷ []) counted (ap length (same_walk level mid new y lift.changed.0) ∙ full, tt));
              last = x;
              last_is = puts.last ∙ rw (← node_here) (e.last_is ∙ ap Some (one_last (get old.nodes id) e.last x (rw e.here e.last_is) last));
              edge = same_packed cmp beyond level mid new x lift.changed.1.0 edge;
            },
            rw (e.here, update.changed, lower, grown) (omega (arith, length-append d.at.before ((separator, y) ∷ []))),
          )
