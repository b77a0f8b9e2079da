-- A child that lost its last pair is dropped and taken out of its node: what that makes of the part under the node.
use Rattle.tree_remove.proofs.Common.{AllByRecursion, Arrivals, Bool, DropsChild, DropsKeyed, DropsUnbounded, Fail, HasChildFor, HasChildIn, IsChildAt, IsPart, IsTotalOrder}
use Rattle.tree_remove.proofs.Common.{KeepsBounds, List, NodeOf, None, Option, Ordering, RemoveResult, RemovesUnder, Replaces, Retired, Some, Stands, Success, TakesOut, TreeArenas, [], all-append}
use Rattle.tree_remove.proofs.Common.{ap, append-nil, arith, back_at, back_walk_above, cases_Bool, child_of, child_part, children_of, front_at, front_walk_below, get, head_here}
use Rattle.tree_remove.proofs.Common.{inl, inr, is_from, keyed, least_from, length, length-append, map, map-append, node_is, node_stays, node_times, nodes_at, one_here, parted_map, refl}
use Rattle.tree_remove.proofs.Common.{replaces_trans, same_node, single_nodes, spare, spare_le, spares-single, suc, sym, times, unbounded, uses_le_one, walk}
use Rattle.tree_remove.proofs.Common.{walk-children, ℕ, ◌++◌, ◌∙◌, ◌∷◌, ◌≡◌, ◌≤◌}
use Rattle.tree_clean_up.proofs.Siblings.{Siblings, left_are, loses_keyed, parted_at, siblings}
use Rattle.tree_node.proofs.Frames.{stands_each}
use Rattle.tree_node.proofs.ChildChanges.{now, was as children_were, was}
use Rattle.tree_node.proofs.Widens.{parted_moved, stands_higher}
use Rattle.tree_node.specs.Changes.{MovesLast}
use Rattle.tree_remove.proofs.NodeRemovals.{taken_between}
use Rattle.tree_node.proofs.Routes.{routed_past, routed_to}

module _ {K X : Type 0} (cmp : K → K → Ordering) (k : K) where
  -- a keyed child has some before it and some behind it
  pub record HasSides (pairs : List (K × X)) (last : X) (pair : K × X) : Type 0 where
    pub before : List (K × X)
    pub after : List (K × X)
    pub pairs_are : pairs ≡ before ++ pair ∷ after
    pub front_is : front_at (is_from cmp k) pairs ≡ map (λ c. c.1) before
    pub back_is : back_at (is_from cmp k) pairs last ≡ map (λ c. c.1) after ++ last ∷ []

  pub sides_at : (pairs : List (K × X)) (last : X) (pair : K × X) → least_from cmp pairs k ≡ Some pair → HasSides pairs last pair
  sides_at [] last pair h = absurd (cc)
  sides_at (c ∷ rest) last pair h = elim (cases_Bool (is_from cmp k c.0)) [
    | inl from ↦
        let same : c ≡ pair = cc (rw from at h) in
        record { before = []; after = rest; pairs_are = rw same refl; front_is = rw from refl; back_is = rw from refl }
    | inr short ↦
        let split = sides_at rest last pair (rw short at h) in
        record {
          before = c ∷ split.before;
          after = split.after;
          pairs_are = ap (λ xs. c ∷ xs) split.pairs_are;
          front_is = rw short (ap (λ xs. c.1 ∷ xs) split.front_is);
          back_is = rw short split.back_is;
        }
  ]

  -- the unbounded child has all keyed ones before it
  pub past_all : (pairs : List (K × X)) (last : X) → least_from cmp pairs k ≡ None
      → (front_at (is_from cmp k) pairs ≡ map (λ c. c.1) pairs) × (back_at (is_from cmp k) pairs last ≡ [])
  past_all [] last h = (refl, refl)
  past_all (c ∷ rest) last h = (grind (arith, past_all rest last), grind (arith, past_all rest last))

module _ {K : Type 0} {LEN : ℕ} (cmp : K → K → Ordering) (key : K) (child : ℕ) where
  -- a child that is in its slot is the one that the key belongs to
  goes_to : (slot : Option ℕ) (node : NodeOf K LEN) → IsChildAt cmp key (keyed node) (unbounded node) child slot
      → child_of cmp key (keyed node).entries (unbounded node) ≡ Some child
  goes_to None node place = rw place.1 (routed_past cmp key (keyed node).entries child place.0)
  goes_to (Some slot) node place = grind (arith, routed_to, place.0, place.2, place.3)

  slot_there : (slot : Option ℕ) (node : NodeOf K LEN) → IsChildAt cmp key (keyed node) (unbounded node) child slot → HasChildIn (Some node) slot
  slot_there None node place = tt
  slot_there (Some slot) node place = rw place.1 refl

-- a part, and its child in a slot or at the end
pub record ChildIn {K V : Type 0} {LEN : ℕ} (cmp : K → K → Ordering) (level : ℕ) (a : TreeArenas K V LEN) (id child : ℕ) (key : K)
    (slot : Option ℕ) : Type 0 where
  pub part : IsPart cmp (suc level) a id
  pub which : HasChildFor cmp key (get a.nodes id) child
  pub place : IsChildAt cmp key (keyed part.stands.node) (unbounded part.stands.node) child slot

module _ {K V : Type 0} {LEN : ℕ} {cmp : K → K → Ordering} where
  pub child_in : {level : ℕ} {a : TreeArenas K V LEN} {id : ℕ} {node : NodeOf K LEN} (child : ℕ) (key : K) (slot : Option ℕ) → IsPart cmp (suc level) a id
      → get a.nodes id ≡ Some node → IsChildAt cmp key (keyed node) (unbounded node) child slot → ChildIn cmp level a id child key slot
  child_in {level} {a} {id} {node} child key slot part here place =
      record { part = part; which = rw here (goes_to cmp key child slot node place); place = rw (node_is level a None id None part.stands node here) place }

module _ {K V : Type 0} {LEN : ℕ} {cmp : K → K → Ordering} (o : IsTotalOrder cmp) {level : ℕ} {a : TreeArenas K V LEN} {id child : ℕ} {key : K}
    {slot : Option ℕ} where
  -- the child is a part itself
  pub part_below : ChildIn cmp level a id child key slot → IsPart cmp level a child
  part_below at = child_part o level a id child key at.part at.which None None at.part.stands

  -- and stays in its node while it changes
  pub slot_kept : {mid : TreeArenas K V LEN} → ChildIn cmp level a id child key slot → Replaces level a mid (child ∷ []) (child ∷ [])
      → HasChildIn (get mid.nodes id) slot
  slot_kept {mid} at r =
      let s : Stands cmp (suc level) a None id None = at.part.stands in
      rw (same_node o level a id child key at.part at.which None None s mid r, s.here) (slot_there cmp key child slot s.node at.place)

  -- a node isn't its own child
  pub apart_below : ChildIn cmp (suc level) a id child key slot → id ≡ child → ⊥
  apart_below at same =
      let s : Stands cmp (suc (suc level)) a None id None = at.part.stands in
      let below : 1 ≤ times id (nodes_at (suc level) a.nodes child) = rw same (head_here child _) in
      let among = node_times (suc level) a.nodes id _ (child ∷ []) _ (was o (suc level) a id child key at.part at.which None None s) id in
      omega (arith, at.part.nodes_once id, uses_le_one a.nodes id, one_here id id refl, below, ap (times id) (single_nodes (suc level) a.nodes child), among)

module _ {K V : Type 0} {LEN : ℕ} {cmp : K → K → Ordering} (o : IsTotalOrder cmp) (Says : V → Bool → Type 0) {level : ℕ} {old mid : TreeArenas K V LEN}
    {id child : ℕ} {key : K} {slot : Option ℕ}
    (at : ChildIn cmp level old id child key slot) (removes : RemovesUnder cmp Says level old mid child Retired key) where
  abbrev st : Stands cmp (suc level) old None id None
  st = at.part.stands

  abbrev front : List ℕ
  front = front_at (is_from cmp key) (keyed st.node).entries

  abbrev back : List ℕ
  back = back_at (is_from cmp key) (keyed st.node).entries st.last

  were : children_of old.nodes id ≡ front ++ (child ∷ [] ++ back)
  were = children_were o level old id child key at.part at.which None None st

  -- the children `front` and `back` of the node are left
  module _ {new : TreeArenas K V LEN} {between : TreeArenas K V LEN} (s : Siblings level old between new id front (child ∷ []) [] back) where
    each_stands : AllByRecursion (λ x. KeepsBounds cmp level old new x) (front ++ back)
    each_stands = all-append _ front back (stands_each cmp level old new front s.lifts.fronts) (stands_each cmp level old new back s.lifts.backs)

    takes : TakesOut cmp Says (walk (suc level) old id) key (walk (suc level) new id)
    takes =
        rw (s.lifts.walk_was, append-nil (walk level old child), s.lifts.walk_now)
        (taken_between o Says key _ _ [] _ (front_walk_below o level old None id None st key) (back_walk_above o level old None id None st key)
        (rw removes.pairs.1 at removes.pairs.0))

    more_room : spare (suc level) old id ≤ spare (suc level) new id
    more_room = omega (arith, s.lifts.spare_was, s.lifts.spare_now, spares-single level old child, spare_le level old child)

    stands_on : KeepsBounds cmp (suc level) old new id → RemovesUnder cmp Says (suc level) old new id Success key
    stands_on keeps = record { pairs = takes; leaves = keeps; replaces = s.lifts.replaces; spare = more_room }

  -- a keyed child is taken out, and the node stands
  pub keyed_goes : {new : TreeArenas K V LEN} {at_slot : ℕ} → slot ≡ Some at_slot → DropsKeyed cmp level mid new id child at_slot
      → RemovesUnder cmp Says (suc level) old new id Success key
  keyed_goes {new} {at_slot} is drops =
      let place = rw is at at.place in
      let r = replaces_trans level old mid drops.between (child ∷ []) (child ∷ []) [] removes.replaces drops.dropped in
      let split : HasSides cmp key (keyed st.node).entries st.last (place.0, child) = sides_at cmp key (keyed st.node).entries st.last (place.0, child)
      place.2 in
      let above = node_stays level old id at.part front child back were drops.between [] r in
      let loses = loses_keyed o level old id child st place.0 split.before split.after split.pairs_are drops.between new at_slot above drops.takes place.1 in
      let s : Siblings level old drops.between new id front (child ∷ []) [] back =
      siblings at.part r were (rw (split.front_is, split.back_is) loses.children) drops.takes.updates.others (rw loses.here refl) drops.leaves in
      stands_on s (loses.keeps (rw (← split.front_is, ← split.back_is) (each_stands s)))

  -- the unbounded child
  module _ {new : TreeArenas K V LEN} (is : slot ≡ None) {result : RemoveResult} (drops : DropsUnbounded cmp level mid new id child result) where
    r : Replaces level old drops.between (child ∷ []) []
    r = replaces_trans level old mid drops.between (child ∷ []) (child ∷ []) [] removes.replaces drops.dropped

    node_was : drops.takes.node ≡ st.node
    node_was = cc (drops.takes.was, node_stays level old id at.part front child back were drops.between [] r, st.here)

    past : (front ≡ map (λ c. c.1) (keyed st.node).entries) × (back ≡ [])
    past = let place = rw is at at.place in past_all cmp key (keyed st.node).entries st.last place.0

    beside : children_of new.nodes id ≡ front ++ ([] ++ back) → Siblings level old drops.between new id front (child ∷ []) [] back
    beside now = siblings at.part r were now drops.takes.updates.others (rw drops.takes.updates.changed refl) drops.leaves

    -- gives its place to the last keyed one
    last_moved : MovesLast cmp (keyed st.node) (keyed drops.takes.left) (unbounded drops.takes.left) Success
        → RemovesUnder cmp Says (suc level) old new id Success key
    last_moved moves =
        let separator = moves.0 in
        let x = moves.1 in
        let before = moves.2 in
        let pairs_are = moves.3 in
        let left_is = left_are o level old id x st separator before [] pairs_are (keyed drops.takes.left) moves.4 ∙ append-nil before in
        let fronts_are : front ≡ map (λ c. c.1) before ++ x ∷ [] = past.0 ∙ rw (pairs_are, map-append (λ (c : K × ℕ). c.1) before) refl in
        let s = beside (rw (drops.takes.updates.changed, left_is, moves.5, past.1, fronts_are) (sym (append-nil (map (λ c. c.1) before ++ x ∷ [])))) in
        let each = rw (past.1, fronts_are, append-nil (map (λ c. c.1) before ++ x ∷ [])) at (each_stands s) in
        stands_on s (λ low high now. record {
          node = drops.takes.left;
          here = drops.takes.updates.changed;
          kind = drops.takes.kind level (rw node_was st.kind);
          last = x;
          last_is = moves.5;
          few = rw left_is (omega (arith, st.few, ap length pairs_are, length-append before ((separator, x) ∷ [])));
          parted = rw left_is
              (parted_map cmp (Stands cmp level old) (Stands cmp level new) low before x high each
              (parted_moved o (Stands cmp level old) (λ low id s high over t. stands_higher o level old low id s high over t) low before separator x
              st.last high (parted_at o level old id x st separator before [] pairs_are low high now)));
        })

    -- or was the only one, and the node is retired
    last_gone : MovesLast cmp (keyed st.node) (keyed drops.takes.left) (unbounded drops.takes.left) Retired
        → RemovesUnder cmp Says (suc level) old new id Retired key
    last_gone moves =
        let none : (keyed drops.takes.left).entries ≡ [] = ap (λ (a : Arrivals K ℕ). a.entries) moves.1 ∙ moves.0 in
        let no_child : children_of new.nodes id ≡ [] = rw (drops.takes.updates.changed, none, moves.2) refl in
        let s = beside (no_child ∙ rw (past.0, past.1, moves.0) refl) in
        let here = drops.takes.updates.changed in
        let kind = drops.takes.kind level in
        grind (arith, none, no_child, moves.2, takes s, walk-children level new id, here, kind, node_was, st.kind, s.lifts.replaces, more_room s)

  last_dropped : {new : TreeArenas K V LEN} → slot ≡ None → (result : RemoveResult) → DropsUnbounded cmp level mid new id child result
      → RemovesUnder cmp Says (suc level) old new id result key
  last_dropped is Success drops = last_moved is drops (rw (node_was is drops) at drops.takes.moves)
  last_dropped is Retired drops = last_gone is drops (rw (node_was is drops) at drops.takes.moves)
  last_dropped is Fail drops = absurd drops.takes.moves

pub child_goes : {K V : Type 0} {LEN : ℕ} {cmp : K → K → Ordering} (o : IsTotalOrder cmp) (Says : V → Bool → Type 0) {level : ℕ} {old mid new : TreeArenas K V LEN}
    {id child : ℕ} {key : K} {result : RemoveResult} (slot : Option ℕ) → ChildIn cmp level old id child key slot
    → RemovesUnder cmp Says level old mid child Retired key → DropsChild cmp level mid new id child slot result
    → RemovesUnder cmp Says (suc level) old new id result key
child_goes o Says {result = result} None at removes drops = last_dropped o Says at removes refl result drops
child_goes o Says (Some slot) at removes drops = rw drops.1 (keyed_goes o Says at removes refl drops.0)
