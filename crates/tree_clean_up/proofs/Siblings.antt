-- The children of a node that stay while others are changed or dropped, and the node that a keyed child is taken out of.
use Rattle.tree_clean_up.proofs.Common.{AllByRecursion, AreParted, Arrivals, IsPart, IsSome, IsTotalOrder, KeepsBounds, List, NodeOf, None, Option, Ordering, Replaces, Some, Stands, TakesKeyed}
use Rattle.tree_clean_up.proofs.Common.{TreeArenas, [], ap, append_assoc, arith, arrival, children_of, get, keyed, leaves_once_in, length, length-append}
use Rattle.tree_clean_up.proofs.Common.{map, map-append, node_is, refl, suc, tied_itself, unbounded, ℕ, ◌++◌, ◌∙◌, ◌∷◌, ◌≡◌}
use Rattle.tree_array.proofs.Common.{removed}
use Rattle.tree_node.proofs.Between.{without_between}
use Rattle.tree_node.proofs.Frames.{parted_map}
use Rattle.tree_node.proofs.Lifts.{Lifted, lifts}
use Rattle.tree_node.proofs.Widens.{parted_without, separators_around, stands_wider}

module _ {K V : Type 0} {LEN : ℕ} where
  -- the children `ids` of a node have become `left`, those before and behind them stay, and at most the node itself was written afterwards
  pub record Siblings (level : ℕ) (old mid new : TreeArenas K V LEN) (id : ℕ) (front ids left back : List ℕ) : Type 0 where
    pub now : children_of new.nodes id ≡ front ++ (left ++ back)
    pub lifts : Lifted level old mid new id front ids left back

  pub siblings : {cmp : K → K → Ordering} {level : ℕ} {old mid new : TreeArenas K V LEN} {id : ℕ} {front ids left back : List ℕ} → IsPart cmp (suc level) old id
      → Replaces level old mid ids left → children_of old.nodes id ≡ front ++ (ids ++ back) → children_of new.nodes id ≡ front ++ (left ++ back)
      → ((n : ℕ) → (n ≡ id → ⊥) → get new.nodes n ≡ get mid.nodes n) → IsSome (get new.nodes id) → new.leaves ≡ mid.leaves
      → Siblings level old mid new id front ids left back
  siblings {level = level} {old = old} {mid = mid} {new = new} {id = id} {front = front} {ids = ids} {left = left} {back = back} part r was now others here leaves =
      record { now = now; lifts = lifts level old mid new id front ids left back r was now part.nodes_once (leaves_once_in (suc level) old id part) others here leaves }

-- a node that lost one keyed child, and nothing else
pub record LosesKeyed {K V : Type 0} {LEN : ℕ} (cmp : K → K → Ordering) (level : ℕ) (old new : TreeArenas K V LEN) (id : ℕ)
    (before after : List (K × ℕ)) (last : ℕ) : Type 0 where
  pub node : NodeOf K LEN
  pub here : get new.nodes id ≡ Some node
  pub entries : (keyed node).entries ≡ before ++ after
  pub children : children_of new.nodes id ≡ map (λ c. c.1) before ++ ([] ++ (map (λ c. c.1) after ++ last ∷ []))
  pub keeps : AllByRecursion (λ x. KeepsBounds cmp level old new x) (map (λ c. c.1) before ++ (map (λ c. c.1) after ++ last ∷ []))
      → KeepsBounds cmp (suc level) old new id

-- a separator of a node that is taken out
module _ {K V : Type 0} {LEN : ℕ} {cmp : K → K → Ordering} (o : IsTotalOrder cmp) (level : ℕ) (old : TreeArenas K V LEN) (id child : ℕ)
    (st : Stands cmp (suc level) old None id None) (separator : K) (before after : List (K × ℕ)) (pairs_are : (keyed st.node).entries ≡ before ++ (separator, child) ∷ after) where
  -- the children at any bounds of the node
  pub parted_at : (low high : Option K) → Stands cmp (suc level) old low id high
      → AreParted cmp (Stands cmp level old) low (before ++ (separator, child) ∷ after) st.last high
  parted_at low high s =
      let node : s.node ≡ st.node = node_is level old low id high s st.node st.here in
      let last : s.last ≡ st.last = cc (s.last_is, ap unbounded node, st.last_is) in
      rw (node, last, pairs_are) at s.parted

  pub left_are : (left : Arrivals K ℕ) → left ≡ removed cmp (keyed st.node) separator → left.entries ≡ before ++ after
  left_are left is =
      let around = separators_around o (Stands cmp level old) None before separator child after st.last None (parted_at None None st) in
      ap (λ (x : Arrivals K ℕ). x.entries) is
      ∙ rw (pairs_are, without_between o separator before ((separator, child) ∷ []) after around.0 around.1, tied_itself o separator) refl

  -- by its slot, with its child
  module _ (mid new : TreeArenas K V LEN) (slot : ℕ) (same : get mid.nodes id ≡ get old.nodes id) (takes : TakesKeyed cmp mid.nodes new.nodes id slot)
      (read : arrival (keyed st.node).arrivals slot ≡ Some (separator, child)) where
    node_was : takes.node ≡ st.node
    node_was = cc (takes.was, same, st.here)

    pair_was : takes.pair ≡ (separator, child)
    pair_was = cc (rw node_was at takes.there, read)

    entries_left : (keyed takes.left).entries ≡ before ++ after
    entries_left =
        left_are (keyed takes.left) (takes.others ∙ ap (λ (n : NodeOf K LEN). removed cmp (keyed n) takes.pair.0) node_was
        ∙ ap (λ (c : K × ℕ). removed cmp (keyed st.node) c.0) pair_was)

    last_left : unbounded takes.left ≡ Some st.last
    last_left = takes.same_unbounded ∙ ap unbounded node_was ∙ st.last_is

    pub loses_keyed : LosesKeyed cmp level old new id before after st.last
    loses_keyed = record {
      node = takes.left;
      here = takes.updates.changed;
      entries = entries_left;
      children =
          rw (takes.updates.changed, entries_left, last_left, map-append (λ (c : K × ℕ). c.1) before)
          (append_assoc (map (λ c. c.1) before) (map (λ c. c.1) after) (st.last ∷ []));
      keeps = λ still low high s. record {
        node = takes.left;
        here = takes.updates.changed;
        kind = takes.kind level (rw node_was st.kind);
        last = st.last;
        last_is = last_left;
        few = rw entries_left (omega (arith, st.few, ap length pairs_are, length-append before ((separator, child) ∷ after), length-append before after));
        parted = rw entries_left
            (parted_map cmp (Stands cmp level old) (Stands cmp level new) low (before ++ after) st.last high
            (rw (map-append (λ (c : K × ℕ). c.1) before, append_assoc (map (λ c. c.1) before) (map (λ c. c.1) after) (st.last ∷ [])) still)
            (parted_without o (Stands cmp level old) (stands_wider o level old) low before separator child after st.last high (parted_at low high s)));
      };
    }
