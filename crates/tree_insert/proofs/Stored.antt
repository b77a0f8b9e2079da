-- A pair that is put into the last leaf, seen from the node where the edge starts.
use Rattle.tree_insert.proofs.Common.{Arrivals, HasChildFor, HasLast, InsertsUnder, IsPart, IsSome, IsStore, IsTotalOrder, LeafOf, New, None, Ok, Option, Ordering, Some, TreeArenas, arith, get}
use Rattle.tree_insert.proofs.Common.{here_now, length, length-append, refl, sub-one, suc, true, with_array, zero, ℕ, ◌-◌, ◌<◌, ◌∙◌, ◌∷◌, ◌≡◌}
use Rattle.tree_insert.proofs.AppendCommon.{AppendsUnder, EndsEdge, IsLastFor, IsOnWay, above, below, found_entries, inserts_at_node, inserts_on_way, leaf_entries, node_on_way, put_beyond}
use Rattle.tree_insert.proofs.Inserts.{inserts_in_leaf}
use Rattle.tree_insert.proofs.Edges.{edge_below, edge_stays, edge_way, one_end}

-- a leaf with a pair is in use
pub some_leaf : {K V : Type 0} {LEN : ℕ} (slot : Option (LeafOf K V LEN)) → 0 < length (found_entries slot) → IsSome slot
some_leaf None some = absurd (omega (arith, some))
some_leaf (Some leaf) some = refl

module _ {K V : Type 0} {LEN : ℕ} {cmp : K → K → Ordering} (o : IsTotalOrder cmp) (a : TreeArenas K V LEN) (id : ℕ) (leaf : LeafOf K V LEN) (array : Arrivals K V)
    (key : K) (val : V) (was : get a.leaves id ≡ Some leaf) where
  -- it is stored under the node as in the leaf, which is the last one still
  pub appended : IsStore cmp LEN true leaf.array key val New array → {level top : ℕ} → IsLastFor cmp level a top id key
      → AppendsUnder cmp level a (with_array a id leaf array) top id key val
  appended stores {level = zero} for = absurd (omega (arith, for.deep))
  appended stores {level = suc level} {top = top} for =
      let way = edge_way o a id for.last.1 key level None top for.part.stands for.last.0 for.beyond in
      let inserts = inserts_on_way o true a (with_array a id leaf array) key val (Ok New) refl id (inserts_in_leaf o true a id leaf array key val was New stores)
      (suc level) for.deep top way.0 for.part (rw sub-one way.1) way.2 in
      let more = length-append (below cmp leaf.array.entries key) ((key, val) ∷ above cmp leaf.array.entries key) in
      record {
        inserts = inserts;
        pairs = inserts.pairs.1 ∙ put_beyond cmp _ key val for.beyond;
        last = (for.last.0, rw (here_now a id leaf array was, stores.0.new_is) (omega (arith, more)));
      }

-- the leaf at the end of the edge and its node, to which the way of a key leads
pub record AtEnd {K V : Type 0} {LEN : ℕ} (cmp : K → K → Ordering) (level : ℕ) (a : TreeArenas K V LEN) (id node leaf : ℕ) (key : K) : Type 0 where
  pub part : IsPart cmp 1 a node
  pub way : IsOnWay cmp key (level - 1) a id node
  pub which : HasChildFor cmp key (get a.nodes node) leaf

module _ {K V : Type 0} {LEN : ℕ} {cmp : K → K → Ordering} (o : IsTotalOrder cmp) {a : TreeArenas K V LEN} {id node leaf : ℕ} {key : K} where
  -- a key that is larger than all goes there
  pub at_end : {level : ℕ} → IsLastFor cmp level a id leaf key → EndsEdge level a id node leaf → AtEnd cmp level a id node leaf key
  at_end {level = zero} for end = absurd (omega (arith, for.deep))
  at_end {level = suc level} for end =
      let way = edge_way o a leaf for.last.1 key level None id for.part.stands for.last.0 for.beyond in
      let same : way.0 ≡ node = one_end a.nodes level id way.0 node way.3 (rw sub-one at end.edge) in
      let on : IsOnWay cmp key (suc level - 1) a id node = rw sub-one (rw same at way.1) in
      record { part = node_on_way o a key (suc level) for.deep id node for.part on; way = on; which = rw same at way.2 }

  -- a pair that is inserted at the node is appended under the number, where the node's last child has it
  pub appends_there : {level : ℕ} → IsLastFor cmp level a id leaf key → EndsEdge level a id node leaf → (new : TreeArenas K V LEN) (val : V)
      → InsertsUnder cmp true 1 a new node (Ok New) key val → HasLast (get new.nodes node) leaf → 0 < length (leaf_entries new.leaves leaf)
      → AppendsUnder cmp level a new id leaf key val
  appends_there {level = zero} for end new val inserts last some = absurd (omega (arith, for.deep))
  appends_there {level = suc level} for end new val inserts last some =
      let under = inserts_at_node o true a new key val (Ok New) refl node inserts (suc level) for.deep id for.part (at_end for end).way in
      let stays = edge_stays o a leaf for.last.1 key new node inserts.replaces level id for.part for.last.0 for.beyond (rw sub-one at end.edge) in
      record {
        inserts = under;
        pairs = under.pairs.1 ∙ put_beyond cmp _ key val for.beyond;
        last = (edge_below new.nodes (suc level) for.deep id node leaf (rw sub-one stays.0) last, some);
      }
