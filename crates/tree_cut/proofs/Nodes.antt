-- A node above the leaves, seen from a program that counts its level: its children stand one level below. It may be retired, or have a child alone.
use Rattle.tree_cut.proofs.Common.{AllByRecursion, Bool, Bound, CutsUnder, HasKind, HasNoEmpty, HasPair, IsAt, IsPart, IsRetired, IsRetiredNode, IsSome, Leaf, List, Node, NodeOf, NodeStands, None}
use Rattle.tree_cut.proofs.Common.{Option, Ordering, Part, Some, Stands, TreeArenas, [], all_at, ap, append-nil, arith, children_stand, cut_whole, drop, drop_all, false, first_child, flat_map, get}
use Rattle.tree_cut.proofs.Common.{in_turn, inl, inr, keyed, keyed_of, keyed_or, later_children, leaves_at, leaves_of, length, length-append, length-map, map, nil_from_length, node_children}
use Rattle.tree_cut.proofs.Common.{node_is, nodes_at, nodes_of, part_id, refl, replaces_refl, retired_at, retired_walk, slice_get, slice_get-map, slice_get_cases, slice_get_within, sub-one, suc}
use Rattle.tree_cut.proofs.Common.{sym, take, true, unbounded, walk, walk-children, zero, ℕ, ◌+◌, ◌-◌, ◌<◌, ◌∙◌, ◌∷◌, ◌≡◌, ◌≤◌, ◌⊎◌}

-- an element comes before those at later places
pub split_here : {X : Type 0} (xs : List X) (place : ℕ) (x : X) → slice_get xs place ≡ Some x → drop place xs ≡ x ∷ drop (suc place) xs
split_here [] place x is = absurd (cc)
split_here (y ∷ xs) zero x is = let same : y ≡ x = cc in rw same refl
split_here (y ∷ xs) (suc place) x is = split_here xs place x is

module _ {K : Type 0} where
  pub length-turns : (pairs : List (K × ℕ)) (last : Option ℕ) → IsSome last → length (in_turn pairs last) ≡ length pairs + 1
  length-turns pairs last some = grind (arith, length-append, length-map)

  -- what stands at a place, and around it
  pub record TurnAt (pairs : List (K × ℕ)) (last place x : ℕ) : Type 0 where
    pub within : place ≤ length pairs
    pub here : slice_get (in_turn pairs (Some last)) place ≡ Some x
    pub first : first_child (drop place pairs) last ≡ x
    pub before : take place (in_turn pairs (Some last)) ≡ map (λ c. c.1) (take place pairs)
    pub behind : drop (suc place) (in_turn pairs (Some last)) ≡ later_children (drop place pairs) last

  pub turn : (pairs : List (K × ℕ)) (last place x : ℕ) → slice_get (in_turn pairs (Some last)) place ≡ Some x → TurnAt pairs last place x
  turn [] last zero x is = record { within = omega arith; here = is; first = (cc); before = refl; behind = refl }
  turn [] last (suc place) x is = absurd (cc)
  turn (c ∷ pairs) last zero x is = record { within = omega arith; here = is; first = (cc); before = refl; behind = refl }
  turn (c ∷ pairs) last (suc place) x is =
      let t = turn pairs last place x is in
      record { within = omega (arith, t.within); here = is; first = t.first; before = ap (λ ids. c.1 ∷ ids) t.before; behind = t.behind }

  -- a keyed child stands at its place, and behind all of them the unbounded one
  pub turn_here : (pairs : List (K × ℕ)) (last : Option ℕ) (place x : ℕ) → IsSome last → place ≤ length pairs → keyed_or (slice_get pairs place) last ≡ Some x
      → slice_get (in_turn pairs last) place ≡ Some x
  turn_here pairs None place x some within is = absurd (cc)
  turn_here [] (Some last) zero x some within is = is
  turn_here [] (Some last) (suc place) x some within is = absurd (omega (arith, within))
  turn_here (c ∷ pairs) (Some last) zero x some within is = is
  turn_here (c ∷ pairs) (Some last) (suc place) x some within is = turn_here pairs (Some last) place x some (omega (arith, within)) is

  keyed_turn : (pairs : List (K × ℕ)) (last : Option ℕ) (place : ℕ) (c : K × ℕ) → slice_get pairs place ≡ Some c → slice_get (in_turn pairs last) place ≡ Some c.1
  keyed_turn pairs None place c is = rw (slice_get-map (λ d. d.1) pairs place, is) refl
  keyed_turn pairs (Some last) place c is = turn_here pairs (Some last) place c.1 refl (omega (arith, slice_get_within pairs place c is)) (rw is refl)

pub keyed_child : {K : Type 0} {LEN : ℕ} (slot : Option (NodeOf K LEN)) (place : ℕ) (c : K × ℕ) → slice_get (keyed_of slot) place ≡ Some c
    → slice_get (node_children slot) place ≡ Some c.1
keyed_child slot place c is = grind (arith, keyed_turn)

-- a node stands at any level but that of leaves
pub at_node : (level id : ℕ) → 0 < level → IsAt level (Node id)
at_node level id inner = grind arith

pub above_leaves : {part : Part} {id : ℕ} (level : ℕ) → part ≡ Node id → IsAt level part → 0 < level
above_leaves level is kind = grind arith

pub at_leaves : {part : Part} {id : ℕ} (level : ℕ) → part ≡ Leaf id → IsAt level part → level ≡ 0
at_leaves level is kind = grind arith

module _ {K V : Type 0} {LEN : ℕ} (cmp : K → K → Ordering) where
  -- what the children of a node say of it
  pub record NodeAt (level below : ℕ) (a : TreeArenas K V LEN) (id : ℕ) (node : NodeOf K LEN) : Type 0 where
    pub has_last : IsSome (unbounded node)
    pub kind : HasKind below node
    pub stand : AllByRecursion (λ x. Stands cmp below a None x None) (node_children (Some node))
    pub leaves : leaves_at level a.nodes id ≡ leaves_of below a.nodes (node_children (Some node))
    pub nodes : nodes_at level a.nodes id ≡ id ∷ nodes_of below a.nodes (node_children (Some node))
    pub walk_is : walk level a id ≡ flat_map (walk below a) (node_children (Some node))
    pub no_empty : HasNoEmpty level a id
        → AllByRecursion (λ c. HasPair below a c.1) (keyed node).entries × AllByRecursion (HasNoEmpty below a) (node_children (Some node))

  -- so what stands above the leaves
  pub as_node : (level : ℕ) (a : TreeArenas K V LEN) (id : ℕ) → 0 < level → Stands cmp level a None id None
      → NodeStands cmp (Stands cmp (level - 1) a) (level - 1) a.nodes None id None
  as_node zero a id inner s = absurd (omega (arith, inner))
  as_node (suc level) a id inner s = rw (sub-one (suc level)) s

  pub node_used : (level : ℕ) (a : TreeArenas K V LEN) (id : ℕ) → 0 < level → Stands cmp level a None id None → IsSome (get a.nodes id)
  node_used level a id inner s = rw (as_node level a id inner s).here refl

  pub node_at : (level : ℕ) (a : TreeArenas K V LEN) (id : ℕ) (node : NodeOf K LEN) → 0 < level → Stands cmp level a None id None → get a.nodes id ≡ Some node
      → NodeAt level (level - 1) a id node
  node_at zero a id node inner s here = absurd (omega (arith, inner))
  node_at (suc level) a id node inner s here =
      let last : unbounded node ≡ Some s.last = ap unbounded (sym (node_is level a None id None s node here)) ∙ s.last_is in
      rw (sub-one (suc level)) (record {
        has_last = rw last refl;
        kind = rw (node_is level a None id None s node here) at s.kind;
        stand = rw last (children_stand cmp a id level node here s s.last last);
        leaves = rw here refl;
        nodes = rw here refl;
        walk_is = walk-children level a id ∙ rw here refl;
        no_empty = λ before. rw here at before;
      })

  -- the same of a part that the program has matched
  module _ (level : ℕ) (a : TreeArenas K V LEN) {part : Part} {id : ℕ} where
    pub node_there : part ≡ Node id → IsAt level part → Stands cmp level a None (part_id part) None → IsSome (get a.nodes id)
    node_there is kind s = node_used level a id (above_leaves level is kind) (rw is at s)

    pub node_under : {node : NodeOf K LEN} → part ≡ Node id → IsAt level part → Stands cmp level a None (part_id part) None → get a.nodes id ≡ Some node
        → NodeAt level (level - 1) a id node
    node_under {node} is kind s here = node_at level a id node (above_leaves level is kind) (rw is at s) here

  pub leaf_there : (level : ℕ) (a : TreeArenas K V LEN) {part : Part} {id : ℕ} → part ≡ Leaf id → IsAt level part → Stands cmp level a None (part_id part) None
      → IsSome (get a.leaves id)
  leaf_there level a is kind s = grind arith

module _ {K V : Type 0} {LEN : ℕ} (cmp : K → K → Ordering) where
  -- under a retired node nothing is cut
  pub childless_cut : (low high : Bound K) (level : ℕ) (a : TreeArenas K V LEN) (id : ℕ) → 0 < level → IsRetired level a id → CutsUnder cmp low high level a a id 0
  childless_cut low high level a id inner retired = grind (arith, retired_walk a id level inner retired, replaces_refl)

  -- a node that isn't retired is a part
  pub standing : {level : ℕ} {a : TreeArenas K V LEN} {id : ℕ} {node : NodeOf K LEN} {childless : Bool} → 0 < level → IsPart cmp level a id ⊎ IsRetired level a id
      → get a.nodes id ≡ Some node → (IsRetiredNode (Some node) → childless ≡ true) → childless ≡ false → IsPart cmp level a id
  standing inner (inl part) here told stays = part
  standing {level} {a} {id} inner (inr retired) here told stays = absurd (cc (told ((retired_at cmp a id level inner _ here).1 retired), stays))

pub record IsOnly {K V : Type 0} {LEN : ℕ} (cmp : K → K → Ordering) (level below : ℕ) (a : TreeArenas K V LEN) (id child : ℕ) : Type 0 where
  pub stands : Stands cmp below a None child None
  pub same_walk : walk level a id ≡ walk below a child
  pub no_empty : HasNoEmpty level a id → HasNoEmpty below a child

module _ {K V : Type 0} {LEN : ℕ} {cmp : K → K → Ordering} {level below : ℕ} {a : TreeArenas K V LEN} {id : ℕ} {node : NodeOf K LEN}
    (at : NodeAt cmp level below a id node) where
  -- a node with a keyed child has a pair, where no keyed child is empty
  pub keyed_pair : 0 < length (keyed node).entries → HasNoEmpty level a id → walk level a id ≡ [] → ⊥
  keyed_pair some before none = elim (slice_get_cases (keyed node).entries 0).1 [
    | inl there ↦
        let whole = ap (flat_map (walk below a)) (cut_whole _ 0 there.0.1 (keyed_child (Some node) 0 there.0 there.2)) in
        let long = ap length (sym whole ∙ sym at.walk_is ∙ none) in
        all_at _ _ 0 there.0 (at.no_empty before).0 there.2 (nil_from_length _ (omega (arith, simp length-append at long)))
    | inr past ↦ omega (arith, some, past.0)
  ]

  -- a node without keyed children has what its unbounded one has
  pub only_child : length (keyed node).entries ≡ 0 → {child : ℕ} → slice_get (node_children (Some node)) 0 ≡ Some child → IsOnly cmp level below a id child
  only_child none {child} found =
      let long = length-turns (keyed node).entries (unbounded node) at.has_last in
      let only : node_children (Some node) ≡ child ∷ [] = cut_whole _ 0 child found ∙ rw (drop_all (0 + 1) (node_children (Some node)) (omega (arith, long, none))) refl in
      grind (arith, only, at.stand, at.walk_is, append-nil, at.no_empty)
