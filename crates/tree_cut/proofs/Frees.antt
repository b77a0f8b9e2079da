-- A part is freed: its node, and then the parts of its children one after another.
use Rattle.tree_cut.proofs.Common.{◌≡◌, ℕ, ◌+◌, ◌-◌, ◌≤◌, List, ◌∷◌, ◌++◌, length, length-append, slice_get, take, drop, Some, None, refl, ap, ◌∙◌, arith, flat_map, Ordering, append-nil, take_all, flat_map-append, LeafOf, Loses, times, uses, same_array_refl, times-append, times-cons, uses_le_one, TreeArenas, Stands, leaves_at, nodes_at, leaves_of, nodes_of, keyed, node_children, walk, NodeOf, Part, Node, IsAt, StandsOnce, Frees, FreesIn, part_id, cut_whole, cut_with, Agrees, same_leaves, same_nodes, same_stands, same_walk, all_middle, frees_both, frees_lost, frees_none, IsPart, leaves_once_in}
use Rattle.tree_cut.proofs.Nodes.{NodeAt, node_under, length-turns}

-- a part stands once
pub part_once : {K V : Type 0} {LEN : ℕ} {cmp : K → K → Ordering} {level : ℕ} {a : TreeArenas K V LEN} {id : ℕ} → IsPart cmp level a id → StandsOnce cmp level a id
part_once {level = level} {a = a} {id = id} part = record { stands = part.stands; nodes_once = part.nodes_once; leaves_once = leaves_once_in level a id part }

-- a leaf that was taken out is a part that was freed
pub frees_leaf : {K V : Type 0} {LEN : ℕ} {a b : TreeArenas K V LEN} {id : ℕ} {leaf : LeafOf K V LEN} → Loses a.leaves b.leaves id leaf → b.nodes ≡ a.nodes
    → Frees 0 a b id
frees_leaf loses nodes = record { nodes = frees_none nodes; leaves = frees_lost loses }

-- A node has been taken out, and so have the parts of its children before a place, which had so many pairs.
pub record AreFreed {K V : Type 0} {LEN : ℕ} (cmp : K → K → Ordering) (level below : ℕ) (old now : TreeArenas K V LEN) (id : ℕ) (node : NodeOf K LEN) (place gone : ℕ)
    : Type 0 where
  pub above : NodeAt cmp level below old id node
  pub once : StandsOnce cmp level old id
  pub nodes : FreesIn old.nodes now.nodes (id ∷ nodes_of below old.nodes (take place (node_children (Some node))))
  pub leaves : FreesIn old.leaves now.leaves (leaves_of below old.nodes (take place (node_children (Some node))))
  pub counted : gone ≡ length (flat_map (walk below old) (take place (node_children (Some node))))

pub none_freed : {K V : Type 0} {LEN : ℕ} {cmp : K → K → Ordering} (level : ℕ) {old now : TreeArenas K V LEN} {part : Part} {id : ℕ} {node : NodeOf K LEN}
    → part ≡ Node id → IsAt level part → StandsOnce cmp level old (part_id part) → Loses old.nodes now.nodes id node → now.leaves ≡ old.leaves
    → AreFreed cmp level (level - 1) old now (part_id part) node 0 0
none_freed {cmp = cmp} level {old} is kind once loses leaves = rw is (record {
  above = node_under cmp level old is kind once.stands loses.here;
  once = rw is at once;
  nodes = frees_lost loses;
  leaves = frees_none leaves;
  counted = refl;
})

module _ {K V : Type 0} {LEN : ℕ} {cmp : K → K → Ordering} {level below : ℕ} {old now : TreeArenas K V LEN} {id : ℕ} {node : NodeOf K LEN} {place gone : ℕ}
    (state : AreFreed cmp level below old now id node place gone) where
  abbrev children : List ℕ
  children = node_children (Some node)

  pub all_freed : length (keyed node).entries + 1 ≤ place → Frees level old now id × (gone ≡ length (walk level old id))
  all_freed past =
      let all : take place children ≡ children = grind (arith, length-turns, state.above.has_last, take_all, past) in
      grind (arith, all, state.above.nodes, state.above.leaves, state.above.walk_is, state.nodes, state.leaves, state.counted)

  -- the child at the place is freed next
  module _ {x : ℕ} (there : slice_get children place ≡ Some x) where
    abbrev front : List ℕ
    front = take place children

    abbrev rest : List ℕ
    rest = drop (place + 1) children

    split : {Y : Type 0} (f : ℕ → List Y) → flat_map f children ≡ flat_map f front ++ (f x ++ flat_map f rest)
    split f = ap (flat_map f) (cut_whole children place x there) ∙ flat_map-append f front (x ∷ rest)

    longer : {Y : Type 0} (f : ℕ → List Y) → flat_map f (take (place + 1) children) ≡ flat_map f front ++ f x
    longer f = rw (cut_with children place x there, flat_map-append f front, append-nil (f x)) refl

    nodes_few : (n : ℕ) → times n (id ∷ nodes_of below old.nodes front) + times n (nodes_at below old.nodes x) ≤ uses old.nodes n
    nodes_few n = grind (arith, state.above.nodes, split, state.once.nodes_once, times-cons, times-append)

    leaves_few : (n : ℕ) → times n (leaves_of below old.nodes front) + times n (leaves_at below old.nodes x) ≤ uses old.leaves n
    leaves_few n = let all = rw (state.above.leaves, split (leaves_at below old.nodes)) at (state.once.leaves_once n) in omega (arith, all, times-append n)

    agrees : Agrees below old now x
    agrees = grind (arith, state.nodes.kept, nodes_few, uses_le_one, state.leaves.kept, leaves_few, same_array_refl)

    pub next_once : StandsOnce cmp below now x
    next_once =
        let s = same_stands cmp below old now x agrees None None (all_middle (λ y. Stands cmp below old None y None) front x rest (rw (← cut_whole children place x there) state.above.stand)) in
        grind (arith, s, same_nodes below old now x agrees, same_leaves below old now x agrees, nodes_few, leaves_few, state.nodes.counted, state.leaves.counted)

    pub next_few : gone + length (walk below now x) ≤ length (walk level old id)
    next_few = grind (arith, same_walk, agrees, state.above.walk_is, split, state.counted, length-append)

    pub next_freed : {next : TreeArenas K V LEN} {went : ℕ} → Frees below now next x → went ≡ length (walk below now x)
        → AreFreed cmp level below old next id node (place + 1) (gone + went)
    next_freed {next} {went} frees many = record {
      above = state.above;
      once = state.once;
      nodes = rw (longer (nodes_at below old.nodes)) (frees_both state.nodes (rw (same_nodes below old now x agrees) at frees.nodes));
      leaves = rw (longer (leaves_at below old.nodes)) (frees_both state.leaves (rw (same_leaves below old now x agrees) at frees.leaves));
      counted = rw (longer (walk below old))
          (omega (arith, state.counted, many, ap length (same_walk below old now x agrees), length-append (flat_map (walk below old) front) (walk below old x)));
    }
