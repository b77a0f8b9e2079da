-- What a node tells of the levels below it.
use Rattle.std.specs.Prelude.{◌≡◌, ℕ, [], Option, None, Some}
use Rattle.tree_node.specs.Arenas.{Internal, Leaf, NodeOf}
use Rattle.tree_node.specs.Tree.{keyed}

-- the unbounded child, where it is a node
abbrev pub last_node : {K : Type 0} {LEN : ℕ} → NodeOf K LEN → Option ℕ
last_node (Internal node) = node.unbounded_child
last_node (Leaf node) = None

-- a node is there without keyed children, so that its part may lose a level
abbrev pub HasNoKeyed : {K : Type 0} {LEN : ℕ} → Option (NodeOf K LEN) → Type 0
HasNoKeyed None = ⊥
HasNoKeyed (Some node) = (keyed node).entries ≡ []
