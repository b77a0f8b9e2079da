-- Which nodes another one may take the place of.
use Rattle.std.specs.Prelude.{◌≡◌, ℕ, [], Option, None, Some}
use Rattle.tree_node.specs.declared.node.NodeOf.{NodeOf}
use Rattle.tree_node.specs.declared.node.NodeOf.TheVariants.{Internal, Leaf}

-- an internal node is there without keyed children
abbrev pub NeedsCleanUp : {K : Type 0} {LEN : ℕ} → Option (NodeOf K LEN) → Type 0
NeedsCleanUp None = ⊥
NeedsCleanUp (Some (Internal node)) = node.children.entries ≡ []
NeedsCleanUp (Some (Leaf node)) = ⊥
