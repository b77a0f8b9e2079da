-- Room for pairs that are appended.
use Rattle.std.specs.Int.{div_ceil}
use Rattle.std.specs.Prelude.{ℕ, ◌-◌}
use Rattle.tree_leaf.specs.Arena.{HasPlaces}
use Rattle.tree_node.specs.Arenas.{TreeArenas}

-- how many leaves so many pairs fill
abbrev pub leaves_for : ℕ → ℕ → ℕ
leaves_for LEN pairs = div_ceil pairs LEN

-- how many nodes are over these at most
abbrev pub nodes_for : ℕ → ℕ → ℕ
nodes_for LEN pairs = div_ceil (leaves_for LEN pairs) (LEN - 1)

-- the leaves and nodes that so many appended pairs fill fit without memory
abbrev pub HasRoomForPairs : {K V : Type 0} {LEN : ℕ} → TreeArenas K V LEN → ℕ → Type 0
HasRoomForPairs {LEN = LEN} arenas pairs = HasPlaces arenas (leaves_for LEN pairs) (nodes_for LEN pairs)
