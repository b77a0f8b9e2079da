-- The two numbers of slots that an array may have.
use Rattle.std.specs.Prelude.{ℕ, ◌*◌, ◌/◌}
pub use Rattle.tree_cells.specs.Length.{IsLen}
pub use Rattle.tree_cells.specs.Place.{searched}

-- up to this many entries an array is rebuilt and not split: 5 of 7, and 11 of 15
abbrev pub limit : ℕ → ℕ
limit len = len * 3 / 4
