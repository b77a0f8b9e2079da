-- A registry with room for one more name.
use Rattle.std.proofs.Common.{ℕ, ◌<◌, ◌≤◌, List, length, Result, Ok, Err, ap, arith, nat_cmp}
use Rattle.tree_model.specs.declared.commands.InsertError.{InsertError}
use Rattle.tree_model.specs.declared.commands.InsertError.TheVariants.{Duplicate, OutOfMemory}
use Rattle.tree_model.specs.Edits.{Inserts}
use Rattle.tree_model.proofs.Lengths.{length-put, without_few}

-- an insert adds one pair at most
pub few_more : {T : Type 0} (most : ℕ) (old new : List (ℕ × ℕ)) (name owner : ℕ) (result : Result T (InsertError ℕ ℕ)) → Inserts nat_cmp old name owner result new → length old < most → length new ≤ most
few_more most old new name owner (Ok _) inserts room = omega (arith, room, ap length inserts.1, length-put nat_cmp old name owner, without_few nat_cmp old name)
few_more most old new name owner (Err (Duplicate key value)) inserts room = omega (arith, room, ap length inserts.3)
few_more most old new name owner (Err (OutOfMemory key value)) inserts room = omega (arith, room, ap length inserts.3)
