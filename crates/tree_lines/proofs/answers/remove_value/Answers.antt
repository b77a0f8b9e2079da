use Rattle.std.proofs.Common.{rules}
use Rattle.tree_model.proofs.Edits.{removes_if_says}
use Rattle.tree_node.proofs.Common.{fits}
use Rattle.tree_lines.proofs.answers.remove_value.Goals as goal

-- the closure compares the value at the key with the one asked for
pub returns : goal.returns
returns g c = search (rules, removes_if_says)

pub remove_if_sync-requires : goal.remove_if_sync-requires
remove_if_sync-requires g c = search fits
