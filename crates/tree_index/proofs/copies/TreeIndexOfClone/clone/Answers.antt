use Rattle.tree_node.proofs.Common.{fits}
use Rattle.tree_index.proofs.Copied.{clone_cases}
use Rattle.tree_index.proofs.copies.TreeIndexOfClone.clone.Goals as goal

pub returns : goal.returns
returns g c = record { cases = clone_cases _ c.try_clone.result c.try_clone.ensures }

pub try_clone-requires : goal.try_clone-requires
try_clone-requires g c = search fits
