use Rattle.tree_node.proofs.Common.{fits}
use Rattle.tree_lines.proofs.answers.write_answer.Goals as goal

pub returns-in-Near : goal.returns-in-Near
returns-in-Near g c = rw c.in-Near.is c.write_near.ensures

pub new-text-requires : goal.new-text-requires
new-text-requires g c = search fits

pub write_ascending-requires : goal.write_ascending-requires
write_ascending-requires g c = search fits

pub write_descending-requires : goal.write_descending-requires
write_descending-requires g c = search fits

pub write_near-requires : goal.write_near-requires
write_near-requires g c = search fits
