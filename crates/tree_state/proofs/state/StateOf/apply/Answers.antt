use Rattle.tree_node.proofs.Common.{fits}
use Rattle.tree_state.proofs.state.StateOf.apply.Goals as goal

pub returns-in-Upsert-clause-handed_back : goal.returns-in-Upsert-clause-handed_back
returns-in-Upsert-clause-handed_back g c = rw c.in-Upsert.is c.upsert.ensures.handed_back

pub returns-in-Remove-clause-handed_back : goal.returns-in-Remove-clause-handed_back
returns-in-Remove-clause-handed_back g c = rw c.in-Remove.is c.remove.ensures.handed_back

pub returns-in-RemoveRange-clause-handed_back : goal.returns-in-RemoveRange-clause-handed_back
returns-in-RemoveRange-clause-handed_back g c = rw c.in-RemoveRange.is c.remove_range.ensures.handed_back

pub returns-in-Clear-clause-handed_back : goal.returns-in-Clear-clause-handed_back
returns-in-Clear-clause-handed_back g c = rw c.in-Clear.is c.clear.ensures.handed_back

pub returns-clause-handed_back : goal.returns-clause-handed_back
returns-clause-handed_back g c = rw c.in-Peek.is c.look_up.ensures.handed_back

pub insert-requires : goal.insert-requires
insert-requires g c = search fits

pub upsert-requires : goal.upsert-requires
upsert-requires g c = search fits

pub remove-requires : goal.remove-requires
remove-requires g c = search fits

pub remove_range-requires : goal.remove_range-requires
remove_range-requires g c = search fits

pub clear-requires : goal.clear-requires
clear-requires g c = search fits

pub look_up-requires : goal.look_up-requires
look_up-requires g c = search fits
