use Rattle.store_restart.proofs.batch.change.Goals as goal

pub returns-in-Put-clause-made : goal.returns-in-Put-clause-made
returns-in-Put-clause-made g c = rw c.in-Put.is c.put_pair.ensures.made

pub returns-in-Remove-clause-made : goal.returns-in-Remove-clause-made
returns-in-Remove-clause-made g c = rw c.in-Remove.is c.remove.ensures.made

pub returns-in-Clear-clause-made : goal.returns-in-Clear-clause-made
returns-in-Clear-clause-made g c = rw c.in-Clear.is c.clear.ensures.left
