use Rattle.tree_store.proofs.Settled.{read_store}
use Rattle.tree_store.proofs.store.TreeStore.verify.Goals.{in-Ok, in-Err}
use Rattle.tree_store.proofs.store.TreeStore.verify.Goals as goal

pub invariant_of-self : goal.invariant_of-self
invariant_of-self g c = read_store c.self.invariant c.verify.new.self c.verify.ensures.same c.verify.ensures.head c.verify.ensures.stopped c.verify.ensures.crash c.verify.ensures.clean

pub returns-clause-sound : goal.returns-clause-sound
returns-clause-sound g c = elim c.match-verify.branch [ in-Ok w ↦ rw w.result-is search | in-Err w ↦ rw w.result-is w.in-Err.ensures.sound ]

pub returns-clause-no_more : goal.returns-clause-no_more
returns-clause-no_more g c = rw (← c.self.view_is) c.verify.ensures.crash

pub returns-clause-clean : goal.returns-clause-clean
returns-clause-clean g c = rw (← c.self.view_is) c.verify.ensures.clean
