use Rattle.tree_shared.proofs.storm.run_workers.Given as goal
use Rattle.tree_state.specs.Ledgers.{named}

abbrev pub ghosts-run_with : goal.ghosts-run_with
ghosts-run_with g a = record { calls = named a.blanks.calls; stored = named a.blanks.stored; removed = named a.blanks.removed; found = named a.blanks.found; done = named a.blanks.done }
