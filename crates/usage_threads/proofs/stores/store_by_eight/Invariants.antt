use Rattle.tree_state.specs.Ledgers.{named}
use Rattle.usage_threads.proofs.stores.store_by_eight.Given as goal

abbrev pub ghosts-store_with : goal.ghosts-store_with
ghosts-store_with g a = record { calls = named a.blanks.calls; stored = named a.blanks.stored; removed = named a.blanks.removed; found = named a.blanks.found; done = named a.blanks.done }
