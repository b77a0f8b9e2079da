use Rattle.shared_tests.proofs.scenario.play.Given as goal
use Rattle.tree_state.specs.Ledgers.{named}

abbrev pub ghosts-is_answered : goal.ghosts-is_answered
ghosts-is_answered g a = record { calls = named a.blanks.calls; stored = named a.blanks.stored; removed = named a.blanks.removed; found = named a.blanks.found; done = named a.blanks.done }
