use Rattle.std.proofs.Common.{◌≡◌, ◌++◌, ◌<◌, All, length}
use Rattle.tree_state.specs.Schedules.{Ran}
use Rattle.tree_state.proofs.schedule.run_schedule.Given as goal

abbrev pub invariant-loop-worker : goal.invariant-loop-worker
invariant-loop-worker g l = record {
  rest : l.yielded ++ l.worker-iterator.rest.items ≡ l.fn.schedule.items;
  workers : All (λ s. s.0 < length l.initial.tallies) l.worker-iterator.rest.items;
  ran : Ran g.K.Ord.cmp g.K.SameClone.seen g.V.SameClone.seen l.yielded l.initial.state l.initial.tallies l.state l.tallies l.refused;
}
