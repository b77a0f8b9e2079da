use Rattle.std.proofs.Common.{ℕ, nat_cmp}
use Rattle.tree_node.proofs.Common.{fits}
use Rattle.shared_tests.proofs.Rooms.{zeros_have_room}
use Rattle.shared_tests.proofs.schedules.run_over.Goals as goal

pub run_schedule-refused-requires : goal.run_schedule-refused-requires
run_schedule-refused-requires g c = (
  search fits,
  (
    c.in_ok-commands.ensures.workers,
    zeros_have_room nat_cmp (λ (n : ℕ). n) (λ (n : ℕ). n) c.args.state.now.pairs c.in_ok-commands.commands.items c.in_ok-commands.ensures.few,
  ),
)
