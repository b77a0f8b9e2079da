use Rattle.std.proofs.Common.{ℕ, nat_cmp, arith}
use Rattle.shared_tests.proofs.Rooms.{zeros_have_room}
use Rattle.shared_tests.proofs.schedules.run_anew.Goals as goal

pub run_schedule-refused-requires : goal.run_schedule-refused-requires
run_schedule-refused-requires g c = (
  omega arith,
  (
    c.in_ok-commands.ensures.workers,
    zeros_have_room nat_cmp (λ (n : ℕ). n) (λ (n : ℕ). n) c.new-state.result.pairs c.in_ok-commands.commands.items c.in_ok-commands.ensures.few,
  ),
)
