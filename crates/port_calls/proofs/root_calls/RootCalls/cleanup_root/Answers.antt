use Rattle.port_calls.proofs.FoundLevels.{rules, fits, found_part, lowered_at}
use Rattle.port_calls.proofs.root_calls.RootCalls.cleanup_root.Goals as goal

pub level_of_root-level-requires : goal.level_of_root-level-requires
level_of_root-level-requires g c κs within =
    (within.0, (within.1, (search rules, (search rules, (search fits, (assumption c.requires, (assumption c.requires, assumption c.requires)))))))

pub lower_root_at-requires : goal.lower_root_at-requires
lower_root_at-requires g c =
    let found = c.level_of_root-level.ensures in
    (search rules, (search fits, (found.node, (found_part found.level found.node (assumption c.requires) (assumption c.requires), found.kind))))

pub returns-in_err-lowered : goal.returns-in_err-lowered
returns-in_err-lowered g c =
    let found = c.level_of_root-level.ensures in
    rw c.from_residual.ensures (lowered_at found.level found.node (assumption c.requires) (assumption c.requires) (rw c.in_err-lowered.was at c.lower_root_at.ensures))

pub returns : goal.returns
returns g c =
    let found = c.level_of_root-level.ensures in
    (c.in_ok-lowered.lowered.level, lowered_at found.level found.node (assumption c.requires) (assumption c.requires) (rw c.in_ok-lowered.was at c.lower_root_at.ensures))
