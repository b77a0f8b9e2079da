use Rattle.std.proofs.Common.{arith}
use Rattle.tree_state.proofs.commands.insert.Goals as goal

pub returns-in-Ok-clause-packed : goal.returns-in-Ok-clause-packed
returns-in-Ok-clause-packed g c = (c.in-Ok.ensures.spare, c.in-Ok.ensures.packed)

pub returns-in-Ok-clause-spare : goal.returns-in-Ok-clause-spare
returns-in-Ok-clause-spare g c = record { refused = λ e. absurd (cc); lowers = c.in-Ok.ensures.spare.lowers }

pub returns-in-Err-Duplicate-clause-spare : goal.returns-in-Err-Duplicate-clause-spare
returns-in-Err-Duplicate-clause-spare g c =
    let same = rw c.in-Err-Duplicate.field-0-is at c.in-Err-Duplicate.ensures.spare in
    record { refused = λ e. absurd (cc); lowers = rw same.1 (omega arith) }

pub returns-clause-spare : goal.returns-clause-spare
returns-clause-spare g c =
    let none = rw c.in-Err-OutOfMemory.field-0-is at c.in-Err-OutOfMemory.ensures.spare in
    record { refused = λ e. none; lowers = omega (arith, none) }
