use Rattle.tree_state.proofs.commands.upsert.Goals as goal

pub returns-clause-spare : goal.returns-clause-spare
returns-clause-spare g c = record { refused = λ e. absurd (cc); lowers = c.in-Ok.ensures.spare.lowers }
