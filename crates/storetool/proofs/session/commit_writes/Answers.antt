use Rattle.storetool.proofs.session.commit_writes.Goals as goal

pub returns-in-Ok-clause-durable : goal.returns-in-Ok-clause-durable
returns-in-Ok-clause-durable g c = record { runs = c.in-Ok.ensures.runs; is_saved = c.in-Ok.ensures.saved; leaves = c.in-Ok.ensures.leaves }

pub returns-in-Ok-clause-crash : goal.returns-in-Ok-clause-crash
returns-in-Ok-clause-crash g c = λ durable h clean left holds. c.commit.ensures.crash clean h.runs durable (h.is_saved (c.commit.ensures.clean clean)) left holds

pub returns-in-Err-clause-crash : goal.returns-in-Err-clause-crash
returns-in-Err-clause-crash g c = λ durable h clean left holds. c.commit.ensures.crash clean h.runs durable (h.is_saved (c.commit.ensures.clean clean)) left holds
