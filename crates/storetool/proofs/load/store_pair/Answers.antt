use Rattle.storetool.proofs.load.store_pair.Goals as goal

pub returns-in-Ok-clause-stored : goal.returns-in-Ok-clause-stored
returns-in-Ok-clause-stored g c = ((c.in-Some.key, c.in-Some.value), c.in-Some.ensures, c.in-Ok.ensures.pairs)
