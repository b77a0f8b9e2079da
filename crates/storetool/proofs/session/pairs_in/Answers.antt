use Rattle.storetool.proofs.session.pairs_in.Goals as goal

pub returns : goal.returns
returns g c = rw c.index.ensures at c.len.ensures
