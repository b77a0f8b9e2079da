use Rattle.tree_node.proofs.Common.{fits}
use Rattle.store_codec.specs.Records.{record_at}
use Rattle.tree_store.proofs.Noted.{goes_on}
use Rattle.tree_store.proofs.store.TreeStore.insert.Goals as goal

pub insert-requires : goal.insert-requires
insert-requires g c = search fits

pub invariant_of-self : goal.invariant_of-self
invariant_of-self g c =
    let inside = c.self.inside in
    record {
      are = c.self.invariant.are;
      leaves = c.self.invariant.leaves;
      goes_on = λ runs clean. goes_on g.K.Ord.cmp g.K.Encode.seen g.V.Encode.seen (record_at g.K.Encode.value_at g.V.Encode.value_at) inside.log.texts inside.batch.items c.insert.new.batch.items inside.index.pairs c.insert.new.index.pairs (c.self.invariant.goes_on runs clean) c.insert.ensures.noted;
    }

pub returns-clause-pairs : goal.returns-clause-pairs
returns-clause-pairs g c = rw (← c.self.view_is) c.insert.ensures.pairs
