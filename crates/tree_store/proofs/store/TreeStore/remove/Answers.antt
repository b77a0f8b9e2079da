use Rattle.tree_node.proofs.Common.{fits}
use Rattle.store_codec.specs.Records.{record_at}
use Rattle.tree_store.proofs.Noted.{goes_on}
use Rattle.tree_store.proofs.store.TreeStore.remove.Goals as goal

pub remove-requires : goal.remove-requires
remove-requires g c = search fits

pub invariant_of-self : goal.invariant_of-self
invariant_of-self g c =
    let inside = c.self.inside in
    record {
      are = c.self.invariant.are;
      leaves = c.self.invariant.leaves;
      goes_on = λ runs clean. goes_on g.K.Ord.cmp g.K.Encode.seen g.V.Encode.seen (record_at g.K.Encode.value_at g.V.Encode.value_at) inside.log.texts inside.batch.items c.remove.new.batch.items inside.index.pairs c.remove.new.index.pairs (c.self.invariant.goes_on runs clean) c.remove.ensures.noted;
    }

pub returns-clause-answer : goal.returns-clause-answer
returns-clause-answer g c = rw (← c.self.view_is) c.remove.ensures.answer

pub returns-clause-left : goal.returns-clause-left
returns-clause-left g c = rw (← c.self.view_is) c.remove.ensures.left

pub returns-clause-refused : goal.returns-clause-refused
returns-clause-refused g c = rw (← c.self.view_is) c.remove.ensures.refused
