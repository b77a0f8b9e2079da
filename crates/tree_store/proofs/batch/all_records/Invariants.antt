use Rattle.store_codec.specs.Records.{record_at}
use Rattle.tree_store.proofs.Listed.{IsListed}
use Rattle.tree_store.proofs.batch.all_records.Given as goal

-- the pairs that the cursor gave have their records in the text
abbrev pub invariant-loop-key : goal.invariant-loop-key
invariant-loop-key g l = IsListed g.K.Ord.cmp g.K.Encode.seen g.V.Encode.seen (record_at g.K.Encode.value_at g.V.Encode.value_at) l.fn.index.pairs l.text.items l.key-iterator
