use Rattle.store_codec.specs.Records.{record_at}
use Rattle.tree_store.proofs.Replayed.{Applied}
use Rattle.tree_store.proofs.replay.apply_text.Given as goal

abbrev pub invariant-loop-turn : goal.invariant-loop-turn
invariant-loop-turn g l = Applied g.K.Ord.cmp g.K.Encode.seen g.V.Encode.seen (record_at g.K.Encode.value_at g.V.Encode.value_at) l.fn.text l.rest l.fn.index.pairs l.index.pairs
