use Rattle.std.proofs.Common.{ℕ, List, length, map}
use Rattle.store_codec.specs.Records.{record_at}
use Rattle.store_frames.specs.Frame.{Reads}
use Rattle.store_frames.specs.Seal.{sealed}
use Rattle.tree_store.proofs.Replayed.{Ahead}
use Rattle.tree_store.proofs.replay.apply_frames.Given as goal

abbrev pub invariant-loop-batch : goal.invariant-loop-batch
invariant-loop-batch g l =
    (key : ℕ) (texts : List (List ℕ)) → Reads (map (sealed key) texts) l.fn.bytes →
    Ahead g.K.Ord.cmp g.K.Encode.seen g.V.Encode.seen (record_at g.K.Encode.value_at g.V.Encode.value_at) key texts l.fn.index.pairs l.index.pairs l.rest

abbrev pub decreases-loop-batch : goal.decreases-loop-batch
decreases-loop-batch g l = length l.rest
