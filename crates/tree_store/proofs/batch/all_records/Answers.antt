use Rattle.store_codec.specs.Records.{record_at}
use Rattle.tree_node.proofs.Common.{fits}
use Rattle.tree_store.proofs.Listed.{listed_all, listed_more, listed_none}
use Rattle.tree_store.proofs.batch.all_records.Goals as goal

pub loop-key-init : goal.loop-key-init
loop-key-init g c =
    rw (c.into_iter-key-iterator.ensures.into_iter_gives)
    (listed_none g.met.K.Ord.total g.K.Encode.seen g.V.Encode.seen (record_at g.K.Encode.value_at g.V.Encode.value_at) c.args.index.now.pairs c.new-text.result.items c.new-text.ensures.items)

pub loop-key-preserved : goal.loop-key-preserved
loop-key-preserved g c =
    listed_more g.met.K.Ord.total g.K.Encode.seen g.V.Encode.seen (record_at g.K.Encode.value_at g.V.Encode.value_at) c.args.index.now.pairs c.loop-key.text.items c.loop-key.key-iterator c.next.new.self c.loop-key.invariant
    (c.in-Some.key, c.in-Some.value) c.in-Some.ensures.steps _ c.push_put.new.out.items c.in_ok-push_put.ensures.pushed c.in_ok-push_put.ensures.law

pub returns : goal.returns
returns g c = record {
  noted = λ ascending.
      listed_all g.met.K.Ord.total g.K.Encode.seen g.V.Encode.seen (record_at g.K.Encode.value_at g.V.Encode.value_at) c.args.index.now.pairs c.loop-key.text.items c.loop-key.key-iterator c.next.new.self c.loop-key.invariant c.in-None.ensures.steps ascending;
}

pub into_iter-key-iterator-requires : goal.into_iter-key-iterator-requires
into_iter-key-iterator-requires g c = search fits

pub next-requires : goal.next-requires
next-requires g c = search fits
