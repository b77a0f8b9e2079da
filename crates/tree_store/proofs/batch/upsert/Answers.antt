use Rattle.std.proofs.Common.{refl, ◌∙◌}
use Rattle.store_codec.specs.Records.{record_at, record_bytes}
use Rattle.store_codec.specs.declared.records.Record.TheVariants.{Put}
use Rattle.tree_node.proofs.Common.{fits}
use Rattle.tree_store.proofs.Noted.{cut_back, nothing_noted, one_noted}
use Rattle.tree_store.proofs.batch.upsert.Goals as goal

pub upsert_sync-requires : goal.upsert_sync-requires
upsert_sync-requires g c = search fits

pub returns-in_default-clause-noted : goal.returns-in_default-clause-noted
returns-in_default-clause-noted g c =
    let cmp = g.K.Ord.cmp in
    let key = g.K.Encode.seen in
    let value = g.V.Encode.seen in
    let read = record_at g.K.Encode.value_at g.V.Encode.value_at in
    let mark = c.len-mark.ensures ∙ c.args.batch.now.ok.0 in
    let old = c.args.batch.now.items in
    let pairs = c.args.index.now.pairs in
    nothing_noted cmp key value read old c.truncate.new.self.items pairs pairs (cut_back old c.in_default.ensures.refused.0 c.push_put.new.out.items c.truncate.new.self.items c.len-mark.result c.in_default.ensures.refused.1 mark c.truncate.ensures.items) refl

pub returns-in-Ok-upsert_sync-clause-noted : goal.returns-in-Ok-upsert_sync-clause-noted
returns-in-Ok-upsert_sync-clause-noted g c =
    let cmp = g.K.Ord.cmp in
    let key = g.K.Encode.seen in
    let value = g.V.Encode.seen in
    let read = record_at g.K.Encode.value_at g.V.Encode.value_at in
    let mark = c.len-mark.ensures ∙ c.args.batch.now.ok.0 in
    let old = c.args.batch.now.items in
    let pairs = c.args.index.now.pairs in
    let bytes = record_bytes g.K.Encode.bytes_of g.V.Encode.bytes_of (Put (key c.args.key) (value c.args.value)) in
    one_noted cmp key value read (Put c.args.key c.args.value) bytes old c.push_put.new.out.items pairs c.upsert_sync.new.self.pairs c.in-Ok.ensures.pushed c.in-Ok.ensures.law c.in-Ok-upsert_sync.ensures.pairs

pub returns-in-Err-clause-noted : goal.returns-in-Err-clause-noted
returns-in-Err-clause-noted g c =
    let cmp = g.K.Ord.cmp in
    let key = g.K.Encode.seen in
    let value = g.V.Encode.seen in
    let read = record_at g.K.Encode.value_at g.V.Encode.value_at in
    let mark = c.len-mark.ensures ∙ c.args.batch.now.ok.0 in
    let old = c.args.batch.now.items in
    let pairs = c.args.index.now.pairs in
    nothing_noted cmp key value read old c.truncate-in-Err.new.self.items pairs c.upsert_sync.new.self.pairs (cut_back old (record_bytes g.K.Encode.bytes_of g.V.Encode.bytes_of (Put (key c.args.key) (value c.args.value))) c.push_put.new.out.items c.truncate-in-Err.new.self.items c.len-mark.result c.in-Ok.ensures.pushed mark c.truncate-in-Err.ensures.items) c.in-Err.ensures.pairs.1
