use Rattle.std.proofs.Common.{◌∷◌, refl, ap, ◌∙◌}
use Rattle.store_codec.specs.Records.{record_at}
use Rattle.store_codec.specs.declared.records.Record.TheVariants.{Remove}
use Rattle.tree_node.proofs.Common.{fits}
use Rattle.tree_store.proofs.Noted.{cut_back, nothing_noted, one_noted, remove_reads}
use Rattle.tree_store.proofs.batch.remove.Goals as goal

pub remove_sync-requires : goal.remove_sync-requires
remove_sync-requires g c = search fits

pub returns-in_default-clause-noted : goal.returns-in_default-clause-noted
returns-in_default-clause-noted g c =
    let cmp = g.K.Ord.cmp in
    let key = g.K.Encode.seen in
    let value = g.V.Encode.seen in
    let read = record_at g.K.Encode.value_at g.V.Encode.value_at in
    let mark = c.len-mark.ensures ∙ c.args.batch.now.ok.0 in
    let old = c.args.batch.now.items in
    let pairs = c.args.index.now.pairs in
    nothing_noted cmp key value read old c.truncate.new.self.items pairs pairs (cut_back old c.in_default.ensures.refused.0 c.push_remove.new.out.items c.truncate.new.self.items c.len-mark.result c.in_default.ensures.refused.1 mark c.truncate.ensures.items) refl

pub returns-then-remove_sync-clause-noted : goal.returns-then-remove_sync-clause-noted
returns-then-remove_sync-clause-noted g c =
    let cmp = g.K.Ord.cmp in
    let key = g.K.Encode.seen in
    let value = g.V.Encode.seen in
    let read = record_at g.K.Encode.value_at g.V.Encode.value_at in
    let mark = c.len-mark.ensures ∙ c.args.batch.now.ok.0 in
    let old = c.args.batch.now.items in
    let pairs = c.args.index.now.pairs in
    let bytes = 2 ∷ g.K.Encode.bytes_of (key c.args.key.now) in
    one_noted cmp key value read (Remove c.args.key.now) bytes old c.push_remove.new.out.items pairs c.remove_sync.new.self.pairs c.in-Ok.ensures.pushed (remove_reads g.K.Encode.value_at g.V.Encode.value_at (key c.args.key.now) (g.K.Encode.bytes_of (key c.args.key.now)) c.in-Ok.ensures.law) c.remove_sync.ensures.left

pub returns-clause-noted : goal.returns-clause-noted
returns-clause-noted g c =
    let cmp = g.K.Ord.cmp in
    let key = g.K.Encode.seen in
    let value = g.V.Encode.seen in
    let read = record_at g.K.Encode.value_at g.V.Encode.value_at in
    let mark = c.len-mark.ensures ∙ c.args.batch.now.ok.0 in
    let old = c.args.batch.now.items in
    let pairs = c.args.index.now.pairs in
    nothing_noted cmp key value read old c.truncate-2.new.self.items pairs c.remove_sync.new.self.pairs (cut_back old (2 ∷ g.K.Encode.bytes_of (key c.args.key.now)) c.push_remove.new.out.items c.truncate-2.new.self.items c.len-mark.result c.in-Ok.ensures.pushed mark c.truncate-2.ensures.items) (ap (λ i. i.pairs) (c.remove_sync.ensures.kept c.if-remove_sync.false))
