use Rattle.std.proofs.Common.{◌∷◌, ◌++◌, refl, ◌∙◌, append_assoc, subst, Bor}
use Rattle.std.specs.Range.Bound.{bound_map}
use Rattle.store_codec.specs.Records.{ReadsBack, record_at, bound_bytes}
use Rattle.store_codec.specs.declared.records.Record.TheVariants.{Cut}
use Rattle.tree_node.proofs.Common.{fits}
use Rattle.tree_store.proofs.Noted.{cut_back, cut_reads, cut_seen, nothing_noted, one_noted}
use Rattle.tree_store.proofs.batch.remove_range.Goals as goal

pub remove_range_sync-requires : goal.remove_range_sync-requires
remove_range_sync-requires g c = search fits

pub returns-in_default-clause-noted : goal.returns-in_default-clause-noted
returns-in_default-clause-noted g c =
    let cmp = g.K.Ord.cmp in
    let key = g.K.Encode.seen in
    let value = g.V.Encode.seen in
    let read = record_at g.K.Encode.value_at g.V.Encode.value_at in
    let mark = c.len-mark.ensures ∙ c.args.batch.now.ok.0 in
    let old = c.args.batch.now.items in
    let pairs = c.args.index.now.pairs in
    nothing_noted cmp key value read old c.truncate.new.self.items pairs pairs (cut_back old c.in_default.ensures.refused.0 c.push_cut.new.out.items c.truncate.new.self.items c.len-mark.result c.in_default.ensures.refused.1 mark c.truncate.ensures.items) refl

pub returns-clause-noted : goal.returns-clause-noted
returns-clause-noted g c =
    let cmp = g.K.Ord.cmp in
    let key = g.K.Encode.seen in
    let value = g.V.Encode.seen in
    let read = record_at g.K.Encode.value_at g.V.Encode.value_at in
    let mark = c.len-mark.ensures ∙ c.args.batch.now.ok.0 in
    let old = c.args.batch.now.items in
    let pairs = c.args.index.now.pairs in
    let now = λ (k : Bor g.row.K.Denot). k.now in
    let low = bound_map (λ k. key k.now) c.args.bounds.0 in
    let high = bound_map (λ k. key k.now) c.args.bounds.1 in
    let l = bound_bytes g.K.Encode.bytes_of low in
    let h = bound_bytes g.K.Encode.bytes_of high in
    let law = cut_reads g.K.Encode.value_at g.V.Encode.value_at low high l h c.in-Ok.ensures.law.0 c.in-Ok.ensures.law.1 in
    one_noted cmp key value read (Cut (bound_map (λ k. k.now) c.args.bounds.0) (bound_map (λ k. k.now) c.args.bounds.1)) (3 ∷ l ++ h) old c.push_cut.new.out.items pairs c.remove_range_sync.new.self.pairs (c.in-Ok.ensures.pushed ∙ append_assoc old (3 ∷ l) h) (subst (ReadsBack read (3 ∷ l ++ h)) (cut_seen now key value c.args.bounds.0 c.args.bounds.1) law) c.remove_range_sync.ensures
