use Rattle.std.proofs.Common.{◌∷◌, [], refl, ◌∙◌}
use Rattle.store_codec.specs.Records.{record_at}
use Rattle.store_codec.specs.declared.records.Record.TheVariants.{Clear}
use Rattle.tree_node.proofs.Common.{fits}
use Rattle.tree_store.proofs.Noted.{nothing_noted, one_noted}
use Rattle.tree_store.proofs.batch.clear.Goals as goal

pub clear-requires : goal.clear-requires
clear-requires g c = search fits

pub returns-in_err-push_clear-clause-noted : goal.returns-in_err-push_clear-clause-noted
returns-in_err-push_clear-clause-noted g c =
    nothing_noted g.K.Ord.cmp g.K.Encode.seen g.V.Encode.seen (record_at g.K.Encode.value_at g.V.Encode.value_at) c.args.batch.now.items c.push_clear.new.out.items c.args.index.now.pairs c.args.index.now.pairs c.in_err-push_clear.ensures.refused refl

pub returns-clause-noted : goal.returns-clause-noted
returns-clause-noted g c =
    one_noted g.K.Ord.cmp g.K.Encode.seen g.V.Encode.seen (record_at g.K.Encode.value_at g.V.Encode.value_at) Clear (4 ∷ []) c.args.batch.now.items c.push_clear.new.out.items c.args.index.now.pairs c.clear.new.self.pairs c.in_ok-push_clear.ensures.pushed (λ rest. refl) c.clear.ensures.pairs
