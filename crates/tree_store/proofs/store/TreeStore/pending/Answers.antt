use Rattle.std.proofs.Common.{◌≡◌, ◌==◌, ℕ, List, [], refl, sym, ◌∙◌, ap, subst, arith, length}
use Rattle.store_codec.specs.Records.{record_at}
use Rattle.tree_model.proofs.Common.{nil_from_length}
use Rattle.tree_store.proofs.Noted.{nothing_to_save}
use Rattle.tree_store.proofs.store.TreeStore.pending.Goals as goal

pub returns : goal.returns
returns g c =
    rw (← c.self.view_is) (λ none clean runs.
    let inside = c.self.inside in
    let empty : inside.batch.items ≡ [] = nil_from_length inside.batch.items (omega (arith, none, c.len.ensures, inside.batch.ok.0)) in
    nothing_to_save g.K.Ord.cmp g.K.Encode.seen g.V.Encode.seen (record_at g.K.Encode.value_at g.V.Encode.value_at) inside.log.texts inside.batch.items inside.index.pairs (c.self.invariant.goes_on runs clean) empty refl)
