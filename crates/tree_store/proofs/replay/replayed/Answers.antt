use Rattle.std.specs.Prelude.{Err}
use Rattle.tree_store.specs.declared.error.ReplayError.TheVariants.{Unreadable}
use Rattle.std.proofs.Common.{inr, ◌≡◌, ℕ, List, [], ◌∷◌, Some, refl, sym, ◌∙◌, ap, subst, map}
use Rattle.store_frames.specs.Frame.{Reads, first_frame}
use Rattle.store_frames.specs.Seal.{sealed}
use Rattle.store_frames.proofs.Batches.{before, behind}
use Rattle.store_log.proofs.Examined.{no_frame}
use Rattle.tree_node.proofs.Common.{fits}
use Rattle.store_codec.specs.Records.{record_at}
use Rattle.tree_store.specs.Changes.{Leads}
use Rattle.tree_store.proofs.Replayed.{behind_head, same_err}
use Rattle.tree_store.proofs.replay.replayed.Goals as goal

pub new-index-requires : goal.new-index-requires
new-index-requires g c = (search fits, inr refl)

pub returns-in_default-clause-led : goal.returns-in_default-clause-led
returns-in_default-clause-led g c head texts h = absurd (no_frame c.args.bytes.now (sym c.in_default.ensures) head texts h)

pub returns-in-Ok-clause-led : goal.returns-in-Ok-clause-led
returns-in-Ok-clause-led g c head texts h =
    let read = record_at g.K.Encode.value_at g.V.Encode.value_at in
    let reads = behind_head c.args.bytes.now c.in-Some.field-0-0.now c.in-Some.behind.now (sym c.in-Some.ensures) head texts h in
    subst (λ (p : List (g.row.K.Denot × g.row.V.Denot)). Leads g.K.Ord.cmp g.K.Encode.seen g.V.Encode.seen read texts p c.apply_frames.new.index.pairs) c.new-index.ensures.pairs (c.in-Ok.ensures.led head.key texts reads)

pub returns-in-Err-clause-sound : goal.returns-in-Err-clause-sound
returns-in-Err-clause-sound g c is head texts h have =
    let reads = behind_head c.args.bytes.now c.in-Some.field-0-0.now c.in-Some.behind.now (sym c.in-Some.ensures) head texts h in
    c.in-Err.ensures.sound (ap (λ x. Err x) (same_err c.in-Err.error Unreadable is)) head.key texts reads have
