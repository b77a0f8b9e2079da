use Rattle.std.proofs.Common.{refl, sym, ◌∙◌}
use Rattle.tree_model.specs.declared.commands.Command.TheVariants.{Upsert}
use Rattle.tree_model.specs.declared.commands.Reply.TheVariants.{Stored}
use Rattle.tree_array.proofs.Common.{history_grows}
use Rattle.tree_node.proofs.Common.{fits}
use Rattle.tree_state.proofs.Rooms.{room_left}
use Rattle.tree_state.proofs.state.StateOf.upsert_prepared.Goals as goal

-- the history grows by the clones
pub invariant_of-self-2 : goal.invariant_of-self-2
invariant_of-self-2 g c =
    let pair = c.pair.inside in
    rw (c.keep.ensures, c.reserve.ensures.items) (history_grows g.met.K.Ord.total g.K.SameClone.seen g.V.SameClone.seen c.self.inside.history.items c.self.inside.index.pairs c.upsert_sync.new.self.pairs (Upsert pair.key pair.value) Stored (record { command = Upsert pair.kept_key pair.kept_value; reply = Stored }) c.self.invariant c.in_ok-upsert_sync.ensures.pairs tt c.pair.invariant tt)

pub returns-clause-ok : goal.returns-clause-ok
returns-clause-ok g c =
    let pair = c.pair.inside in
    rw (← c.self.view_is, ← c.pair.view_is) (record { step = c.in_ok-upsert_sync.ensures.pairs; answered = tt; kept = record { command = Upsert pair.kept_key pair.kept_value; reply = Stored }; appended = rw (c.keep.ensures, c.reserve.ensures.items) refl; same_command = c.pair.invariant; same_reply = tt })

pub upsert_sync-requires : goal.upsert_sync-requires
upsert_sync-requires g c = search fits

pub keep-requires : goal.keep-requires
keep-requires g c = room_left c.reserve.result _ _ c.reserve.ensures.ok (sym c.is_err.ensures.value ∙ c.if-is_err.false)
