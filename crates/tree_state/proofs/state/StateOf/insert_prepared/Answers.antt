use Rattle.std.proofs.Common.{refl, sym, ◌∙◌}
use Rattle.tree_model.specs.declared.commands.Command.TheVariants.{Insert}
use Rattle.tree_model.specs.declared.commands.Reply.TheVariants.{Stored, Duplicate}
use Rattle.tree_array.proofs.Common.{history_grows}
use Rattle.tree_node.proofs.Common.{fits}
use Rattle.tree_state.proofs.Rooms.{room_left}
use Rattle.tree_state.proofs.state.StateOf.insert_prepared.Goals as goal

-- the history grows by the clones
pub invariant_of-self-in-Ok : goal.invariant_of-self-in-Ok
invariant_of-self-in-Ok g c =
    let pair = c.pair.inside in
    rw (c.keep.ensures, c.reserve.ensures.items) (history_grows g.met.K.Ord.total g.K.SameClone.seen g.V.SameClone.seen c.self.inside.history.items c.self.inside.index.pairs c.insert_sync.new.self.pairs (Insert pair.key pair.value) Stored (record { command = Insert pair.kept_key pair.kept_value; reply = Stored }) c.self.invariant c.in-Ok.ensures.pairs tt c.pair.invariant tt)

pub invariant_of-self-in-Err-Duplicate : goal.invariant_of-self-in-Err-Duplicate
invariant_of-self-in-Err-Duplicate g c =
    let pair = c.pair.inside in
    let back = rw c.in-Err-Duplicate.field-0-is at c.in-Err-Duplicate.ensures.pairs in
    rw (c.keep-in-Err-Duplicate.ensures, c.reserve.ensures.items) (history_grows g.met.K.Ord.total g.K.SameClone.seen g.V.SameClone.seen c.self.inside.history.items c.self.inside.index.pairs c.insert_sync.new.self.pairs (Insert pair.key pair.value) Duplicate (record { command = Insert pair.kept_key pair.kept_value; reply = Duplicate }) c.self.invariant (back.0, back.3) tt c.pair.invariant tt)

pub returns-in-Ok : goal.returns-in-Ok
returns-in-Ok g c =
    let pair = c.pair.inside in
    rw (← c.self.view_is, ← c.pair.view_is) (record { step = c.in-Ok.ensures.pairs; answered = tt; kept = record { command = Insert pair.kept_key pair.kept_value; reply = Stored }; appended = rw (c.keep.ensures, c.reserve.ensures.items) refl; same_command = c.pair.invariant; same_reply = tt })

pub returns-in-Err-Duplicate : goal.returns-in-Err-Duplicate
returns-in-Err-Duplicate g c =
    let pair = c.pair.inside in
    let back = rw c.in-Err-Duplicate.field-0-is at c.in-Err-Duplicate.ensures.pairs in
    rw (← c.self.view_is, ← c.pair.view_is) (record { step = (back.0, back.3); answered = tt; kept = record { command = Insert pair.kept_key pair.kept_value; reply = Duplicate }; appended = rw (c.keep-in-Err-Duplicate.ensures, c.reserve.ensures.items) refl; same_command = c.pair.invariant; same_reply = tt }, back.1, back.2)

pub insert_sync-requires : goal.insert_sync-requires
insert_sync-requires g c = search fits

pub keep-requires : goal.keep-requires
keep-requires g c = room_left c.reserve.result _ _ c.reserve.ensures.ok (sym c.is_err.ensures.value ∙ c.if-is_err.false)

pub keep-requires-in-Err-Duplicate : goal.keep-requires-in-Err-Duplicate
keep-requires-in-Err-Duplicate g c = room_left c.reserve.result _ _ c.reserve.ensures.ok (sym c.is_err.ensures.value ∙ c.if-is_err.false)
