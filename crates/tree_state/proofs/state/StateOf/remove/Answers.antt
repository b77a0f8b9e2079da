use Rattle.std.proofs.Common.{refl, sym, ◌∙◌}
use Rattle.tree_model.specs.declared.commands.Command.TheVariants.{Remove}
use Rattle.tree_model.specs.declared.commands.Reply.TheVariants.{Removed}
use Rattle.tree_array.proofs.Common.{history_grows}
use Rattle.tree_node.proofs.Common.{fits}
use Rattle.tree_model.proofs.Histories.{same_key_itself}
use Rattle.tree_state.proofs.Rooms.{room_left}
use Rattle.tree_state.proofs.state.StateOf.remove.Goals as goal

-- the history grows by the key and the answer
pub invariant_of-self-2 : goal.invariant_of-self-2
invariant_of-self-2 g c =
    rw (c.keep.ensures, c.reserve.ensures.items) (history_grows g.met.K.Ord.total g.K.SameClone.seen g.V.SameClone.seen c.self.inside.history.items c.self.inside.index.pairs c.remove_sync-was.new.self.pairs (Remove c.args.key) (Removed c.remove_sync-was.result) (record { command = Remove c.args.key; reply = Removed c.remove_sync-was.result }) c.self.invariant (c.remove_sync-was.ensures.answer, c.remove_sync-was.ensures.left) tt (same_key_itself g.met.K.Ord.total _ _) refl)

pub returns-clause-ok : goal.returns-clause-ok
returns-clause-ok g c =
    rw (← c.self.view_is) (record { step = (c.remove_sync-was.ensures.answer, c.remove_sync-was.ensures.left); answered = tt; kept = record { command = Remove c.args.key; reply = Removed c.remove_sync-was.result }; appended = rw (c.keep.ensures, c.reserve.ensures.items) refl; same_command = same_key_itself g.met.K.Ord.total _ _; same_reply = refl })

pub remove_sync-was-requires : goal.remove_sync-was-requires
remove_sync-was-requires g c = search fits

pub keep-requires : goal.keep-requires
keep-requires g c = room_left c.reserve.result _ _ c.reserve.ensures.ok (sym c.is_err.ensures.value ∙ c.if-is_err.false)
