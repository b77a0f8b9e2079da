use Rattle.std.proofs.Common.{refl, sym, ◌∙◌}
use Rattle.tree_model.specs.declared.commands.Command.TheVariants.{RemoveRange}
use Rattle.tree_model.specs.declared.commands.Reply.TheVariants.{Done}
use Rattle.tree_array.proofs.Common.{history_grows}
use Rattle.tree_node.proofs.Common.{fits}
use Rattle.tree_model.proofs.Histories.{same_bound_itself}
use Rattle.tree_state.proofs.Rooms.{room_left}
use Rattle.tree_state.proofs.state.StateOf.remove_range.Goals as goal

-- the history grows by the bounds
pub invariant_of-self-2 : goal.invariant_of-self-2
invariant_of-self-2 g c =
    rw (c.keep.ensures, c.reserve.ensures.items) (history_grows g.met.K.Ord.total g.K.SameClone.seen g.V.SameClone.seen c.self.inside.history.items c.self.inside.index.pairs c.remove_range_sync.new.self.pairs (RemoveRange c.args.low c.args.high) Done (record { command = RemoveRange c.args.low c.args.high; reply = Done }) c.self.invariant (rw (c.as_ref.ensures, c.as_ref-2.ensures) at c.remove_range_sync.ensures) tt (same_bound_itself g.met.K.Ord.total _ _, same_bound_itself g.met.K.Ord.total _ _) tt)

pub returns-clause-ok : goal.returns-clause-ok
returns-clause-ok g c =
    rw (← c.self.view_is) (record { step = rw (c.as_ref.ensures, c.as_ref-2.ensures) at c.remove_range_sync.ensures; answered = tt; kept = record { command = RemoveRange c.args.low c.args.high; reply = Done }; appended = rw (c.keep.ensures, c.reserve.ensures.items) refl; same_command = (same_bound_itself g.met.K.Ord.total _ _, same_bound_itself g.met.K.Ord.total _ _); same_reply = tt })

pub remove_range_sync-requires : goal.remove_range_sync-requires
remove_range_sync-requires g c = search fits

pub keep-requires : goal.keep-requires
keep-requires g c = room_left c.reserve.result _ _ c.reserve.ensures.ok (sym c.is_err.ensures.value ∙ c.if-is_err.false)
