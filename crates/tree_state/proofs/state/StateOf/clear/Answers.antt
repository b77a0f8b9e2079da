use Rattle.std.proofs.Common.{refl, sym, ◌∙◌}
use Rattle.tree_model.specs.declared.commands.Command.TheVariants.{Clear}
use Rattle.tree_model.specs.declared.commands.Reply.TheVariants.{Done}
use Rattle.tree_array.proofs.Common.{history_grows}
use Rattle.tree_node.proofs.Common.{fits}
use Rattle.tree_state.proofs.Rooms.{room_left}
use Rattle.tree_state.proofs.state.StateOf.clear.Goals as goal

-- the history grows by the command
pub invariant_of-self-2 : goal.invariant_of-self-2
invariant_of-self-2 g c =
    rw (c.keep.ensures, c.reserve.ensures.items) (history_grows g.met.K.Ord.total g.K.SameClone.seen g.V.SameClone.seen c.self.inside.history.items c.self.inside.index.pairs c.clear.new.self.pairs Clear Done (record { command = Clear; reply = Done }) c.self.invariant c.clear.ensures.pairs tt tt tt)

pub returns-clause-ok : goal.returns-clause-ok
returns-clause-ok g c =
    rw (← c.self.view_is) (record { step = c.clear.ensures.pairs; answered = tt; kept = record { command = Clear; reply = Done }; appended = rw (c.keep.ensures, c.reserve.ensures.items) refl; same_command = tt; same_reply = tt })

pub clear-requires : goal.clear-requires
clear-requires g c = search fits

pub keep-requires : goal.keep-requires
keep-requires g c = room_left c.reserve.result _ _ c.reserve.ensures.ok (sym c.is_err.ensures.value ∙ c.if-is_err.false)
