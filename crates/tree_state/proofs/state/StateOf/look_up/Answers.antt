use Rattle.std.proofs.Common.{refl, ap, sym, ◌∙◌, option_map}
use Rattle.tree_model.specs.declared.commands.Command.TheVariants.{Peek}
use Rattle.tree_model.specs.declared.commands.Reply.TheVariants.{Found}
use Rattle.tree_array.proofs.Common.{history_grows}
use Rattle.tree_node.proofs.Common.{fits}
use Rattle.tree_model.proofs.Histories.{same_key_itself, seen_value}
use Rattle.tree_state.proofs.Rooms.{room_left}
use Rattle.tree_state.proofs.state.StateOf.look_up.Goals as goal

-- both clones are seen as the value at the key
pub invariant_of-self-2 : goal.invariant_of-self-2
invariant_of-self-2 g c =
    let found = c.in-Ok.ensures.first ∙ ap (option_map g.V.SameClone.seen) c.peek.ensures.found ∙ seen_value g.V.SameClone.seen _ in
    rw (c.keep.ensures, c.reserve.ensures.items) (history_grows g.met.K.Ord.total g.K.SameClone.seen g.V.SameClone.seen c.self.inside.history.items c.self.inside.index.pairs c.self.inside.index.pairs (Peek c.args.key) (Found c.in-Ok.found) (record { command = Peek c.args.key; reply = Found c.in-Ok.kept }) c.self.invariant (found, refl) tt (same_key_itself g.met.K.Ord.total _ _) (c.in-Ok.ensures.first ∙ sym c.in-Ok.ensures.second))

pub returns-clause-ok : goal.returns-clause-ok
returns-clause-ok g c =
    let found = c.in-Ok.ensures.first ∙ ap (option_map g.V.SameClone.seen) c.peek.ensures.found ∙ seen_value g.V.SameClone.seen _ in
    rw (← c.self.view_is) (record { step = (found, refl); answered = tt; kept = record { command = Peek c.args.key; reply = Found c.in-Ok.kept }; appended = rw (c.keep.ensures, c.reserve.ensures.items) refl; same_command = same_key_itself g.met.K.Ord.total _ _; same_reply = c.in-Ok.ensures.first ∙ sym c.in-Ok.ensures.second })

pub peek-requires : goal.peek-requires
peek-requires g c = search fits

pub keep-requires : goal.keep-requires
keep-requires g c = room_left c.reserve.result _ _ c.reserve.ensures.ok (sym c.is_err.ensures.value ∙ c.if-is_err.false)
