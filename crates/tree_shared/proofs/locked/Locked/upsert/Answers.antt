use Rattle.std.proofs.Common.{sym, ap, ◌∙◌}
use Rattle.tree_model.specs.declared.commands.Command.TheVariants.{Upsert}
use Rattle.tree_model.specs.declared.commands.Reply.TheVariants.{Stored}
use Rattle.tree_node.proofs.Common.{fits}
use Rattle.tree_state.specs.Tallies.{raised, tally}
use Rattle.tree_state.proofs.Tallied.{tally_next}
use Rattle.tree_shared.proofs.locked.Locked.upsert.Goals as goal

pub upsert_prepared-requires : goal.upsert_prepared-requires
upsert_prepared-requires g c = search fits

pub invariant_of-self : goal.invariant_of-self
invariant_of-self g c = record {
  tallied = c.args.self.now.tallied ∙ ap (λ l. tally l.history) (sym c.in_err-upsert_prepared.ensures.err);
}

pub invariant_of-self-2 : goal.invariant_of-self-2
invariant_of-self-2 g c = record {
  tallied =
      c.count.ensures.books
      ∙ ap (λ t. raised {V = g.row.V.Denot} t Stored) c.args.self.now.tallied
      ∙ sym (tally_next g.K.Ord.cmp g.K.SameClone.seen g.V.SameClone.seen _ _ (Upsert c.args.pair.0 c.args.pair.1) Stored c.in_ok-upsert_prepared.ensures.ok);
}
