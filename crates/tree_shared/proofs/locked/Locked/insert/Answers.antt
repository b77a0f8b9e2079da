use Rattle.std.proofs.Common.{rules, refl, sym, ap, ◌∙◌}
use Rattle.tree_model.specs.declared.commands.Reply.TheVariants.{Duplicate}
use Rattle.tree_node.proofs.Common.{fits}
use Rattle.tree_state.specs.Tallies.{tally, reply_of_insert}
use Rattle.tree_shared.proofs.Answered.{insert_kept, insert_tallied}
use Rattle.tree_shared.proofs.locked.Locked.insert.Goals as goal

pub insert_prepared-outcome-requires : goal.insert_prepared-outcome-requires
insert_prepared-outcome-requires g c = search fits

pub invariant_of-self : goal.invariant_of-self
invariant_of-self g c = record {
  tallied =
      insert_tallied g.K.Ord.cmp g.K.SameClone.seen g.V.SameClone.seen _ _ c.args.pair.0 c.args.pair.1 _ c.insert_prepared-outcome.ensures _ _ _ (ap (λ r. reply_of_insert r) c.in-Ok.is)
      c.args.self.now.tallied
      c.count.ensures.books
      refl;
}

pub invariant_of-self-in-Err-Duplicate : goal.invariant_of-self-in-Err-Duplicate
invariant_of-self-in-Err-Duplicate g c = record {
  tallied =
      insert_tallied g.K.Ord.cmp g.K.SameClone.seen g.V.SameClone.seen _ _ c.args.pair.0 c.args.pair.1 c.insert_prepared-outcome.result c.insert_prepared-outcome.ensures Duplicate _ _ (search rules)
      c.args.self.now.tallied
      c.count-in-Err-Duplicate.ensures.books
      refl;
}

pub invariant_of-self-in-Err-OutOfMemory : goal.invariant_of-self-in-Err-OutOfMemory
invariant_of-self-in-Err-OutOfMemory g c = record {
  tallied =
      c.args.self.now.tallied
      ∙ ap (λ l. tally l.history) (sym (insert_kept g.K.Ord.cmp g.K.SameClone.seen g.V.SameClone.seen _ _ c.args.pair.0 c.args.pair.1 c.insert_prepared-outcome.result c.insert_prepared-outcome.ensures (search rules)));
}
