use Rattle.std.proofs.Common.{sym, ap, ◌∙◌}
use Rattle.tree_node.proofs.Common.{fits}
use Rattle.tree_state.specs.Tallies.{raised, tally}
use Rattle.tree_state.proofs.Tallied.{not_refused, tally_next}
use Rattle.tree_shared.proofs.Answered.{kind_of}
use Rattle.tree_shared.proofs.locked.Locked.apply.Goals as goal

pub apply-requires : goal.apply-requires
apply-requires g c = search fits

pub invariant_of-self : goal.invariant_of-self
invariant_of-self g c = record {
  tallied = c.args.self.now.tallied ∙ ap (λ l. tally l.history) (sym c.in_err-reply.ensures.err);
}

pub count-requires-clause-answered : goal.count-requires-clause-answered
count-requires-clause-answered g c = not_refused c.in_ok-reply.reply c.in_ok-reply.ensures.ok.answered

pub invariant_of-self-2 : goal.invariant_of-self-2
invariant_of-self-2 g c = record {
  tallied =
      c.count.ensures.books
      ∙ ap (λ t. raised t c.in_ok-reply.reply) c.args.self.now.tallied
      ∙ sym (tally_next g.K.Ord.cmp g.K.SameClone.seen g.V.SameClone.seen _ _ c.args.command c.in_ok-reply.reply c.in_ok-reply.ensures.ok);
}

pub returns-clause-kind : goal.returns-clause-kind
returns-clause-kind g c = kind_of g.K.Ord.cmp g.K.SameClone.seen g.V.SameClone.seen _ _ c.args.command c.in_ok-reply.reply c.in_ok-reply.ensures.ok
