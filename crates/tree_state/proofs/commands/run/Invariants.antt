use Rattle.std.proofs.Common.{◌≡◌, ◌+◌, ◌≤◌, ◌++◌, length, vec_len, vec_capacity}
use Rattle.std.specs.Vec.Iter.{into_iter_items, into_iter_len}
use Rattle.tree_model.specs.Runs.{Runs}
use Rattle.tree_state.specs.Served.{AreServed}
use Rattle.tree_state.proofs.Climbs.{Leads}
use Rattle.tree_state.proofs.commands.run.Given as goal

-- a run of the commands that are left completes the replies so far to a run of all
abbrev pub invariant-loop-command : goal.invariant-loop-command
invariant-loop-command g l =
    let Completes = Runs g.K.Ord.cmp g.V.SameClone.seen in
    let LeadsOn = Leads g.K.Ord.cmp g.V.SameClone.seen g.row.LEN in
    record {
      can_next : (goal.iterator-loop-command g).can_next l.command-iterator;
      is_finite : (goal.iterator-loop-command g).is_finite l.command-iterator;
      completes : (replies : _) (new : _) → Completes l.index.pairs (into_iter_items l.command-iterator) replies new → Completes l.fn.index.pairs l.fn.commands.items (l.replies.items ++ replies) new;
      leads : (replies : _) (new : _) → LeadsOn l.index (into_iter_items l.command-iterator) replies new → LeadsOn l.fn.index l.fn.commands.items (l.replies.items ++ replies) new;
      serves : (replies : _) → AreServed l.index.spare (into_iter_items l.command-iterator) replies → AreServed l.fn.index.spare l.fn.commands.items (l.replies.items ++ replies);
      counted : into_iter_len l.command-iterator ≡ length (into_iter_items l.command-iterator);
      room : vec_len l.replies + into_iter_len l.command-iterator ≤ vec_capacity l.replies;
    }
