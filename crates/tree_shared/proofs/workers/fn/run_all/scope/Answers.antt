use Rattle.std.proofs.Common.{◌≡◌, ℕ, Some, IfOk, slice_get, subst, vec_len}
use Rattle.tree_shared.specs.Workers.{IsTask}
use Rattle.tree_shared.proofs.WorkersAnswered.{all_ended}
use Rattle.tree_shared.proofs.workers.fn.run_all.scope.Goals as goal

-- each thread that was started was joined, and kept its promise
pub returns : goal.returns
returns g c =
    let started = c.in_ok-handles.ensures in
    let joined = c.join_all.ensures in
    let kept = all_ended c.join_all.result (λ back. back.items)
    (λ gate n. (worker : ℕ) (handle : _) → slice_get c.in_ok-handles.handles.items worker ≡ Some handle → IsTask gate worker n handle.promise) g.G.Gate.answers
    (vec_len c.in_ok-handles.handles) (vec_len c.captures.passes) c.captures.gate.now c.captures.n joined.kept started.promised started.count in
    record {
      count = subst (λ count. IfOk c.join_all.result (λ ended. vec_len ended.0 ≡ count)) started.count joined.count;
      inserts = kept.0;
      gate = kept.1;
      refused = joined.refused;
    }
