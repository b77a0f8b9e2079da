-- A history leaves at most as many pairs as it stored.
use Rattle.std.proofs.Common.{◌≡◌, ◌+◌, ◌≤◌, cond, List, [], ◌∷◌, length, ap, arith, not, Ordering}
use Rattle.tree_model.proofs.Common.{within}
use Rattle.tree_model.specs.declared.commands.Command.{Command}
use Rattle.tree_model.specs.declared.commands.Command.TheVariants.{Insert, Upsert, Remove, RemoveRange, Clear, Peek}
use Rattle.tree_model.specs.declared.commands.Reply.{Reply}
use Rattle.tree_model.specs.declared.commands.Reply.TheVariants.{Stored, Duplicate, Removed, Done, Found}
use Rattle.std.proofs.lemmas.List.Sums.{count_by-le-length, length-filter, sum_by-cons}
use Rattle.tree_model.specs.declared.commands.Reply.TheVariants.{Refused}
use Rattle.tree_model.specs.declared.commands.Record.{Record}
use Rattle.tree_model.specs.Runs.{Step}
use Rattle.tree_model.specs.History.{IsHistoryOf, IsSamePairs, Replays}
use Rattle.tree_model.proofs.Lengths.{length-put, without_few}
use Rattle.tree_state.specs.Tallies.{is_stored, tally}

module _ {K V S : Type 0} (cmp : K → K → Ordering) (seen : V → S) where
  same_length : (new old : List (K × V)) → new ≡ old → length new ≡ length old
  same_length new old e = ap (λ (l : List (K × V)). length l) e

  -- an answered command adds one pair at most, and only where it stores one
  step_grows : (old new : List (K × V)) (command : Command K V) (reply : Reply V) → Step cmp seen old command reply new → length new ≤ length old + cond (is_stored reply) 1 0
  step_grows old new (Insert k v) Stored step = omega (arith, same_length new _ step.1, length-put cmp old k v, without_few cmp old k)
  step_grows old new (Insert k v) Duplicate step = omega (arith, same_length new old step.1)
  step_grows old new (Insert k v) Refused step = omega (arith, same_length new old step.1)
  step_grows old new (Upsert k v) Stored step = omega (arith, same_length new _ step, length-put cmp old k v, without_few cmp old k)
  step_grows old new (Upsert k v) Refused step = omega (arith, same_length new old step)
  step_grows old new (Remove k) (Removed was) step = omega (arith, same_length new _ step.1, without_few cmp old k)
  step_grows old new (RemoveRange low high) Done step =
      omega (arith, same_length new _ step, length-filter (λ (p : K × V). not (within cmp low high p.0)) old, count_by-le-length (λ (p : K × V). not (within cmp low high p.0)) old)
  step_grows old new Clear Done step = omega (arith, same_length new [] step)
  step_grows old new (Peek k) (Found found) step = omega (arith, same_length new old step.1)
  step_grows old new (Peek k) Refused step = omega (arith, same_length new old step.1)
  step_grows old new command reply step = absurd step

  replays_grow : (old new : List (K × V)) (history : List (Record K V)) → Replays cmp seen old history new → length new ≤ length old + (tally history).stored
  replays_grow old new [] replays = omega (arith, same_length new old replays)
  replays_grow old new (record_ ∷ records) replays =
      omega (arith, sum_by-cons (λ (r : Record K V). cond (is_stored r.reply) 1 0) record_ records, step_grows old replays.0 record_.command record_.reply replays.2, replays_grow replays.0 new records replays.3)

module _ {K V A B : Type 0} (cmp : K → K → Ordering) (seen_key : K → A) (seen : V → B) where
  -- pairs that are seen the same are as many
  same_pairs_many : (ps qs : List (K × V)) → IsSamePairs cmp seen_key seen ps qs → length ps ≡ length qs
  same_pairs_many [] [] same = omega arith
  same_pairs_many (p ∷ ps) (q ∷ qs) same = omega (arith, same_pairs_many ps qs same.2)
  same_pairs_many [] (q ∷ qs) same = absurd same
  same_pairs_many (p ∷ ps) [] same = absurd same

  pub stored_all : (history : List (Record K V)) (pairs : List (K × V)) → IsHistoryOf cmp seen_key seen history pairs → length pairs ≤ (tally history).stored
  stored_all history pairs is = omega (arith, same_pairs_many pairs is.replayed is.same, replays_grow cmp seen [] is.replayed history is.replays)
