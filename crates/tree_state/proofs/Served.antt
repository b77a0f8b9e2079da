-- A run serves as many writes as were spare.
use Rattle.std.proofs.Common.{ℕ, zero, suc, ◌≤◌, List, [], ◌∷◌, subst, arith}
use Rattle.tree_model.specs.declared.commands.Command.{Command}
use Rattle.tree_model.specs.declared.commands.Command.TheVariants.{Insert, Upsert, Remove, RemoveRange, Clear, Peek}
use Rattle.tree_model.specs.declared.commands.Reply.{Reply}
use Rattle.tree_state.specs.Served.{AreServed, SpendsBy}

module _ {K V : Type 0} where
  -- where more are spare, no fewer are served
  served_fewer : (spare fewer : ℕ) (commands : List (Command K V)) (replies : List (Reply V)) → fewer ≤ spare → AreServed spare commands replies → AreServed fewer commands replies
  served_fewer spare zero commands replies few served = tt
  served_fewer zero (suc fewer) commands replies few served = absurd (omega (arith, few))
  served_fewer (suc spare) (suc fewer) [] replies few served = tt
  served_fewer (suc spare) (suc fewer) (Insert k v ∷ commands) [] few served = tt
  served_fewer (suc spare) (suc fewer) (Upsert k v ∷ commands) [] few served = tt
  served_fewer (suc spare) (suc fewer) (Remove k ∷ commands) [] few served = tt
  served_fewer (suc spare) (suc fewer) (RemoveRange low high ∷ commands) [] few served = tt
  served_fewer (suc spare) (suc fewer) (Clear ∷ commands) [] few served = tt
  served_fewer (suc spare) (suc fewer) (Peek k ∷ commands) [] few served = tt
  served_fewer (suc spare) (suc fewer) (Insert k v ∷ commands) (reply ∷ replies) few served = (served.0, served_fewer spare fewer commands replies (omega (arith, few)) served.1)
  served_fewer (suc spare) (suc fewer) (Upsert k v ∷ commands) (reply ∷ replies) few served = (served.0, served_fewer spare fewer commands replies (omega (arith, few)) served.1)
  served_fewer (suc spare) (suc fewer) (Remove k ∷ commands) (reply ∷ replies) few served = tt
  served_fewer (suc spare) (suc fewer) (RemoveRange low high ∷ commands) (reply ∷ replies) few served = tt
  served_fewer (suc spare) (suc fewer) (Clear ∷ commands) (reply ∷ replies) few served = tt
  served_fewer (suc spare) (suc fewer) (Peek k ∷ commands) (reply ∷ replies) few served = served_fewer (suc spare) (suc fewer) commands replies few served

  -- a command and its reply before a run
  pub served_more : (old new : ℕ) (command : Command K V) (reply : Reply V) (commands : List (Command K V)) (replies : List (Reply V)) → SpendsBy command old new reply → AreServed new commands replies
      → AreServed old (command ∷ commands) (reply ∷ replies)
  served_more zero new command reply commands replies spends served = tt
  served_more (suc old) new (Insert k v) reply commands replies spends served =
      ((λ refused. absurd (omega (arith, spends.refused refused))), served_fewer new old commands replies (omega (arith, spends.lowers)) served)
  served_more (suc old) new (Upsert k v) reply commands replies spends served =
      ((λ refused. absurd (omega (arith, spends.refused refused))), served_fewer new old commands replies (omega (arith, spends.lowers)) served)
  served_more (suc old) new (Remove k) reply commands replies spends served = tt
  served_more (suc old) new (RemoveRange low high) reply commands replies spends served = tt
  served_more (suc old) new Clear reply commands replies spends served = tt
  served_more (suc old) new (Peek k) reply commands replies spends served = subst (λ (spare : ℕ). AreServed spare commands replies) spends served

-- no command, no reply
pub none_served : (K V : Type 0) (spare : ℕ) → AreServed {K = K} {V = V} spare [] []
none_served K V zero = tt
none_served K V (suc spare) = tt
