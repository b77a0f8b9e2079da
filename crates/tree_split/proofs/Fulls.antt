-- Where an array or a node takes no more, and where it does.
use Rattle.std.proofs.Common.{◌≡◌, ℕ, cond, Some, arith}
use Rattle.tree_split.proofs.Words.{IsFull, Arrivals, HasRoom, cases_Bool, free, keyed, NodeOf, found_room}

-- a full array takes nothing more
pub none_free : {K V : Type 0} (LEN : ℕ) (array : Arrivals K V) → IsFull LEN array → cond array.retired 0 (free LEN array) ≡ 0
none_free LEN array full = grind arith

module _ {K : Type 0} {LEN : ℕ} (node : NodeOf K LEN) where
  -- a full array of children is no room
  pub full_room : IsFull LEN (keyed node) → found_room (Some node) ≡ 0
  full_room full = grind (arith, none_free LEN (keyed node) full)

  -- and one that isn't full has room
  pub not_full_room : (IsFull LEN (keyed node) → ⊥) → HasRoom LEN (keyed node)
  not_full_room not = grind (arith, cases_Bool (keyed node).retired)
