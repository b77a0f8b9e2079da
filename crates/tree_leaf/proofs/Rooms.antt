-- What is kept in an arena, and the room that is left in it.
use Rattle.tree_leaf.proofs.Common.{◌≡◌, ℕ, ◌+◌, ◌≤◌, Result, IsOk, OnOk, Option, Some, None, is_some, cond, refl, arith, sum_by-set, Slab, get, ContainsKey, slab_len, HasRoomFor}
use Rattle.tree_leaf.proofs.Common.{Updates, with_value, ContainsKey-within, SlotsOf, Keeps, Loses, KeepsBoth, Refuses, Reserves, SameRoom}

module _ {T : Type 0} where
  -- an arena that has changed at most in how much fits, which is no less
  pub grown : (old new : Slab T) → new ≡ record old { capacity = new.capacity } → old.capacity ≤ new.capacity → Keeps old new
  grown old new same more_fits = grind arith

  -- where memory is refused the value comes back
  pub refused : {old new : Slab T} {value back : T} → back ≡ value → new ≡ record old { capacity = new.capacity } → old.capacity ≤ new.capacity
      → (HasRoomFor old 1 → ⊥) → Refuses old new value back
  refused same rest more_fits none = record { same = same; kept = grown _ _ rest more_fits; no_room = none }

  -- the place of a value that was taken out is room
  pub lost : (old new : Slab T) (id : ℕ) (value : T) → get old id ≡ Some value → Updates old new id None → slab_len new + 1 ≡ slab_len old → new.capacity ≡ old.capacity → Loses old new id value
  lost old new id value here updates counted capacity = record { here = here; updates = updates; counted = counted; room = λ more had. omega arith }

  -- a value that takes the place of another takes no room
  pub rewritten : (arena : Slab T) (id : ℕ) (value : T) → ContainsKey arena id → SameRoom arena (with_value arena id value)
  rewritten arena id value used =
      let set_there = sum_by-set (λ (slot : Option T). cond (is_some slot) 1 0) arena.slots id (Some value) None (ContainsKey-within arena id used) in
      let was : cond {A = ℕ} (is_some (get arena id)) 1 0 ≡ 1 = rw used refl in
      record { counted = omega (arith, set_there, was); capacity = refl }

module _ {K V N : Type 0} {LEN : ℕ} where
  -- what the second of two reserves answers is what both answer, where the first one went through
  pub reserved : {A E : Type 0} (old new : SlotsOf K V N LEN) (more_leaves more_nodes : ℕ) (result : Result A E) → KeepsBoth old new → HasRoomFor new.leaves more_leaves → OnOk result (HasRoomFor new.nodes more_nodes) → (HasRoomFor old.nodes more_nodes → IsOk result) → Reserves old new more_leaves more_nodes result
  reserved old new more_leaves more_nodes result kept leaves nodes succeeds = grind arith
