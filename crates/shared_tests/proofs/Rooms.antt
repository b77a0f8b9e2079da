-- Tallies of zeros have room for a short schedule.
use Rattle.std.proofs.Common.{◌≡◌, ℕ, zero, suc, ◌<◌, List, [], ◌∷◌, length, refl, sym, subst, arith, slice_index_or, Ordering}
use Rattle.tree_model.specs.declared.commands.Command.{Command}
use Rattle.tree_state.specs.declared.tally.Tally.{Tally}
use Rattle.tree_state.specs.Schedules.{HasRoom, FitsEachRun}
use Rattle.tree_state.specs.Tallies.{none}
use Rattle.tree_state.proofs.Schedules.{fits_each_run}

zero_at : (worker : ℕ) → slice_index_or (none ∷ none ∷ []) worker none ≡ none
zero_at zero = refl
zero_at (suc zero) = refl
zero_at (suc (suc n)) = refl

pub zeros_have_room : {K V A B : Type 0} (cmp : K → K → Ordering) (seen_key : K → A) (seen : V → B) (old : List (K × V)) (schedule : List (ℕ × Command K V)) → length schedule ≡ 5 → FitsEachRun cmp seen_key seen old schedule (none ∷ none ∷ [])
zeros_have_room cmp seen_key seen old schedule few =
    fits_each_run cmp seen_key seen old schedule (none ∷ none ∷ [])
    (λ worker within.
    subst (λ (t : Tally). HasRoom (length schedule) t) (sym (zero_at worker)) (
      omega (arith, few),
      omega (arith, few),
      omega (arith, few),
      omega (arith, few),
      omega (arith, few),
    ))
