-- What a gate answered several workers.
use Rattle.std.proofs.Common.{◌≡◌, ◌∙◌, ℕ, ◌+◌, ◌<◌, ◌≤◌, Bool, true, false, ◌||◌, ◌⊎◌, List, [], ◌∷◌, ◌++◌, length, get_or, slice_get, Some, Result, Ok, Err, All, IfOk, inl, inr, refl, sym, subst, arith}
use Rattle.std.proofs.lemmas.Bool.{cases_lt}
use Rattle.std.proofs.lemmas.List.{get_or_append_left, get_or_push, length_push}
use Rattle.std.proofs.lemmas.Option.{get_or_from_slice_get, slice_get_read, slice_get_within}
use Rattle.tree_state.specs.declared.tally.Tally.{Tally}
use Rattle.tree_shared.specs.Workers.{AreAnswered, IsAnswered, IsTask, OnlyInserts}
use Rattle.tree_shared.specs.declared.workers.Task.{Task}

-- a worker ended as its task says
pub ended_so : {G : Type 0} (answers : G → ℕ → ℕ → Bool → Type 0) (gate : G) (worker n : ℕ) (task : Task G) (t : Tally) (stopped : Bool) → IsTask gate worker n task
    → OnlyInserts task.n t × IsAnswered (answers task.gate.value task.worker) task.n stopped → OnlyInserts n t × IsAnswered (answers gate worker) n stopped
ended_so answers gate worker n task t stopped is ended = rw (sym is.0, sym is.1, sym is.2) ended

module _ (answers : ℕ → ℕ → Bool → Type 0) (workers n : ℕ) where
  -- one more worker ended
  pub one_more : (stopped more : Bool) → AreAnswered answers workers n stopped → IsAnswered (answers workers) n more → AreAnswered answers (workers + 1) n (stopped || more)
  one_more false false each last = λ worker below. at worker below (cases_lt worker workers)
    where
      at : (worker : ℕ) → worker < workers + 1 → (worker < workers) ⊎ (workers ≤ worker) → IsAnswered (answers worker) n false
      at worker below (inl before) = each worker before
      at worker below (inr beyond) = subst (λ w. IsAnswered (answers w) n false) (omega (arith, below, beyond)) last
  one_more false true each last = (workers, omega arith, last)
  one_more true more each last = (each.0, omega (arith, each.1), each.2)

-- one more worker was started, and each has its task
pub one_started : {X : Type 0} (P : ℕ → X → Type 0) (xs : List X) (last : X) → ((k : ℕ) (x : X) → slice_get xs k ≡ Some x → P k x) → P (length xs) last → (k : ℕ) (x : X) → slice_get (xs ++ last ∷ []) k ≡ Some x → P k x
one_started P xs last each end k x is = at (cases_lt k (length xs))
  where
    here : get_or (xs ++ last ∷ []) k x ≡ x
    here = get_or_from_slice_get (xs ++ last ∷ []) k x x is

    at : (k < length xs) ⊎ (length xs ≤ k) → P k x
    at (inl before) = each k x (slice_get_read xs (length xs) k x refl before (sym here ∙ get_or_append_left xs (last ∷ []) x k before))
    at (inr beyond) =
        let within = slice_get_within (xs ++ last ∷ []) k x is in
        let same : length xs ≡ k = omega (arith, beyond, within, length_push xs last) in
        subst (P k) (sym (get_or_push xs last x k same) ∙ here) (subst (λ w. P w last) same end)

-- all workers ended as their tasks say
pub all_ended : {V E G : Type 0} (result : Result (V × Bool) E) (items : V → List Tally) (tasks : G → ℕ → Type 0) (answers : G → ℕ → ℕ → Bool → Type 0) (joined workers : ℕ) (gate : G) (n : ℕ)
    → IfOk result (λ ended. (gate : G) (n : ℕ) → tasks gate n → All (OnlyInserts n) (items ended.0) × AreAnswered (answers gate) joined n ended.1) → tasks gate n → joined ≡ workers
    → IfOk result (λ ended. All (OnlyInserts n) (items ended.0)) × IfOk result (λ ended. AreAnswered (answers gate) workers n ended.1)
all_ended (Ok ended) items tasks answers joined workers gate n kept promised is = let at = kept gate n promised in (at.0, subst (λ w. AreAnswered (answers gate) w n ended.1) is at.1)
all_ended (Err e) items tasks answers joined workers gate n kept promised is = (tt, tt)
