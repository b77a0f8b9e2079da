-- What workers did, and what a gate answered them. `answers` says what it may answer a worker before a call.
use Rattle.std.specs.Prelude.{◌≡◌, ℕ, ◌<◌, ◌≤◌, Bool, true, false}
use Rattle.tree_state.specs.Tallies.{tally_of}
use Rattle.tree_state.specs.declared.tally.Tally.{Tally}
use Rattle.tree_shared.specs.declared.workers.Task.{Task}

-- nothing but inserts was answered, and at most so many
abbrev pub OnlyInserts : ℕ → Tally → Type 0
OnlyInserts n t = (t.calls ≤ n) × (t ≡ tally_of t.calls t.stored 0 0 0)

-- A worker was let make each of n calls, or it was stopped before one of them.
abbrev pub IsAnswered : (ℕ → Bool → Type 0) → ℕ → Bool → Type 0
IsAnswered answers n false = (call : ℕ) → 0 < call → call ≤ n → answers call true
IsAnswered answers n true = (call : ℕ) × (0 < call) × (call ≤ n) × answers call false

-- Each of these workers was let make its n calls, or one was stopped.
abbrev pub AreAnswered : (ℕ → ℕ → Bool → Type 0) → ℕ → ℕ → Bool → Type 0
AreAnswered answers workers n false = (worker : ℕ) → worker < workers → IsAnswered (answers worker) n false
AreAnswered answers workers n true = (worker : ℕ) × (worker < workers) × IsAnswered (answers worker) n true

-- A task is that of this worker: to make n calls at this gate.
abbrev pub IsTask : {G : Type 0} → G → ℕ → ℕ → Task G → Type 0
IsTask gate worker n task = (task.gate.value ≡ gate) × (task.worker ≡ worker) × (task.n ≡ n)
