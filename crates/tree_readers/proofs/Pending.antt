-- What is pending: the commands of the log that readers don't see, and those of the queue.
use Rattle.std.proofs.Common.{◌≡◌, ◌⊎◌, ℕ, ◌+◌, inr, arith, Result, Ok, Err, MatchResult, List, [], ◌∷◌, ◌++◌, refl, sym, ap, ◌∙◌, append-nil, append_assoc}

module _ {O : Type 0} where
  -- the first command of the queue goes to the end of the log
  pub one_passed : (log longer queue rest all : List O) (command : O) → longer ≡ log ++ command ∷ [] → queue ≡ command ∷ rest → log ++ queue ≡ all → longer ++ rest ≡ all
  one_passed log longer queue rest all command appended popped together =
      ap (λ (l : List O). l ++ rest) appended ∙ (append_assoc log (command ∷ []) rest ∙ (ap (λ (l : List O). log ++ l) (sym popped) ∙ together))

  -- a command goes behind the queue
  pub pushed : (result : Result (Unit {0}) O) (command : O) (published log queue longer : List O) (shows : ℕ) → MatchResult result (λ _. longer ≡ queue ++ command ∷ []) (λ back. (back ≡ command) × (longer ≡ queue))
      → MatchResult result (λ _. (published ≡ published) × (log ++ longer ≡ log ++ queue ++ command ∷ []) × (shows ≡ shows)) (λ back. (back ≡ command) × ((published ≡ published) × (log ++ longer ≡ log ++ queue) × (shows ≡ shows)))
  pushed (Ok done) command published log queue longer shows h = (refl, ap (λ (l : List O). log ++ l) h ∙ sym (append_assoc log queue (command ∷ [])), refl)
  pushed (Err back) command published log queue longer shows h = (h.0, (refl, ap (λ (l : List O). log ++ l) h.1, refl))

  module _ {E : Type 0} where
    -- a batch goes behind the queue
    pub pushed_all : (result : Result (Unit {0}) E) (published log queue longer batch left : List O) (shows : ℕ) → MatchResult result (λ _. (longer ≡ queue ++ batch) × (left ≡ [])) (λ _. (longer ≡ queue) × (left ≡ batch))
        → MatchResult result (λ _. ((published ≡ published) × (log ++ longer ≡ log ++ queue ++ batch) × (shows ≡ shows)) × (left ≡ [])) (λ _. ((published ≡ published) × (log ++ longer ≡ log ++ queue) × (shows ≡ shows)) × (left ≡ batch))
    pushed_all (Ok done) published log queue longer batch left shows h = ((refl, ap (λ (l : List O). log ++ l) h.0 ∙ sym (append_assoc log queue batch), refl), h.1)
    pushed_all (Err failed) published log queue longer batch left shows h = ((refl, ap (λ (l : List O). log ++ l) h.0, refl), h.1)

    -- The queue went to the log, and then the log was shown, or nothing was.
    pub passed_and_shown : (result : Result (Unit {0}) E) (old mid new log longer left queue rest : List O) (before between after : ℕ) → mid ≡ old → between ≡ before → longer ++ rest ≡ log ++ queue → rest ≡ []
        → MatchResult result (λ _. (new ≡ mid ++ longer) × (left ≡ []) × (after ≡ between + 1)) (λ _. (new ≡ mid) × (left ≡ longer) × (after ≡ between))
        → MatchResult result (λ _. (new ≡ old ++ (log ++ queue)) × (left ++ rest ≡ []) × (after ≡ before + 1)) (λ _. (new ≡ old) × (left ++ rest ≡ log ++ queue) × (after ≡ before))
    passed_and_shown (Ok done) old mid new log longer left queue rest before between after same kept passed none h =
        let all : longer ≡ log ++ queue = sym (append-nil longer) ∙ (ap (λ (l : List O). longer ++ l) (sym none) ∙ passed) in
        (h.0 ∙ (ap (λ (l : List O). l ++ longer) same ∙ ap (λ (l : List O). old ++ l) all), ap (λ (l : List O). l ++ rest) h.1 ∙ none, h.2 ∙ ap (λ (n : ℕ). n + 1) kept)
    passed_and_shown (Err failed) old mid new log longer left queue rest before between after same kept passed none h = (h.0 ∙ same, ap (λ (l : List O). l ++ rest) h.1 ∙ passed, h.2 ∙ kept)

    -- a second call of publish shows nothing more
    pub shown_twice : (result : Result (Unit {0}) E) (old mid new queue rest left : List O) (before between after : ℕ) → mid ≡ old ++ queue → rest ≡ [] → between ≡ before + 1
        → MatchResult result (λ _. (new ≡ mid ++ rest) × (left ≡ []) × (after ≡ between + 1)) (λ _. (new ≡ mid) × (left ≡ rest) × (after ≡ between))
        → MatchResult result (λ _. (new ≡ old ++ queue) × (left ≡ []) × (after ≡ before + 2))
        (λ _. ((new ≡ old) × (left ≡ queue) × (after ≡ before)) ⊎ ((new ≡ old ++ queue) × (left ≡ []) × (after ≡ before + 1)))
    shown_twice (Ok done) old mid new queue rest left before between after first none once h =
        (h.0 ∙ (ap (λ (l : List O). mid ++ l) none ∙ (append-nil mid ∙ first)), h.1, omega (arith, h.2, once))
    shown_twice (Err failed) old mid new queue rest left before between after first none once h = inr (h.0 ∙ first, h.1 ∙ none, h.2 ∙ once)
