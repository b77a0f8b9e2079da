-- What a store of numbers answers to lines.
use Rattle.std.specs.Prelude.{◌≡◌, ◌≢◌, ◌⊎◌, ⊤, ℕ, List, [], ◌∷◌, Option, Some, None, codes}
use Rattle.tree_lines.specs.declared.requests.Request.{Request}
use Rattle.tree_lines.specs.declared.requests.Request.TheVariants.{Insert, Remove, RemoveIf, RemoveRange, Clear}
use Rattle.tree_lines.specs.Lines.{Answers}
use Rattle.tree_lines.specs.Spelling.{Fits, spelling}

-- The request is a write whose note may need an allocation that an index does not.
abbrev pub IsNoted : Request → Type 0
IsNoted (Insert key value) = ⊤
IsNoted (Remove key) = ⊤
IsNoted (RemoveIf key value) = ⊤
IsNoted (RemoveRange low high) = ⊤
IsNoted Clear = ⊤
IsNoted request = ⊥

-- The request is answered as by an index of fifteen pairs a leaf. Or its note can't be allocated: the answer says so, and the pairs stay.
abbrev pub AnswersOrRefuses : List (ℕ × ℕ) → Request → List ℕ → List (ℕ × ℕ) → Type 0
AnswersOrRefuses old request answer new = Answers 15 old request answer new ⊎ (IsNoted request × (answer ≡ codes "refused") × (new ≡ old))

-- The answer to a request; `None` stands for a line that is not a request.
abbrev pub Responds : List (ℕ × ℕ) → Option Request → List ℕ → List (ℕ × ℕ) → Type 0
Responds old (Some request) answer new = AnswersOrRefuses old request answer new
Responds old None answer new = (answer ≡ codes "?") × (new ≡ old)

-- The answer to a line.
abbrev pub Says : List (ℕ × ℕ) → List ℕ → List ℕ → List (ℕ × ℕ) → Type 0
Says old line answer new =
    ((request : Request) × Fits request × (line ≡ spelling request) × AnswersOrRefuses old request answer new)
    ⊎ (((request : Request) → Fits request → line ≢ spelling request) × (answer ≡ codes "?") × (new ≡ old))

-- The lines are answered one after another.
abbrev pub Script : List (ℕ × ℕ) → List (List ℕ) → List (List ℕ) → List (ℕ × ℕ) → Type 0
Script old [] [] new = new ≡ old
Script old (line ∷ lines) (answer ∷ answers) new = (mid : List (ℕ × ℕ)) × Says old line answer mid × Script mid lines answers new
Script old [] (answer ∷ answers) new = ⊥
Script old (line ∷ lines) [] new = ⊥
