-- What a thread knows of the published commands.
use Rattle.std.specs.Prelude.{◌≡◌, List, ◌++◌}
use Rattle.std.specs.List.{AllByRecursion}

-- the list begins with this one
abbrev pub BeginsWith : {X : Type 0} → List X → List X → Type 0
BeginsWith {X} xs front = (rest : List X) × (xs ≡ front ++ rest)

-- the list begins with each of these
abbrev pub BeginsWithAll : {X : Type 0} → List X → List (List X) → Type 0
BeginsWithAll xs fronts = AllByRecursion (λ front. BeginsWith xs front) fronts
