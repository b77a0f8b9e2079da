-- What a `map` of a bound gives, if the function that it calls answers by f.
use Rattle.std.proofs.Common.{◌≡◌, ◌∙◌, ap}
use Rattle.std.specs.Range.Bound.{IsExcludedAnd, IsIncludedAnd, MatchBound, bound_map}
use Rattle.tree_model.proofs.Common.{Bound, Included, Excluded, Unbounded}

pub mapped : {X Y : Type 0} (f : X → Y) (post : X → Y → Type 0) → ((x : X) (y : Y) → post x y → y ≡ f x) → (bound : Bound X) (result : Bound Y)
    → MatchBound bound (λ x. IsIncludedAnd result (post x)) (λ x. IsExcludedAnd result (post x)) (result ≡ Unbounded) → result ≡ bound_map f bound
mapped f post answers (Included x) result given = given.2 ∙ ap Included (answers x given.0 given.1)
mapped f post answers (Excluded x) result given = given.2 ∙ ap Excluded (answers x given.0 given.1)
mapped f post answers Unbounded result given = given
