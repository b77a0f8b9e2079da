-- The pair that is taken from an end of a list, and those that are left.
use Rattle.std.proofs.Common.{◌≡◌, ◌-◌, List, [], ◌∷◌, ◌++◌, Option, None, Some, length, drop, take, refl, sym, ap, ◌∙◌, arith, length-append}
use Rattle.std.specs.Map.Iter.{TakesFirst, TakesLast}
use Rattle.std.specs.Prelude.{slice_get}
use Rattle.std.proofs.Math.Seq.{take-append_seam}
use Rattle.tree_leaf.specs.Walks.{first_of, last_of}

get_seam : {X : Type 0} (front : List X) (x : X) → slice_get (front ++ x ∷ []) (length front) ≡ Some x
get_seam [] x = refl
get_seam (y ∷ ys) x = get_seam ys x

module _ {X : Type 0} (old new : List X) where
  pub first_popped : (taken : Option X) → TakesFirst (λ x. x) old taken new → (first_of old ≡ taken) × (new ≡ drop 1 old)
  first_popped None takes = (ap first_of takes.0, takes.1 ∙ sym (ap (drop 1) takes.0))
  first_popped (Some x) takes = (ap first_of takes, sym (ap (drop 1) takes))

  pub last_popped : (taken : Option X) → TakesLast (λ x. x) old taken new → (last_of old ≡ taken) × (new ≡ take (length old - 1) old)
  last_popped None takes = (ap last_of takes.0, takes.1 ∙ sym (ap (λ xs. take (length xs - 1) xs) takes.0))
  last_popped (Some x) takes =
      let before : length old - 1 ≡ length new = omega (arith, ap length takes, length-append new (x ∷ [])) in (
        ap (slice_get old) before ∙ ap (λ xs. slice_get xs (length new)) takes ∙ get_seam new x,
        sym (ap (λ n. take n old) before ∙ ap (take (length new)) takes ∙ take-append_seam new (x ∷ [])),
      )
