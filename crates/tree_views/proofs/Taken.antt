-- Walks over the keys of an index, or over its values.
use Rattle.tree_views.proofs.Common.{◌≡◌, true, List, [], ◌∷◌, ◌++◌, map, reverse, Option, Some, None, Bor, length, refl, sym, ap, ◌∙◌, arith, Ordering, length-append, ⊤, IsTotalOrder, MakesProgress, option_map}
use Rattle.tree_views.proofs.Common.{reverse_onto, reverse-reverse, lent_entry, Moves, rest, Cursor, On, Back, filter_all, at_most, TakesFirst, TakesLast, map_push, between, IsOpen, takes_first}
use Rattle.tree_views.proofs.Common.{GoesThroughAll}
use Rattle.tree_views.proofs.Walked.{all_pass}

-- what is taken from either end leaves less
module _ {A X : Type 0} (shows : A → X) (s t : List X) where
  pub first_progress : (r : Option A) → TakesFirst shows s r t → MakesProgress (λ _. ⊤) (λ xs. at_most (length xs)) s r t
  first_progress None takes = record { on = λ _. tt; keeps = tt; rests = λ _. tt }
  first_progress (Some x) takes = record { on = λ _. (tt, tt, omega (arith, ap length takes)); keeps = tt; rests = λ _. tt }

  pub last_progress : (r : Option A) → TakesLast shows s r t → MakesProgress (λ _. ⊤) (λ xs. at_most (length xs)) s r t
  last_progress None takes = record { on = λ _. tt; keeps = tt; rests = λ _. tt }
  last_progress (Some x) takes = record { on = λ _. (tt, tt, omega (arith, ap length takes ∙ length-append t (shows x ∷ []))); keeps = tt; rests = λ _. tt }

-- the same of a part of what is taken
module _ {A B X : Type 0} (part : A → B) (shows : B → X) (s t : List X) where
  first_part : (r : Option A) → TakesFirst (λ a. shows (part a)) s r t → TakesFirst shows s (option_map part r) t
  first_part None takes = takes
  first_part (Some x) takes = takes

  last_part : (r : Option A) → TakesLast (λ a. shows (part a)) s r t → TakesLast shows s (option_map part r) t
  last_part None takes = takes
  last_part (Some x) takes = takes

  pub with_first : (r : Option A) → TakesFirst (λ a. shows (part a)) s r t → record { steps : TakesFirst shows s (option_map part r) t; goes : MakesProgress (λ _. ⊤) (λ xs. at_most (length xs)) s (option_map part r) t }
  with_first r takes = record { steps = first_part r takes; goes = first_progress shows s t (option_map part r) (first_part r takes) }

  pub with_last : (r : Option A) → TakesLast (λ a. shows (part a)) s r t → record { steps : TakesLast shows s (option_map part r) t; goes : MakesProgress (λ _. ⊤) (λ xs. at_most (length xs)) s (option_map part r) t }
  with_last r takes = record { steps = last_part r takes; goes = last_progress shows s t (option_map part r) (last_part r takes) }

module _ {K V : Type 0} (cmp : K → K → Ordering) where
  -- the way back gives what the way on does, in reverse
  rest_back : (c : Cursor K V) → IsOpen c → rest cmp Back c ≡ reverse (rest cmp On c)
  rest_back c bounds =
      rw (bounds.low, bounds.high) (
      filter_all (λ pair. true) (reverse (between c)) (all_pass (reverse (between c)))
      ∙ ap reverse (sym (filter_all (λ pair. true) (between c) (all_pass (between c))))
      )

module _ {K V X : Type 0} {cmp : K → K → Ordering} (o : IsTotalOrder cmp) (f : K × V → X) (s t : Cursor K V) (goes : GoesThroughAll cmp s) where
  mapped_first : (left after : List (K × V)) (r : Option (Bor K × Bor V)) → TakesFirst lent_entry left r after → TakesFirst (λ pair. f (lent_entry pair)) (map f left) r (map f after)
  mapped_first left after None takes = rw takes.0 (refl, rw takes.1 refl)
  mapped_first left after (Some pair) takes = rw takes refl

  mapped_last : (left after : List (K × V)) (r : Option (Bor K × Bor V)) → TakesFirst lent_entry (reverse left) r (reverse after) → TakesLast (λ pair. f (lent_entry pair)) (map f left) r (map f after)
  mapped_last left after None takes =
      let none = sym (reverse-reverse left) ∙ ap reverse takes.0 in
      let none_after = sym (reverse-reverse after) ∙ ap reverse takes.1 in
      rw none (refl, rw none_after refl)
  mapped_last left after (Some pair) takes =
      let pushed : left ≡ after ++ lent_entry pair ∷ [] =
      sym (reverse-reverse left) ∙ ap reverse takes ∙ reverse_onto (reverse after) (lent_entry pair) [] ∙ ap (λ xs. xs ++ lent_entry pair ∷ []) (reverse-reverse after) in
      rw pushed (map_push f after (lent_entry pair))

  -- a move on takes the first that is left
  pub goes_on : (r : Option (Bor K × Bor V)) → Moves cmp On s r t → GoesThroughAll cmp t × TakesFirst (λ pair. f (lent_entry pair)) (map f (rest cmp On s)) r (map f (rest cmp On t))
  goes_on r moves =
      let step = takes_first o On s t r moves goes.forward in
      let bounds : IsOpen t = rw moves.moves (record { low = goes.bounds.low; high = goes.bounds.high }) in (
        record { bounds = bounds; forward = step.0; backward = rw moves.moves goes.backward },
        mapped_first (rest cmp On s) (rest cmp On t) r step.1,
      )

  -- and a move back the last
  pub goes_back : (r : Option (Bor K × Bor V)) → Moves cmp Back s r t → GoesThroughAll cmp t × TakesLast (λ pair. f (lent_entry pair)) (map f (rest cmp On s)) r (map f (rest cmp On t))
  goes_back r moves =
      let step = takes_first o Back s t r moves goes.backward in
      let bounds : IsOpen t = rw moves.moves (record { low = goes.bounds.low; high = goes.bounds.high }) in (
        record { bounds = bounds; forward = rw moves.moves goes.forward; backward = step.0 },
        mapped_last (rest cmp On s) (rest cmp On t) r (rw (rest_back cmp s goes.bounds, rest_back cmp t bounds) at step.1),
      )
