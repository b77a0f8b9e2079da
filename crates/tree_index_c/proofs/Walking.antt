-- A cursor that fills places.
use Rattle.std.proofs.Common.{◌≡◌, ℕ, ◌+◌, ◌<◌, ◌≤◌, List, ◌∷◌, length, Some, None, Bor, refl, sym, ap, ◌∙◌, subst, Ordering}
use Rattle.tree_model.proofs.Common.{IsTotalOrder, Bound, lent_entry, HasBegun, Moves, rest, along, Cursor, fresh}
use Rattle.tree_model.specs.declared.way.Way.{Way}
use Rattle.std.proofs.Math.ListN.{set}
use Rattle.tree_cursors.specs.Ranged.{IsFresh, pairs_within}
use Rattle.tree_cursors.proofs.Yields.{fresh_begun, rest_fresh, takes_first}
use Rattle.tree_index_c.specs.Pairs.{Fills}
use Rattle.tree_index_c.proofs.Filled.{Filling, filling_none, filling_more, fills_places, fills_all}

module _ {K V X : Type 0} {cmp : K → K → Ordering} (o : IsTotalOrder cmp) (way : Way) (show : K × V → X) (all : List (K × V)) (before : List X) where
  -- The first `at` places are filled, and the cursor has the others of all to give.
  pub record Walking (at : ℕ) (now : List X) (cursor : Cursor K V) : Type 0 where
    pub begun : HasBegun cmp way cursor
    pub filling : Filling show all before at now (rest cmp way cursor)

  module _ (at : ℕ) (now : List X) (s t : Cursor K V) (was : Walking at now s) where
    module _ (pair : Bor K × Bor V) (moves : Moves cmp way s (Some pair) t) where
      -- what the cursor gives comes next
      pub walks_to : Filling show all before at now (lent_entry pair ∷ rest cmp way t)
      walks_to = subst (λ (left : List (K × V)). Filling show all before at now left) (takes_first o way s t (Some pair) moves was.begun).1 was.filling

      pub walks_on : at < length now → (x : X) → x ≡ show (lent_entry pair) → Walking (at + 1) (set now at x) t
      walks_on lt x is = record {
        begun = (takes_first o way s t (Some pair) moves was.begun).0;
        filling = subst (λ (y : X). Filling show all before (at + 1) (set now at y) (rest cmp way t)) (sym is) (filling_more show all before at now (lent_entry pair) (rest cmp way t) walks_to lt);
      }

    pub walks_out : Moves cmp way s None t → Fills show all before at now
    walks_out moves = fills_all show all before at now (rest cmp way s) was.filling (takes_first o way s t None moves was.begun).1.0

  pub walks_full : (at : ℕ) (now : List X) (s : Cursor K V) → Walking at now s → length now ≤ at → Fills show all before (length now) now
  walks_full at now s was full = fills_places show all before at now (rest cmp way s) was.filling full

module _ {K V X : Type 0} {cmp : K → K → Ordering} (o : IsTotalOrder cmp) (way : Way) (show : K × V → X) (pairs : List (K × V)) (low high : Bound K) (before : List X) where
  is_new : IsFresh (fresh pairs low high)
  is_new = record { forward = refl; backward = refl }

  -- a new cursor, which borrows the keys of its bounds, has the pairs within them to give
  pub walks_first : (lent_low lent_high : Bound K) (cursor : Cursor K V) → cursor ≡ fresh pairs lent_low lent_high → lent_low ≡ low → lent_high ≡ high
      → Walking o way show (along way (pairs_within cmp (fresh pairs low high))) before 0 before cursor
  walks_first lent_low lent_high cursor made low_is high_is =
      let is : cursor ≡ fresh pairs low high = made ∙ ap (λ (b : Bound K). fresh pairs b lent_high) low_is ∙ ap (λ (b : Bound K). fresh pairs low b) high_is in
      subst (λ (c : Cursor K V). Walking o way show (along way (pairs_within cmp (fresh pairs low high))) before 0 before c) (sym is) (record {
        begun = fresh_begun cmp (fresh pairs low high) is_new way;
        filling = subst (λ (left : List (K × V)). Filling show (along way (pairs_within cmp (fresh pairs low high))) before 0 before left) (sym (rest_fresh cmp (fresh pairs low high) is_new way)) (filling_none show (along way (pairs_within cmp (fresh pairs low high))) before);
      })
