-- The moves of a cursor over a tree, and that each answer brings it nearer to its end.
use Rattle.tree_cursors.proofs.RangesCommon.{◌≡◌, ℕ, ◌<◌, Bool, true, false, if◌then◌else◌, List, length, Option, Some, None, is_some, Bor, sym, ap, ◌∙◌, arith, Ordering, ⊤, IsTotalOrder, MakesProgress}
use Rattle.tree_cursors.proofs.RangesCommon.{Bound, lent_entry, Moves, lent, Cursor, End, unopened, at_place, element_at, meets, next_end, Back, EndStands, Kept, LeafWalk, On, TreeArenas, Way}
use Rattle.tree_cursors.proofs.RangesCommon.{are_apart, bound_on, end_inside, end_left, end_of, end_on, exhausted, moves_left, option_where, pair_of, seen, shown_apart, walk_under, with_end, at_most, Root}
use Rattle.tree_cursors.specs.declared.end.End.{End as TreeEnd}
use Rattle.tree_cursors.proofs.Ahead.{ComesTo, Holds, comes, fewer}
use Rattle.tree_cursors.proofs.Shown.{element_is, pairs_ascend}
use Rattle.tree_cursors.proofs.Yields.{if_none}

module _ {K V : Type 0} {LEN : ℕ} {cmp : K → K → Ordering} (o : IsTotalOrder cmp) (a : TreeArenas K V LEN) (root : Option Root) (low high : Bound (Bor K)) (r : Option (Bor K × Bor V)) where
  module _ (f b : TreeEnd (LeafWalk K V LEN)) (kept : Kept a root cmp f b) where
    abbrev c : Cursor K V
    c = seen a root low high f b

    moves : (way : Way) (new : End) → new ≡ next_end cmp way (bound_on way c) c.pairs (end_on way c) → lent r ≡ shown_apart cmp way (with_end way c new)
        → Moves cmp way c r (with_end way c new)
    moves way new place answers = record {
      moves = ap (with_end way c) place;
      answers = answers;
      ascending = pairs_ascend a root kept.tree o;
      inside =
          end_inside a root kept.tree b kept.backward_stands;
    }

    -- an end has moved and stands on a pair or on none, which is answered if the ends are apart and it is within the bound where the end stops
    module _ (pair : Option (Bor K × Bor V)) (new : TreeEnd (LeafWalk K V LEN)) (stands : EndStands a root new) (is : lent pair ≡ pair_of new) where
      there : element_at (walk_under a root) (end_of a root new) ≡ lent pair
      there = element_is a root kept.tree new stands ∙ sym is

      pub moves_on : end_of a root new ≡ next_end cmp On c.low c.pairs c.forward
          → (Kept a root cmp new b → lent r ≡ (if are_apart (end_of a root new) c.backward then option_where (λ p. meets cmp Back c.high p.0)
          (lent pair) else None)) → Moves cmp On c r (seen a root low high new b)
      moves_on place told = moves On _ place (rw there (told (record { tree = kept.tree; forward_stands = stands; backward_stands = kept.backward_stands })))

      pub moves_back : end_of a root new ≡ next_end cmp Back c.high c.pairs c.backward
          → (Kept a root cmp f new → lent r ≡ (if are_apart c.forward (end_of a root new) then option_where (λ p. meets cmp On c.low p.0)
          (lent pair) else None)) → Moves cmp Back c r (seen a root low high f new)
      moves_back place told = moves Back _ place (rw there (told (record { tree = kept.tree; forward_stands = kept.forward_stands; backward_stands = stands })))

module _ {K V : Type 0} (cmp : K → K → Ordering) where
  -- an end that comes to a pair has fewer left
  nearer : (way : Way) (bound : Bound K) (l : List (K × V)) (old : End) (apart : Bool) (test : K × V → Bool) (x : K × V) → Holds way l old
      → (if apart then option_where test (element_at l (next_end cmp way bound l old)) else None) ≡ Some x
      → end_left way (length l) (next_end cmp way bound l old) < end_left way (length l) old
  nearer way bound l old apart test x held shows = by_new (next_end cmp way bound l old) (comes cmp way bound l old held) shows
    where
      by_new : (new : End) → ComesTo way (λ pair. meets cmp way bound pair.0) l old new
          → (if apart then option_where test (element_at l new) else None) ≡ Some x → end_left way (length l) new < end_left way (length l) old
      by_new unopened to shows = absurd to
      by_new (at_place j) to shows = omega (arith, fewer way (λ pair. meets cmp way bound pair.0) l old j to held)
      by_new exhausted to shows = absurd (let none = if_none {X = K × V} apart in cc)

  -- a move that gives a pair gives the one at its end
  pub gives_element : (way : Way) (s t : Cursor K V) (given r : Option (Bor K × Bor V)) → Moves cmp way s given t → is_some given ≡ true
      → lent r ≡ element_at t.pairs (end_on way t) → Moves cmp way s r t
  gives_element way s t None r moves some here = absurd (cc)
  gives_element way s t (Some x) r moves some here =
      let shows : element_at t.pairs (end_on way t) ≡ Some (lent_entry x) = grind (arith, moves.answers) in
      record { moves = moves.moves; answers = here ∙ shows ∙ moves.answers; ascending = moves.ascending; inside = moves.inside }

  pub gives_none : (way : Way) (s t : Cursor K V) (given : Option (Bor K × Bor V)) → Moves cmp way s given t → is_some given ≡ false → Moves cmp way s None t
  gives_none way s t None moves none = moves
  gives_none way s t (Some x) moves none = absurd (cc)

  pub comes_nearer : (way : Way) (s t : Cursor K V) (x : Bor K × Bor V) → Moves cmp way s (Some x) t → moves_left t < moves_left s
  comes_nearer On s t x moves =
      rw moves.moves (omega (arith, nearer On s.low s.pairs s.forward _ _ (lent_entry x) tt (sym (rw moves.moves at moves.answers))))
  comes_nearer Back s t x moves =
      rw moves.moves (omega (arith, nearer Back s.high s.pairs s.backward _ _ (lent_entry x) moves.inside (sym (rw moves.moves at moves.answers))))

  -- a move, with the progress that it makes
  pub with_progress : (way : Way) (s t : Cursor K V) (r : Option (Bor K × Bor V)) → Moves cmp way s r t
      → record { steps : Moves cmp way s r t; goes : MakesProgress (λ _. ⊤) (λ c. at_most (moves_left c)) s r t }
  with_progress way s t None moves = record { steps = moves; goes = record { on = λ _. tt; keeps = tt; rests = λ _. tt } }
  with_progress way s t (Some x) moves = record { steps = moves; goes = record { on = λ _. (tt, tt, comes_nearer way s t x moves); keeps = tt; rests = λ _. tt } }
