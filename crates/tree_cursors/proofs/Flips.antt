-- What a flip comes to, by which ends are unopened and what they show.
use Rattle.tree_cursors.proofs.RangesCommon.{◌≡◌, ℕ, Bool, true, false, if◌then◌else◌, Option, Bor, sym, ap, ◌∙◌, is_some, not, Ordering, IsTotalOrder, Bound, Cursor, lent, shown, Back}
use Rattle.tree_cursors.proofs.RangesCommon.{Flips, arith, IsOpen, Kept, LeafWalk, On, TreeArenas, can_flip, can_turn, end_inside, flipped, is_new, is_unopened, seen, turned, way_of, Root}
use Rattle.tree_cursors.specs.declared.end.End.{End as TreeEnd}
use Rattle.tree_cursors.proofs.Shown.{new_is, pairs_ascend}

module _ {K V : Type 0} (cmp : K → K → Ordering) (c : Cursor K V) where
  -- where both ends or none were moved
  pub same_flipped : (new : Bool) → is_unopened c.forward ≡ new → is_unopened c.backward ≡ new → (c ≡ flipped cmp c) × (new ≡ can_flip cmp c)
  same_flipped new f b = grind arith

  -- where one was, by whether it shows no pair
  pub one_flipped : (new none : Bool) → is_unopened c.forward ≡ new → is_unopened c.backward ≡ not new → is_some (shown cmp (way_of new) c) ≡ not none
      → ((if none then c else turned cmp (way_of new) c) ≡ flipped cmp c) × (not none ≡ can_flip cmp c)
  one_flipped new none f b is = grind arith

  -- both bounds stay open
  pub flipped_open : IsOpen c → IsOpen (flipped cmp c)
  flipped_open bounds = by_turns (can_turn cmp On c) (can_turn cmp Back c)
    where
      by_turns : (on back : Bool) → IsOpen (if on then turned cmp On c else if back then turned cmp Back c else c)
      by_turns true back = record { low = bounds.low; high = bounds.high }
      by_turns false true = record { low = bounds.low; high = bounds.high }
      by_turns false false = bounds

module _ {K V : Type 0} {LEN : ℕ} {cmp : K → K → Ordering} (o : IsTotalOrder cmp) (a : TreeArenas K V LEN) (root : Option Root) (low high : Bound (Bor K)) (f b : TreeEnd (LeafWalk K V LEN)) (kept : Kept a root cmp f b) where
  abbrev c : Cursor K V
  c = seen a root low high f b

  flips : (d : Cursor K V) (r : Bool) → (d ≡ flipped cmp c) × (r ≡ can_flip cmp c) → Flips cmp c r d
  flips d r is = record { cursor = is.0; answer = is.1; ascending = pairs_ascend a root kept.tree o; inside = end_inside a root kept.tree _ kept.backward_stands }

  forward_new : is_unopened c.forward ≡ is_new f
  forward_new = new_is a root kept.tree f kept.forward_stands

  backward_new : is_unopened c.backward ≡ is_new b
  backward_new = new_is a root kept.tree b kept.backward_stands

  pub flips_same : (new : Bool) → is_new f ≡ new → is_new b ≡ new → Flips cmp c new c
  flips_same new f_is b_is = flips c new (same_flipped cmp c new (forward_new ∙ f_is) (backward_new ∙ b_is))

  pub flips_one : (new none : Bool) → is_new f ≡ new → is_new b ≡ not new → (r : Option (Bor K × Bor V)) → lent r ≡ shown cmp (way_of new) c
      → is_some r ≡ not none
      → Flips cmp c (not none) (if none then c else turned cmp (way_of new) c)
  flips_one new none f_is b_is r shows is = flips _ _
      (one_flipped cmp c new none (forward_new ∙ f_is) (backward_new ∙ b_is) (ap is_some (sym shows) ∙ grind (arith, is)))
