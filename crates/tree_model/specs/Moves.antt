-- Moves of a cursor, one after another.
use Rattle.std.specs.Prelude.{◌≡◌, Bool, List, [], ◌∷◌, Option, None}
use Rattle.std.specs.declared.cmp.Ordering.{Ordering}
use Rattle.tree_model.specs.declared.way.Way.{Way}
use Rattle.tree_model.specs.declared.way.Way.TheVariants.{On, Back}
use Rattle.tree_model.specs.declared.moves.Move.{Move}
use Rattle.tree_model.specs.declared.moves.Move.TheVariants.{Next, NextBack, Get, GetBack, Flip}
use Rattle.tree_model.specs.declared.moves.Answer.{Answer}
use Rattle.tree_model.specs.declared.moves.Answer.TheVariants.{Pair, Flag}
use Rattle.tree_model.specs.Cursor.{Cursor, can_flip, flipped, moved, shown, shown_apart}
use Rattle.tree_model.specs.Rest.{lent}

-- what a move answers
pub data Told (K V : Type 0) : Type 0 where
  pair : Option (K × V) → Told K V
  flag : Bool → Told K V

-- what an answer of the program tells
abbrev pub told : {K V : Type 0} → Answer K V → Told K V
told (Pair item) = pair (lent item)
told (Flag b) = flag b

module _ {K V : Type 0} (cmp : K → K → Ordering) where
  -- the cursor after a move
  abbrev pub after : Move → Cursor K V → Cursor K V
  after Next c = moved cmp On c
  after NextBack c = moved cmp Back c
  after Get c = c
  after GetBack c = c
  after Flip c = flipped cmp c

  -- what is answered to it
  abbrev pub answer : Move → Cursor K V → Told K V
  answer Next c = pair (shown_apart cmp On (moved cmp On c))
  answer NextBack c = pair (shown_apart cmp Back (moved cmp Back c))
  answer Get c = pair (shown cmp On c)
  answer GetBack c = pair (shown cmp Back c)
  answer Flip c = flag (can_flip cmp c)

  -- the cursor after all moves, and the answers
  abbrev pub after_all : List Move → Cursor K V → Cursor K V
  after_all [] c = c
  after_all (m ∷ moves) c = after_all moves (after m c)

  abbrev pub answers : List Move → Cursor K V → List (Told K V)
  answers [] c = []
  answers (m ∷ moves) c = answer m c ∷ answers moves (after m c)

-- the move of the end that goes this way
abbrev pub move_on : Way → Move
move_on On = Next
move_on Back = NextBack

module _ {K V : Type 0} where
  -- each answer to this move is None
  abbrev pub AllNone : Move → List Move → List (Told K V) → Type 0
  AllNone m (x ∷ moves) (t ∷ given) = (x ≡ m → t ≡ pair None) × AllNone m moves given
  AllNone m _ _ = Unit {0}

  -- once this move was answered None, it always is
  abbrev pub Ended : Move → List Move → List (Told K V) → Type 0
  Ended m (x ∷ moves) (t ∷ given) = (x ≡ m → t ≡ pair None → AllNone m moves given) × Ended m moves given
  Ended m _ _ = Unit {0}
