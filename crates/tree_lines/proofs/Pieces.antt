-- Pieces of a text, written one after another, and the pieces of a line of pairs.
use Rattle.std.proofs.Common.{◌≡◌, ℕ, Bool, true, false, List, [], ◌∷◌, ◌++◌, map, Option, Some, None, Bor, reverse, refl, sym, ap, ◌∙◌, subst, append_assoc, append-nil, Result, Ok, Err, nat_cmp}
use Rattle.tree_model.proofs.Common.{Appends, Unbounded, nat_cmp_total, lent_entry, HasBegun, Moves, rest, along, Cursor, fresh}
use Rattle.tree_model.specs.declared.way.Way.{Way}
use Rattle.tree_model.specs.declared.way.Way.TheVariants.{Back}
use Rattle.std.proofs.KnownBytes.{Appends-nil, Appends-trans}
use Rattle.tree_cursors.specs.Ranged.{IsFresh, pairs_within}
use Rattle.tree_cursors.proofs.Yields.{fresh_begun, rest_fresh, takes_first}
use Rattle.tree_lines.specs.Spelling.{behind_spaces, with_feed}
use Rattle.tree_lines.specs.Lines.{inside, pair_text, pairs_text}
use Rattle.tree_lines.specs.Pairs.{left_text, listed, parted_text, told_text}
use Rattle.tree_lines.specs.Writing.{IsFront, Writes}

-- so much of a text was written, and the rest is left
pub record IsBegun (text : List ℕ) (x y : Option (List ℕ)) (left : List ℕ) : Type 0 where
  pub written : List ℕ
  pub out : Appends x y written
  pub whole : text ≡ written ++ left

-- a write that failed left a part of the text
abbrev pub FailsIn : List ℕ → Option (List ℕ) → Option (List ℕ) → Type 0
FailsIn text x y = (part : List ℕ) × Appends x y part × IsFront part text

pub none_begun : (text : List ℕ) (x : Option (List ℕ)) → IsBegun text x x text
none_begun text x = record { written = []; out = Appends-nil x; whole = refl }

module _ (text : List ℕ) (x y z : Option (List ℕ)) where
  -- one more piece was written
  pub more_begun : (left piece more : List ℕ) → IsBegun text x y left → left ≡ piece ++ more → Appends y z piece → IsBegun text x z more
  more_begun left piece more begun parts out = record {
    written = begun.written ++ piece;
    out = Appends-trans x y z begun.written piece begun.out out;
    whole = begun.whole ∙ ap (λ t. begun.written ++ t) parts ∙ sym (append_assoc begun.written piece more);
  }

  -- a piece was written in part
  pub piece_fails : (left piece more : List ℕ) → IsBegun text x y left → left ≡ piece ++ more → FailsIn piece y z → FailsIn text x z
  piece_fails left piece more begun parts failed =
      let front = failed.2 in (
        begun.written ++ failed.0,
        Appends-trans x y z begun.written failed.0 begun.out failed.1,
        record {
          next = front.next;
          others = front.others ++ more;
          text_is = begun.whole ∙ ap (λ t. begun.written ++ t) (parts ∙ ap (λ t. t ++ more) front.text_is ∙ append_assoc failed.0 (front.next ∷ front.others) more) ∙ sym (append_assoc begun.written failed.0 (front.next ∷ front.others ++ more));
        },
      )

  -- the last piece was written, whole or in part
  pub ends_text : {T E : Type 0} (left : List ℕ) → IsBegun text x y left → (result : Result T E) → Writes left y z result → Writes text x z result
  ends_text left begun (Ok u) out = rw begun.whole (Appends-trans x y z begun.written left begun.out out)
  ends_text left begun (Err e) failed = piece_fails left left [] begun (sym (append-nil left)) failed

-- what is left of a line of pairs begins with the next pair
left_parts : (first : Bool) (pair : ℕ × ℕ) (pairs : List (ℕ × ℕ)) → left_text first (pair ∷ pairs) ≡ parted_text first pair ++ left_text false pairs
left_parts true pair pairs = append_assoc (pair_text pair) (behind_spaces (map pair_text pairs)) (10 ∷ [])
left_parts false pair pairs = append_assoc (32 ∷ pair_text pair) (behind_spaces (map pair_text pairs)) (10 ∷ [])

left_none : (first : Bool) → left_text first [] ≡ 10 ∷ []
left_none true = refl
left_none false = refl

-- of a line of pairs so much was written that those are left that are left of a cursor
pub record IsLineBegun (way : Way) (text : List ℕ) (x y : Option (List ℕ)) (first : Bool) (now : Cursor ℕ ℕ) : Type 0 where
  pub begun : IsBegun text x y (left_text first (rest nat_cmp way now))
  pub stands : HasBegun nat_cmp way now

pub line_of_all : (way : Way) (c : Cursor ℕ ℕ) (x : Option (List ℕ)) → IsFresh c → IsLineBegun way (with_feed (pairs_text (along way (pairs_within nat_cmp c)))) x x true c
line_of_all way c x new = record { begun = rw (rest_fresh nat_cmp c new way) (none_begun _ x); stands = fresh_begun nat_cmp c new way }

-- where both bounds are open, all pairs are within them
pub within_open : (pairs : List (ℕ × ℕ)) → inside Unbounded Unbounded pairs ≡ pairs
within_open [] = refl
within_open (pair ∷ pairs) = ap (λ t. pair ∷ t) (within_open pairs)

pub line_back_of_all : (pairs : List (ℕ × ℕ)) (x : Option (List ℕ)) → IsLineBegun Back (with_feed (pairs_text (reverse pairs))) x x true (fresh pairs Unbounded Unbounded)
line_back_of_all pairs x = subst (λ l. IsLineBegun Back (with_feed (pairs_text (reverse l))) x x true (fresh pairs Unbounded Unbounded)) (within_open pairs) (line_of_all Back (fresh pairs Unbounded Unbounded) x (record { forward = refl; backward = refl }))

module _ (way : Way) (text : List ℕ) (x y z : Option (List ℕ)) (first : Bool) (s t : Cursor ℕ ℕ) (line : IsLineBegun way text x y first s) where
  module _ (pair : Bor ℕ × Bor ℕ) (moves : Moves nat_cmp way s (Some pair) t) where
    taken : HasBegun nat_cmp way t × (rest nat_cmp way s ≡ lent_entry pair ∷ rest nat_cmp way t)
    taken = takes_first nat_cmp_total way s t (Some pair) moves line.stands

    next_piece : left_text first (rest nat_cmp way s) ≡ parted_text first (lent_entry pair) ++ left_text false (rest nat_cmp way t)
    next_piece = ap (left_text first) taken.1 ∙ left_parts first (lent_entry pair) (rest nat_cmp way t)

    -- the next pair was written
    pub line_goes_on : Appends y z (parted_text first (lent_entry pair)) → IsLineBegun way text x z false t
    line_goes_on out = record { begun = more_begun text x y z _ _ _ line.begun next_piece out; stands = taken.0 }

    -- or in part
    pub line_fails : FailsIn (parted_text first (lent_entry pair)) y z → FailsIn text x z
    line_fails failed = piece_fails text x y z _ _ _ line.begun next_piece failed

  -- no pair is left, and the line feed was written
  pub line_ends : {T E : Type 0} → Moves nat_cmp way s None t → (result : Result T E) → Writes (10 ∷ []) y z result → Writes text x z result
  line_ends moves result out =
      let none = (takes_first nat_cmp_total way s t None moves line.stands).1.0 in
      ends_text text x y z (10 ∷ []) (rw (none, left_none first) at line.begun) result out

-- a pair behind a space, or nothing
abbrev pub text_of_any : Option (ℕ × ℕ) → List ℕ
text_of_any pair = behind_spaces (map pair_text (listed pair))

-- the pieces of a word that pairs follow
told_listed : (first second : Option (ℕ × ℕ)) → behind_spaces (map pair_text (listed first ++ listed second)) ≡ text_of_any first ++ text_of_any second
told_listed None second = refl
told_listed (Some pair) second = ap (λ t. (32 ∷ pair_text pair) ++ t) refl ∙ ap (λ t. t ++ text_of_any second) (sym (append-nil (32 ∷ pair_text pair)))

module _ (word : List ℕ) (first second : Option (ℕ × ℕ)) where
  told_whole : with_feed (told_text word first second) ≡ word ++ (text_of_any first ++ (text_of_any second ++ 10 ∷ []))
  told_whole = rw told_listed (append_assoc word (text_of_any first ++ text_of_any second) (10 ∷ []) ∙ ap (λ t. word ++ t) (append_assoc (text_of_any first) (text_of_any second) (10 ∷ [])))

  module _ (x y : Option (List ℕ)) where
    pub told_word_fails : FailsIn word x y → FailsIn (with_feed (told_text word first second)) x y
    told_word_fails failed = piece_fails _ x x y _ word _ (none_begun _ x) told_whole failed

    pub told_word : Appends x y word → IsBegun (with_feed (told_text word first second)) x y (text_of_any first ++ (text_of_any second ++ 10 ∷ []))
    told_word out = more_begun _ x x y _ word _ (none_begun _ x) told_whole out
