-- Texts that are printed piece by piece.
use Rattle.std.proofs.Common.{◌≡◌, ℕ, List, [], ◌++◌, Option, Result, Ok, Err, refl, sym, ap, ◌∙◌, append_assoc, nat_cmp}
use Rattle.tree_model.proofs.Common.{Appends, Unbounded, HasBegun, rest, fresh}
use Rattle.tree_model.specs.declared.way.Way.TheVariants.{On}
use Rattle.std.proofs.KnownBytes.{Appends-nil, Appends-trans}
use Rattle.tree_cursors.proofs.Yields.{fresh_begun, rest_fresh}
use Rattle.tree_lines.proofs.Pieces.{within_open}
use Rattle.storetool.specs.Printing.{PassesOn, Prints}

-- of a text some was written, some waits, and the rest is left
pub record IsListed (whole : List ℕ) (x y : Option (List ℕ)) (text left : List ℕ) : Type 0 where
  pub written : List ℕ
  pub out : Appends x y written
  pub is : whole ≡ written ++ (text ++ left)

pub listed_none : (text left : List ℕ) (x : Option (List ℕ)) → IsListed (text ++ left) x x text left
listed_none text left x = record { written = []; out = Appends-nil x; is = refl }

module _ (whole : List ℕ) (x y : Option (List ℕ)) (text left : List ℕ) (h : IsListed whole x y text left) where
  -- a call failed that wrote nothing
  pub listed_stops : Prints {T = Unit {0}} {E = Unit {0}} whole x y (Err tt)
  listed_stops = (h.written, text ++ left, h.out, h.is)

  module _ (piece more : List ℕ) (parts : left ≡ piece ++ more) where
    whole_is : whole ≡ h.written ++ ((text ++ piece) ++ more)
    whole_is = h.is ∙ ap (λ t. h.written ++ t) (ap (λ t. text ++ t) parts ∙ sym (append_assoc text piece more))

    -- a piece was put behind the text that waits, and some of it was written
    pub listed_more : (text' : List ℕ) (z : Option (List ℕ)) → PassesOn {T = Unit {0}} {E = Unit {0}} (text ++ piece) text' y z (Ok tt) → IsListed whole x z text' more
    listed_more text' z passes = record {
      written = h.written ++ passes.0;
      out = Appends-trans x y z h.written passes.0 h.out passes.1;
      is = whole_is ∙ ap (λ t. h.written ++ t) (ap (λ t. t ++ more) passes.2 ∙ append_assoc passes.0 text' more) ∙ sym (append_assoc h.written passes.0 (text' ++ more));
    }

    pub listed_fails : (text' : List ℕ) (z : Option (List ℕ)) → PassesOn {T = Unit {0}} {E = Unit {0}} (text ++ piece) text' y z (Err tt) → Prints {T = Unit {0}} {E = Unit {0}} whole x z (Err tt)
    listed_fails text' z passes = (h.written ++ passes.0, passes.1 ++ more, Appends-trans x y z h.written passes.0 h.out passes.2, whole_is ∙ ap (λ t. h.written ++ t) (ap (λ t. t ++ more) passes.3 ∙ append_assoc passes.0 passes.1 more) ∙ sym (append_assoc h.written passes.0 (passes.1 ++ more)))

  -- the text that waits is the last, and it is written
  pub listed_ends : {T E : Type 0} (last : List ℕ) (z : Option (List ℕ)) (result : Result T E) → text ++ left ≡ last → Prints last y z result → Prints whole x z result
  listed_ends last z (Ok t) same printed = rw (h.is, same) (Appends-trans x y z h.written last h.out printed)
  listed_ends last z (Err e) same printed = (h.written ++ printed.0, printed.1, Appends-trans x y z h.written printed.0 h.out printed.2, h.is ∙ ap (λ t. h.written ++ t) (same ∙ printed.3) ∙ sym (append_assoc h.written printed.0 printed.1))

-- a cursor over all pairs has them all to give
pub all_left : (pairs : List (ℕ × ℕ)) → rest nat_cmp On (fresh pairs Unbounded Unbounded) ≡ pairs
all_left pairs = rest_fresh nat_cmp (fresh pairs Unbounded Unbounded) (record { forward = refl; backward = refl }) On ∙ within_open pairs

pub all_begun : (pairs : List (ℕ × ℕ)) → HasBegun nat_cmp On (fresh pairs Unbounded Unbounded)
all_begun pairs = fresh_begun nat_cmp (fresh pairs Unbounded Unbounded) (record { forward = refl; backward = refl }) On
