-- Lines and scripts, one after another.
use Rattle.std.proofs.Common.{◌≡◌, ℕ, List, [], ◌∷◌, ◌++◌, refl, sym, ap, ◌∙◌, subst, append_assoc, append-nil}
use Rattle.tree_model.proofs.Lists.{all-append}
use Rattle.tree_lines.specs.Spelling.{IsLine, with_feed, text_of, HasLines}
use Rattle.tree_lines.specs.Lines.{Script}

pub text_of-append : (a b : List (List ℕ)) → text_of (a ++ b) ≡ text_of a ++ text_of b
text_of-append [] b = refl
text_of-append (line ∷ a) b = ap (λ l. with_feed line ++ l) (text_of-append a b) ∙ sym (append_assoc (with_feed line) (text_of a) (text_of b))

-- the text of one more line
pub text_of-one : (text line : List ℕ) (lines : List (List ℕ)) → text ≡ text_of lines → text ++ with_feed line ≡ text_of (lines ++ line ∷ [])
text_of-one text line lines e = ap (λ t. t ++ with_feed line) e ∙ sym (text_of-append lines (line ∷ []) ∙ ap (λ t. text_of lines ++ t) (append-nil (with_feed line)))

-- the lines of a text, and of more text after its rest
pub HasLines-more : (text more : List ℕ) (ended later : List (List ℕ)) (rest left : List ℕ) → HasLines text ended rest → HasLines (rest ++ more) later left → HasLines (text ++ more) (ended ++ later) left
HasLines-more text more ended later rest left h k = record {
  whole = ap (λ t. t ++ more) h.whole ∙ append_assoc (text_of ended) rest more ∙ ap (λ t. text_of ended ++ t) k.whole ∙ sym (append_assoc (text_of ended) (text_of later) left) ∙ ap (λ t. t ++ left) (sym (text_of-append ended later));
  each = all-append IsLine ended later h.each k.each;
  partial = k.partial;
}

module _ (LEN : ℕ) where
  -- two scripts make one
  pub Script-append : (old mid new : List (ℕ × ℕ)) (lines answers more replies : List (List ℕ)) → Script LEN old lines answers mid → Script LEN mid more replies new → Script LEN old (lines ++ more) (answers ++ replies) new
  Script-append old mid new [] [] more replies h k = subst (λ l. Script LEN l more replies new) h k
  Script-append old mid new [] (a ∷ answers) more replies h k = absurd h
  Script-append old mid new (l ∷ lines) [] more replies h k = absurd h
  Script-append old mid new (l ∷ lines) (a ∷ answers) more replies h k = (h.0, h.1, Script-append h.0 mid new lines answers more replies h.2 k)
