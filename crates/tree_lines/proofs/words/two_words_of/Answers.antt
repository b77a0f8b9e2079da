use Rattle.std.proofs.Common.{◌≡◌, [], ◌∷◌, ◌++◌, refl, sym, ◌∙◌}
use Rattle.tree_lines.proofs.FirstWords.{one_first_word}
use Rattle.tree_lines.proofs.words.two_words_of.Goals as goal

-- there is no second space
pub returns-in_err-behind_space-2 : goal.returns-in_err-behind_space-2
returns-in_err-behind_space-2 c =
    rw c.from_residual-in_err-behind_space-2.ensures
    (λ first second is_word e.
    let words : c.in_ok-behind_space.field-0.now ≡ first ++ (32 ∷ second ++ []) = cc (c.in_ok-behind_space.ensures) in
    let parts = one_first_word _ _ _ (32 ∷ second ++ []) c.first_word.ensures.word is_word c.first_word.ensures.behind refl (sym c.first_word.ensures.whole ∙ words) in
    c.in_err-behind_space-2.ensures (second ++ []) parts.1)
