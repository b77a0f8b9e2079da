-- Scripts, one behind another.
use Rattle.std.proofs.Common.{◌≡◌, ℕ, List, [], ◌∷◌, ◌++◌, refl, sym, ap, ◌∙◌, subst, append-nil}
use Rattle.tree_lines.specs.Spelling.{text_of, with_feed}
use Rattle.storetool.specs.Answers.{Says, Script}
use Rattle.storetool.proofs.Sessions.{AreRuns}

-- two scripts make one
Script-append : (old mid new : List (ℕ × ℕ)) (lines answers more replies : List (List ℕ)) → Script old lines answers mid → Script mid more replies new → Script old (lines ++ more) (answers ++ replies) new
Script-append old mid new [] [] more replies h k = subst (λ l. Script l more replies new) h k
Script-append old mid new [] (a ∷ answers) more replies h k = absurd h
Script-append old mid new (l ∷ lines) [] more replies h k = absurd h
Script-append old mid new (l ∷ lines) (a ∷ answers) more replies h k = (h.0, h.1, Script-append h.0 mid new lines answers more replies h.2 k)

pub scripts : AreRuns Script
scripts = record { none = λ old. refl; more = Script-append }

-- the script of one line
pub script_one : (old new : List (ℕ × ℕ)) (line answer : List ℕ) → Says old line answer new → Script old (line ∷ []) (answer ∷ []) new
script_one old new line answer says = (new, says, refl)

-- the text of one answer
pub one_more : (waiting waiting' answer : List ℕ) → waiting' ≡ waiting ++ with_feed answer → waiting' ≡ waiting ++ text_of (answer ∷ [])
one_more waiting waiting' answer e = e ∙ ap (λ t. waiting ++ t) (sym (append-nil (with_feed answer)))
