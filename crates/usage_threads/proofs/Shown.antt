-- What is shown is known by who is told.
use Rattle.std.proofs.Common.{◌≡◌, List, [], ◌∷◌, ◌++◌, sym, ap, ◌∙◌, append_assoc}

module _ {C : Type 0} where
  -- a reader that is made after a command was shown knows of a list that ends with it
  pub shown_last : (published pending later longer all : List C) (command : C) (reader : List (List C)) → later ≡ published → longer ≡ pending ++ command ∷ [] → all ≡ later ++ longer → reader ≡ [] ∷ all ∷ []
      → reader ≡ [] ∷ (published ++ pending ++ command ∷ []) ∷ []
  shown_last published pending later longer all command reader same kept shown made =
      made ∙ ap (λ (l : List C). [] ∷ l ∷ []) (shown ∙ (ap (λ (l : List C). l ++ longer) same ∙ (ap (λ (l : List C). published ++ l) kept ∙ sym (append_assoc published pending (command ∷ [])))))
