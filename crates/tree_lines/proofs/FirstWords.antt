-- Words of a line.
use Rattle.std.proofs.Common.{◌≡◌, ◌≢◌, ℕ, List, [], ◌∷◌, ◌++◌, None, refl, sym, ◌∙◌, append-nil}
use Rattle.tree_lines.specs.Spelling.{behind_spaces}
use Rattle.tree_lines.specs.Words.{IsWord, IsBehindWord, ReadsAs}

-- a text has one first word and one rest
pub one_first_word : (a b x y : List ℕ) → IsWord a → IsWord b → IsBehindWord x → IsBehindWord y → a ++ x ≡ b ++ y → (a ≡ b) × (x ≡ y)
one_first_word [] [] x y h k p q e = (refl, e)
one_first_word [] (d ∷ b) [] y h k p q e = cc
one_first_word [] (d ∷ b) (c ∷ x) y h k p q e =
    let same : c ≡ d = cc in
    absurd (k.0 (cc))
one_first_word (c ∷ a) [] x [] h k p q e = cc
one_first_word (c ∷ a) [] x (d ∷ y) h k p q e =
    let same : c ≡ d = cc in
    absurd (h.0 (cc))
one_first_word (c ∷ a) (d ∷ b) x y h k p q e =
    let rest : a ++ x ≡ b ++ y = cc in
    let same : c ≡ d = cc in
    let one = one_first_word a b x y h.1 k.1 p q rest in
    let front : a ≡ b = one.0 in
    (cc, one.1)

-- and so one first word and one second
pub one_two_words : (a b x y : List ℕ) → IsWord a → IsWord b → behind_spaces (a ∷ x ∷ []) ≡ behind_spaces (b ∷ y ∷ []) → (a ≡ b) × (x ≡ y)
one_two_words a b x y h k e =
    let words : a ++ (32 ∷ x ++ []) ≡ b ++ (32 ∷ y ++ []) = cc in
    let parts = one_first_word a b (32 ∷ x ++ []) (32 ∷ y ++ []) h k refl refl words in
    let second : x ++ [] ≡ y ++ [] = cc (parts.1) in
    (parts.0, sym (append-nil x) ∙ second ∙ append-nil y)

-- Two words that are read alike: where one of them is not read, the text spells no two.
module _ {X : Type 0} (Fit : X → Type 0) (spell : X → List ℕ) (is_word : (x : X) → Fit x → IsWord (spell x)) (text : List ℕ) where
  -- the text is not two words
  pub unparted : ((first second : List ℕ) → IsWord first → text ≢ behind_spaces (first ∷ second ∷ [])) → (pair : X × X) → Fit pair.0 × Fit pair.1 → text ≢ behind_spaces (spell pair.0 ∷ spell pair.1 ∷ [])
  unparted none pair fits = none (spell pair.0) (spell pair.1) (is_word pair.0 fits.0)

  module _ (first second : List ℕ) (parts : IsWord first × (text ≡ behind_spaces (first ∷ second ∷ []))) where
    same_words : (pair : X × X) → Fit pair.0 → text ≡ behind_spaces (spell pair.0 ∷ spell pair.1 ∷ []) → (first ≡ spell pair.0) × (second ≡ spell pair.1)
    same_words pair fit e = one_two_words first (spell pair.0) second (spell pair.1) parts.0 (is_word pair.0 fit) (sym parts.1 ∙ e)

    -- the first word is not read
    pub unread_first : ReadsAs Fit spell first None → (pair : X × X) → Fit pair.0 × Fit pair.1 → text ≢ behind_spaces (spell pair.0 ∷ spell pair.1 ∷ [])
    unread_first none pair fits e = none pair.0 fits.0 (same_words pair fits.0 e).0

    -- nor is the second one
    pub unread_second : ReadsAs Fit spell second None → (pair : X × X) → Fit pair.0 × Fit pair.1 → text ≢ behind_spaces (spell pair.0 ∷ spell pair.1 ∷ [])
    unread_second none pair fits e = none pair.1 fits.1 (same_words pair fits.0 e).1
