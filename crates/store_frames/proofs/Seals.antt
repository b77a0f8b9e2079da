-- Texts and their seals.
use Rattle.std.proofs.Common.{◌≡◌, ℕ, ◌+◌, ◌-◌, ◌<◌, ◌≤◌, List, [], ◌∷◌, ◌++◌, length, take, drop, refl, sym, ◌∙◌, ap, arith, length-append, take-append-drop}
use Rattle.std.proofs.lemmas.List.{take_at, drop_at, length-take-le}
use Rattle.std.specs.Int.{w64, to_le_bytes}
use Rattle.sqlite_disk.specs.Digest.{digest}
use Rattle.store_frames.specs.Seal.{sealed, text_of, AreSealed}

pub length-seal : (key : ℕ) (text : List ℕ) → length (to_le_bytes w64 (digest key text)) ≡ 8
length-seal key text = refl

pub length-sealed : (key : ℕ) (text : List ℕ) → length (sealed key text) ≡ length text + 8
length-sealed key text = length-append text (to_le_bytes w64 (digest key text))

pub text_of-sealed : (key : ℕ) (text : List ℕ) → text_of (sealed key text) ≡ text
text_of-sealed key text = take_at text (to_le_bytes w64 (digest key text)) (length (sealed key text) - 8) (omega (arith, length-sealed key text))

-- what is sealed is what its text gives
pub sealed_again : (key : ℕ) (text : List ℕ) → sealed key text ≡ sealed key (text_of (sealed key text))
sealed_again key text = ap (sealed key) (sym (text_of-sealed key text))

pub sealed_itself : (key : ℕ) (batch text : List ℕ) → batch ≡ sealed key text → batch ≡ sealed key (text_of batch)
sealed_itself key batch text is = is ∙ ap (sealed key) (sym (text_of-sealed key text) ∙ ap (λ (l : List ℕ). text_of l) (sym is))

pub too_short : (key : ℕ) (batch : List ℕ) → length batch < 8 → batch ≡ sealed key (text_of batch) → ⊥
too_short key batch few is = omega (arith, few, ap length is, length-sealed key (text_of batch))

module _ (key : ℕ) (batch text seal : List ℕ) (front : text ≡ take (length batch - 8) batch) (back : seal ≡ drop (length batch - 8) batch) (long : 8 ≤ length batch) where
  -- the last bytes of a sealed batch are the seal of the others
  pub seal_of-sealed : batch ≡ sealed key (text_of batch) → seal ≡ to_le_bytes w64 (digest key text)
  seal_of-sealed is =
      let n = length batch - 8 in
      let cut : length (text_of batch) ≡ n = length-take-le n batch (omega arith) in
      back ∙ ap (λ (l : List ℕ). drop n l) is ∙ drop_at (text_of batch) (to_le_bytes w64 (digest key (text_of batch))) n cut
      ∙ ap (λ (t : List ℕ). to_le_bytes w64 (digest key t)) (sym front)

  pub sealed_by : seal ≡ to_le_bytes w64 (digest key text) → batch ≡ sealed key text
  sealed_by is =
      let n = length batch - 8 in
      sym (take-append-drop n batch) ∙ ap (λ (l : List ℕ). l ++ drop n batch) (sym front) ∙ ap (λ (l : List ℕ). text ++ l) (sym back ∙ is)

pub sealed-push : (key : ℕ) (batches : List (List ℕ)) (batch : List ℕ) → AreSealed key batches → batch ≡ sealed key (text_of batch) → AreSealed key (batches ++ batch ∷ [])
sealed-push key [] batch all is = (is, all)
sealed-push key (first ∷ batches) batch all is = (all.0, sealed-push key batches batch all.1 is)

pub sealed_inside : (key : ℕ) (batches : List (List ℕ)) (batch : List ℕ) (more : List (List ℕ)) → AreSealed key (batches ++ batch ∷ more) → batch ≡ sealed key (text_of batch)
sealed_inside key [] batch more all = all.0
sealed_inside key (first ∷ batches) batch more all = sealed_inside key batches batch more all.1
