use Rattle.std.proofs.Common.{◌≡◌, ℕ, ◌+◌, List, [], ◌∷◌, ◌++◌, length, sym, ◌∙◌, ap, append_assoc, length-append}
use Rattle.store_frames.specs.Frame.{zeros, marked, frame}
use Rattle.store_frames.proofs.Frames.{zeros-append}
use Rattle.store_frames.proofs.frame.frame_of.Goals as goal

-- what is pushed, one after another
pushed : (text seal m z o a b c d e f : List ℕ) → o ≡ [] → a ≡ o ++ 215 ∷ [] → b ≡ a ++ m → c ≡ b ++ z → d ≡ c ++ text → e ≡ d ++ seal → f ≡ e ++ 0 ∷ [] → m ≡ marked 5 (length text + length seal) → z ≡ marked 5 (zeros text + zeros seal) → f ≡ frame (text ++ seal) ++ 0 ∷ []
pushed text seal m z o a b c d e f ho ha hb hc hd he hf hm hz =
    let long : m ≡ marked 5 (length (text ++ seal)) = hm ∙ ap (marked 5) (sym (length-append text seal)) in
    let few : z ≡ marked 5 (zeros (text ++ seal)) = hz ∙ ap (marked 5) (sym (zeros-append text seal)) in
    let first : a ≡ 215 ∷ [] = ha ∙ ap (λ (l : List ℕ). l ++ 215 ∷ []) ho in
    let headed : c ≡ (215 ∷ m) ++ z = hc ∙ ap (λ (l : List ℕ). l ++ z) (hb ∙ ap (λ (l : List ℕ). l ++ m) first) in
    let whole : e ≡ ((215 ∷ m) ++ z) ++ (text ++ seal) = he ∙ ap (λ (l : List ℕ). l ++ seal) (hd ∙ ap (λ (l : List ℕ). l ++ text) headed) ∙ append_assoc ((215 ∷ m) ++ z) text seal in
    hf ∙ ap (λ (l : List ℕ). l ++ 0 ∷ []) (whole ∙ ap (λ (l : List ℕ). ((215 ∷ l) ++ z) ++ (text ++ seal)) long ∙ ap (λ (l : List ℕ). ((215 ∷ marked 5 (length (text ++ seal))) ++ l) ++ (text ++ seal)) few)

pub returns : goal.returns
returns c =
    pushed c.args.text.now c.args.seal.now c.marked-length.result c.marked-zeros.result c.in_ok-bytes.bytes.items
    c.push.new.self.items c.extend_from_slice.new.self.items c.extend_from_slice-2.new.self.items c.extend_from_slice-3.new.self.items c.extend_from_slice-4.new.self.items c.push-2.new.self.items
    c.in_ok-bytes.ensures.items c.in_ok-push.ensures.items c.in_ok-extend_from_slice.ensures.items c.in_ok-extend_from_slice-2.ensures.items c.in_ok-extend_from_slice-3.ensures.items c.in_ok-extend_from_slice-4.ensures.items c.in_ok-push-2.ensures.items
    c.marked-length.ensures (c.marked-zeros.ensures ∙ ap (λ (n : ℕ). marked 5 (n + c.zeros_of-2.result)) c.zeros_of.ensures.count ∙ ap (λ (n : ℕ). marked 5 (zeros c.args.text.now + n)) c.zeros_of-2.ensures.count)
