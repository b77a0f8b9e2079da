use Rattle.std.proofs.Common.{◌≡◌, ℕ, List, [], ◌∷◌, ◌++◌, IfOk, refl, sym, ◌∙◌, ap, subst, arith}
use Rattle.std.specs.Int.{w32, w64, to_le_bytes}
use Rattle.sqlite_disk.specs.Digest.{digest}
use Rattle.store_frames.specs.Frame.{frame}
use Rattle.store_log.specs.Head.{head_text, magic}
use Rattle.store_log.specs.declared.head.Head.{Head}
use Rattle.store_log.proofs.Heads.{head_at-head_text}
use Rattle.store_log.proofs.Returned.{given_ok}
use Rattle.store_log.proofs.head.head_frame.Goals as goal

-- what is pushed, one after another
spelled : (head : Head) (m k v n y o a b c d e : List ℕ) → o ≡ [] → a ≡ o ++ m → b ≡ a ++ k → c ≡ b ++ v → d ≡ c ++ n → e ≡ d ++ y →
    m ≡ magic → k ≡ to_le_bytes w32 head.kind_of_keys → v ≡ to_le_bytes w32 head.kind_of_values → n ≡ to_le_bytes w64 head.generation → y ≡ to_le_bytes w64 head.key → e ≡ head_text head
spelled head m k v n y o a b c d e ho ha hb hc hd he hm hk hv hn hy =
    he ∙ ap (λ (l : List ℕ). l ++ y) (hd ∙ ap (λ (l : List ℕ). l ++ n) (hc ∙ ap (λ (l : List ℕ). l ++ v) (hb ∙ ap (λ (l : List ℕ). l ++ k) (ha ∙ ap (λ (l : List ℕ). l ++ m) ho ∙ hm) ∙ ap (λ (l : List ℕ). magic ++ l) hk) ∙ ap (λ (l : List ℕ). magic ++ to_le_bytes w32 head.kind_of_keys ++ l) hv) ∙ ap (λ (l : List ℕ). magic ++ to_le_bytes w32 head.kind_of_keys ++ to_le_bytes w32 head.kind_of_values ++ l) hn)
    ∙ ap (λ (l : List ℕ). magic ++ to_le_bytes w32 head.kind_of_keys ++ to_le_bytes w32 head.kind_of_values ++ to_le_bytes w64 head.generation ++ l) hy

pub returns-clause-frame : goal.returns-clause-frame
returns-clause-frame c =
    let head = c.args.head.now in
    let text_is : c.deref-2.result.now ≡ head_text head =
    c.deref-2.ensures.value ∙ spelled head _ _ _ _ _ c.in_ok-text.text.items c.extend_from_slice.new.self.items c.extend_from_slice-2.new.self.items c.extend_from_slice-3.new.self.items c.extend_from_slice-4.new.self.items c.extend_from_slice-5.new.self.items
    c.in_ok-text.ensures.items c.in_ok-extend_from_slice.ensures.items c.in_ok-extend_from_slice-2.ensures.items c.in_ok-extend_from_slice-3.ensures.items c.in_ok-extend_from_slice-4.ensures.items c.in_ok-extend_from_slice-5.ensures.items
    refl c.to_le_bytes.ensures c.to_le_bytes-2.ensures c.to_le_bytes-3.ensures c.to_le_bytes-4.ensures in
    let seal_is : c.seal_of-seal.result ≡ to_le_bytes w64 (digest head.key (head_text head)) =
    c.seal_of-seal.ensures ∙ ap (λ (t : List ℕ). to_le_bytes w64 (digest head.key t)) (c.deref.ensures.value ∙ sym c.deref-2.ensures.value ∙ text_is) in
    subst (λ (b : List ℕ). IfOk c.frame_of.result (λ bytes. bytes.items ≡ frame b ++ 0 ∷ [])) (ap (λ (t : List ℕ). t ++ c.seal_of-seal.result) text_is ∙ ap (λ (s : List ℕ). head_text head ++ s) seal_is) c.frame_of.ensures

pub returns-clause-spells : goal.returns-clause-spells
returns-clause-spells c = given_ok c.frame_of.result (head_at-head_text c.args.head.now (omega arith) (omega arith) (omega arith) (omega arith))
