-- The text of a head spells that head.
use Rattle.std.proofs.Common.{◌≡◌, ℕ, ◌^◌, ◌<◌, ◌++◌, [], ◌∷◌, length, Some, refl, ◌∙◌, ap, arith}
use Rattle.std.proofs.lemmas.Nat.{from_le_bytes-to_le_bytes_4, from_le_bytes-to_le_bytes_8}
use Rattle.std.specs.Int.{w32, w64, from_le_bytes}
use Rattle.store_frames.specs.Frame.{frame}
use Rattle.store_frames.specs.Seal.{sealed}
use Rattle.store_frames.proofs.Frames.{first_frame-frame}
use Rattle.store_log.specs.Head.{eight_at, four_at, head_at, head_text}
use Rattle.store_log.specs.Log.{HasHead}
use Rattle.store_log.specs.declared.head.Head.{Head}

-- a head of these numbers
abbrev pub head_of : ℕ → ℕ → ℕ → ℕ → Head
head_of keys values generation key = record { kind_of_keys = keys; kind_of_values = values; generation = generation; key = key }

module _ (head : Head) (keys : head.kind_of_keys < 2 ^ 32) (values : head.kind_of_values < 2 ^ 32) (generation : head.generation < 2 ^ 64) (key : head.key < 2 ^ 64) where
  pub head_at-head_text : head_at (head_text head) ≡ Some head
  head_at-head_text =
      let text = head_text head in
      let keys_at = from_le_bytes w32 (four_at text 12) in
      let values_at = from_le_bytes w32 (four_at text 16) in
      let generation_at = from_le_bytes w64 (eight_at text 20) in
      let key_at = from_le_bytes w64 (eight_at text 28) in
      let keys_are : keys_at ≡ head.kind_of_keys = from_le_bytes-to_le_bytes_4 head.kind_of_keys keys in
      let values_are : values_at ≡ head.kind_of_values = from_le_bytes-to_le_bytes_4 head.kind_of_values values in
      let generation_is : generation_at ≡ head.generation = from_le_bytes-to_le_bytes_8 head.generation generation in
      let key_is : key_at ≡ head.key = from_le_bytes-to_le_bytes_8 head.key key in
      ap (λ (n : ℕ). Some (head_of n values_at generation_at key_at)) keys_are
      ∙ ap (λ (n : ℕ). Some (head_of head.kind_of_keys n generation_at key_at)) values_are
      ∙ ap (λ (n : ℕ). Some (head_of head.kind_of_keys head.kind_of_values n key_at)) generation_is
      ∙ ap (λ (n : ℕ). Some (head_of head.kind_of_keys head.kind_of_values head.generation n)) key_is

pub head_frame_has : (head : Head) → head_at (head_text head) ≡ Some head → HasHead (frame (sealed head.key (head_text head)) ++ 0 ∷ [])
head_frame_has head spells = record {
  head = head;
  batch = sealed head.key (head_text head);
  rest = 0 ∷ [];
  found = first_frame-frame (sealed head.key (head_text head)) (0 ∷ []) (omega arith);
  is = record { first = head_text head; is = spells; sealed_first = refl };
}

pub length-head_frame : (head : Head) → length (frame (sealed head.key (head_text head)) ++ 0 ∷ []) ≡ 56
length-head_frame head = refl
