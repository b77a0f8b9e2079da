-- Pairs whose keys lie one after another in some bytes, and those that are still to come.
use Rattle.std.proofs.Common.{◌≡◌, ℕ, suc, ◌+◌, ◌<◌, List, [], ◌∷◌, ◌++◌, length, take, drop, sym, ap, ◌∙◌, append-nil, add-one, arith, drop-drop}
use Rattle.std.proofs.Math.ListN.{get_or}
use Rattle.std.proofs.Math.Seq.{drop-cons, drop-length}
use Rattle.tree_index_c.specs.declared.entry.Entry.{Entry}
use Rattle.tree_index_c.specs.Sorted.{parted, size_of}

module _ (bytes : List ℕ) (entries : List Entry) (used at : ℕ) where
  -- the next pair, and those behind it
  pub next_parted : (d : Entry) → at < length entries
      → parted (drop used bytes) (drop at entries) ≡ (take (get_or entries at d).length (drop used bytes), (get_or entries at d).value) ∷ parted (drop (used + (get_or entries at d).length) bytes) (drop (at + 1) entries)
  next_parted d lt =
      let entry = get_or entries at d in
      rw add-one (
      ap (λ (es : List Entry). parted (drop used bytes) es) (drop-cons entries at d lt)
      ∙ ap (λ (rest : List ℕ). (take entry.length (drop used bytes), entry.value) ∷ parted rest (drop (suc at) entries)) (drop-drop entry.length used bytes)
      )

  pub next_size : (d : Entry) → at < length entries → size_of (drop at entries) ≡ (get_or entries at d).length + size_of (drop (at + 1) entries)
  next_size d lt = rw add-one (ap (λ (es : List Entry). size_of es) (drop-cons entries at d lt))

  -- behind the last entry all pairs are there, and all bytes are used
  module _ (end : at ≡ length entries) where
    past : drop at entries ≡ []
    past = rw end (drop-length entries)

    pub all_parted : (pairs : List (List ℕ × ℕ)) → pairs ++ parted (drop used bytes) (drop at entries) ≡ parted bytes entries → pairs ≡ parted bytes entries
    all_parted pairs whole = sym (append-nil pairs) ∙ sym (ap (λ (es : List Entry). pairs ++ parted (drop used bytes) es) past) ∙ whole

    pub all_used : used + size_of (drop at entries) ≡ size_of entries → used ≡ size_of entries
    all_used whole = let none : size_of (drop at entries) ≡ 0 = ap (λ (es : List Entry). size_of es) past in omega (arith, none, whole)
