-- The least number over leaves, found as the children above them are gone through in turn.
use Rattle.tree_parts.proofs.Common.{◌≡◌, ℕ, List, ◌∷◌, sym, ap, ◌∙◌, flat_map, AllByRecursion, least, least-then}

module _ (f : ℕ → ℕ) (g : ℕ → List ℕ) (Holds : ℕ → Type 0) (total : ℕ) where
  -- with the leaves, which `g` says, of the children that are left the least is the total, and this holds of each of them
  pub record IsLeft (so_far : ℕ) (left : List ℕ) : Type 0 where
    pub each : AllByRecursion Holds left
    pub total_is : least so_far f (flat_map g left) ≡ total

  pub counted : (so_far : ℕ) (left : List ℕ) → IsLeft so_far left → (child : ℕ) (rest : List ℕ) → left ≡ child ∷ rest → (next : ℕ) → next ≡ least so_far f (g child) → IsLeft next rest
  counted so_far left soon child rest is next next_is = record {
    each = (rw is at soon.each).1;
    total_is = ap (λ (n : ℕ). least n f (flat_map g rest)) next_is ∙ sym (least-then so_far f (g child) (flat_map g rest)) ∙ rw is at soon.total_is;
  }
