-- What is retired has no pair, and nor has a leaf node over one retired leaf.
use Rattle.tree_clean_up.proofs.Common.{HasOnlyRetired, IsRetired, TreeArenas, [], arith, refl, walk, walk-children, ℕ, ◌≡◌}

pub walk-retired : {K V : Type 0} {LEN : ℕ} (level : ℕ) (a : TreeArenas K V LEN) (id : ℕ) → IsRetired level a id → walk level a id ≡ []
walk-retired level a id retired = grind arith

pub walk-only_retired : {K V : Type 0} {LEN : ℕ} (a : TreeArenas K V LEN) (id : ℕ) → HasOnlyRetired a id → walk 1 a id ≡ []
walk-only_retired a id only = rw (walk-children 0 a id, only.1.0, walk-retired 0 a only.0 only.1.1) refl
