-- How a handle is opened.
use Rattle.std.specs.Prelude.{◌≡◌, ◌⊎◌, ℤ, Option, None, Some}
use Rattle.tree_index_c.specs.declared.status.TheConstants.{YES, NO_MEMORY}
use Rattle.tree_index_c.specs.declared.store.Store.{Store}

-- The handle leads to this store, or an allocation failed and it is closed.
abbrev pub OpensOn : Store → ℤ → Option Store → Type 0
OpensOn store answer new = ((answer ≡ YES) × (new ≡ Some store)) ⊎ ((answer ≡ NO_MEMORY) × (new ≡ None))
