-- What a store leaves of a packed tree.
use Rattle.std.proofs.Common.{◌≡◌, ℕ, suc, Bool, true, Some, None, Result, arith, Ordering, Less}
use Rattle.tree_model.proofs.Common.{AllByRecursion, IsTotalOrder}
use Rattle.tree_array.specs.declared.answers.StoreResult.{StoreResult}
use Rattle.tree_node.proofs.Common.{TreeArenas, room, Stands, walk, root_at}
use Rattle.tree_insert.specs.Inserts.{InsertsUnder, stores}
use Rattle.tree_insert.specs.Roots.{RaisesRoot}
use Rattle.tree_split.specs.Packed.{IsPacked, packed_under}
use Rattle.tree_split.proofs.Edges.{packed_beyond}
use Rattle.tree_split.proofs.Tests.{root_from, root_to}

-- a tree over a new leaf
pub packed_anew : {K V : Type 0} {LEN : ℕ} (cmp : K → K → Ordering) (a : TreeArenas K V LEN) (id : ℕ) → IsPacked cmp None 1 a id → packed_under cmp a (Some (root_at id 1)) ≡ true
packed_anew cmp a id e = root_to cmp a id 1 e (λ deep. absurd (omega (arith, deep)))

module _ {K V : Type 0} {LEN : ℕ} {cmp : K → K → Ordering} (o : IsTotalOrder cmp) (upsert : Bool) (a b : TreeArenas K V LEN) (id level : ℕ) (key : K) (val : V) (result : Result (StoreResult K V) (K × V))
    (stands : Stands cmp level a None id None) (packed : packed_under cmp a (Some (root_at id level)) ≡ true) (smaller : AllByRecursion (λ p. cmp p.0 key ≡ Less) (walk level a id)) where
  -- the key is beyond the edge
  beyond_edge : IsPacked cmp (Some key) level a id
  beyond_edge = packed_beyond o key level a None id None stands (root_from cmp a id level packed).0 smaller

  -- a pair with the key was stored under the root
  pub packed_under_root : InsertsUnder cmp upsert level a b id result key val → stores result ≡ true → packed_under cmp b (Some (root_at id level)) ≡ true
  packed_under_root ins so =
      let some = (root_from cmp a id level packed).1 in
      let done = ins.packed so beyond_edge in
      root_to cmp b id level done.0 (λ deep. omega (arith, some deep, done.1))

  -- or under the new root, once the full one came under it
  pub packed_raised : (mid : TreeArenas K V LEN) (top : ℕ) → RaisesRoot cmp level a mid id top → room level a id ≡ 0 → InsertsUnder cmp upsert (suc level) mid b top result key val → stores result ≡ true
      → packed_under cmp b (Some (root_at top (suc level))) ≡ true
  packed_raised mid top raised full ins so =
      let more = raised.packed (Some key) full beyond_edge in
      let done = ins.packed so more.0 in
      root_to cmp b top (suc level) done.0 (λ deep. omega (arith, more.1, done.1))
