-- A removal in the child that a key belongs to, of the part under its node, where the child stays.
use Rattle.tree_remove.proofs.Common.{AllByRecursion, AllLarger, Bool, Fail, HasChildFor, HasOnlyRetired, IsPart, IsRetired, IsTotalOrder, KeepsBounds, Leaves, Less, List, None, Option}
use Rattle.tree_remove.proofs.Common.{Ordering, RemoveResult, Removes, RemovesUnder, Replaces, Retired, RetiresIfEmpty, Stands, Success, TakesOut, TreeArenas, [], arith, back_walk_above}
use Rattle.tree_remove.proofs.Common.{found_between, front_walk_below, get, leaves_at, new_spare, new_walk, no_children, node_keeps, node_replaces, old_spare, old_walk, part_after, refl}
use Rattle.tree_remove.proofs.Common.{replaces_trans, spare, spare_le, suc, walk, walk-only_retired, without_between, ℕ, ◌++◌, ◌∙◌, ◌∷◌, ◌≡◌, ◌≤◌}

-- what is taken out between smaller and larger keys is taken out of all
pub taken_between : {K V : Type 0} {cmp : K → K → Ordering} (o : IsTotalOrder cmp) (Says : V → Bool → Type 0) (key : K) (front old new back : List (K × V))
    → AllByRecursion (λ p. cmp p.0 key ≡ Less) front → AllLarger cmp key back → TakesOut cmp Says old key new
    → TakesOut cmp Says (front ++ (old ++ back)) key (front ++ (new ++ back))
taken_between o Says key front old new back smaller larger takes = record {
  pair = takes.pair;
  was = found_between o key front old back smaller larger ∙ takes.was;
  said = takes.said;
  left = rw (without_between o key front old back smaller larger, takes.left) refl;
}

module _ {K V : Type 0} {LEN : ℕ} {cmp : K → K → Ordering} (o : IsTotalOrder cmp) (Says : V → Bool → Type 0) {level : ℕ} {old : TreeArenas K V LEN} {id : ℕ}
    (child : ℕ) (key : K)
    (part : IsPart cmp (suc level) old id) (which : HasChildFor cmp key (get old.nodes id) child) where
  abbrev st : Stands cmp (suc level) old None id None
  st = part.stands

  above : {new : TreeArenas K V LEN} {result : RemoveResult} → Replaces level old new (child ∷ []) (child ∷ []) → spare level old child ≤ spare level new child
      → Removes cmp Says result (walk (suc level) old id) key (walk (suc level) new id) → Leaves cmp Says result (suc level) old new id
      → RemovesUnder cmp Says (suc level) old new id result key
  above {new} r spares pairs leaves =
      let was = old_spare o level old id child key part which None None st new r in
      let now = new_spare o level old id child key part which None None st new r in
      grind (arith, pairs, leaves, node_replaces o level old id child key part which None None st new r, was, now)

  -- the child lost the pair, and stands
  pub kept_above : {new : TreeArenas K V LEN} → TakesOut cmp Says (walk level old child) key (walk level new child) → KeepsBounds cmp level old new child
      → Replaces level old new (child ∷ []) (child ∷ []) → spare level old child ≤ spare level new child
      → RemovesUnder cmp Says (suc level) old new id Success key
  kept_above {new} takes keeps r spares =
      above {result = Success} r spares
      (rw (old_walk o level old id child key part which None None st new r, new_walk o level old id child key part which None None st new r)
      (taken_between o Says key _ _ _ _ (front_walk_below o level old None id None st key) (back_walk_above o level old None id None st key) takes))
      (λ low high s. node_keeps o level old id child key part which low high s new r keeps)

  -- or nothing was removed
  pub stays_above : {new : TreeArenas K V LEN} (result : RemoveResult) → (result ≡ Retired → ⊥) → RemovesUnder cmp Says level old new child result key
      → RemovesUnder cmp Says (suc level) old new id result key
  stays_above Success stays removes = kept_above removes.pairs removes.leaves removes.replaces removes.spare
  stays_above Retired stays removes = absurd (stays refl)
  stays_above {new} Fail stays removes =
      let r = removes.replaces in
      let found = found_between o key _ (walk level old child) _ (front_walk_below o level old None id None st key) (back_walk_above o level old None id None st key) in
      let were = old_walk o level old id child key part which None None st new r in
      above {result = Fail} r removes.spare (grind (arith, were, new_walk o level old id child key part which None None st new r, found, removes.pairs)) removes.leaves

-- a leaf node isn't left with a retired leaf alone where its own clean-up succeeds
pub settled_if_empty : {K V : Type 0} {LEN : ℕ} (old new : TreeArenas K V LEN) (id : ℕ) (result : RemoveResult) → RetiresIfEmpty old new id result
    → result ≡ Success → HasOnlyRetired new id → ⊥
settled_if_empty old new id result settles success = grind arith

module _ {K V : Type 0} {LEN : ℕ} (cmp : K → K → Ordering) where
  -- a retired leaf stands between all bounds
  retired_stands : (a : TreeArenas K V LEN) (id : ℕ) → IsRetired 0 a id → (low high : Option K) → Stands cmp 0 a low id high
  retired_stands a id retired low high = grind arith

  module _ (Says : V → Bool → Type 0) (key : K) where
    -- a retired leaf stays under its node
    pub leaf_kept : (o : IsTotalOrder cmp) {old new : TreeArenas K V LEN} {id : ℕ} (child : ℕ) → IsPart cmp 1 old id
        → HasChildFor cmp key (get old.nodes id) child → RemovesUnder cmp Says 0 old new child Retired key → RemovesUnder cmp Says 1 old new id Success key
    leaf_kept o {new = new} child part which removes =
        kept_above o Says child key part which removes.pairs.0 (λ low high s. retired_stands new child removes.leaves.0 low high) removes.replaces removes.spare

    -- the part stands after a removal
    pub part_left : {level : ℕ} {old new : TreeArenas K V LEN} {id : ℕ} → IsPart cmp level old id → RemovesUnder cmp Says level old new id Success key
        → IsPart cmp level new id
    part_left {level} {old} {new} {id} part removes = part_after cmp level old new id part (removes.leaves None None part.stands) removes.replaces

    -- a leaf node that lost a pair may be empty, and is retired then
    pub removes_settled : {old mid new : TreeArenas K V LEN} {id : ℕ} (result : RemoveResult) → RemovesUnder cmp Says 1 old mid id Success key
        → RetiresIfEmpty mid new id result → RemovesUnder cmp Says 1 old new id result key
    removes_settled Success removes settles = rw settles.0 removes
    removes_settled {old} {mid} {new} {id} Retired removes settles =
        let no_leaf : leaves_at 1 new.nodes id ≡ [] = rw ((no_children (get new.nodes id) settles.retired).1) refl in
        let replaces = replaces_trans 1 old mid new (id ∷ []) (id ∷ []) (id ∷ []) removes.replaces settles.replaces in
        grind (arith, no_leaf, removes.pairs, walk-only_retired mid id settles.only, settles.retired, settles.kind, replaces, spare_le 1 old id)
    removes_settled Fail removes settles = absurd settles
