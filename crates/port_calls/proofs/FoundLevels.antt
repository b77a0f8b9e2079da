-- The level that a walk finds serves in place of the one that the contract speaks of: they differ for a retired node alone, which has nothing under it.
pub use Rattle.std.proofs.Common.{◌≡◌, ◌∙◌, ◌⊎◌, ℕ, zero, suc, ◌+◌, ◌*◌, ◌<◌, ◌≤◌, Bool, [], ◌∷◌, Option, Some, None, MatchOption, inl, inr, refl, arith, Ordering, rules, Ok, Err, ap, sym}
pub use Rattle.std.proofs.Math.Nat.{mul-le-mul_left}
pub use Rattle.tree_array.specs.Length.{searched}
pub use Rattle.tree_array.specs.declared.answers.RemoveResult.{RemoveResult}
pub use Rattle.tree_array.specs.declared.answers.RemoveResult.TheVariants.{Success, Retired, Fail}
pub use Rattle.tree_array.specs.declared.answers.StoreResult.TheVariants.{Full}
pub use Rattle.port_calls.specs.Found.{IsFound}
pub use Rattle.tree_leaf.proofs.ChainCommon.{LeafWalk, Way, On, Back}
pub use Rattle.tree_cut.proofs.Nodes.{childless_cut}
pub use Rattle.tree_cut.specs.Cuts.{CutsUnder}
pub use Rattle.tree_model.proofs.Common.{Bound, err_from_is_err_and}
pub use Rattle.tree_node.proofs.Common.{get, same_leaves, TreeArenas, IsPart, Unchanged, IsRetired, Stands, StandsOrRetired, leaves_at, nodes_at, walk, IsOfLevel, no_children, fits}
pub use Rattle.tree_node.proofs.Levels.{node_at, retired_at}
pub use Rattle.tree_node.proofs.NodeKinds.{inner_level, node_used, outer_level}
pub use Rattle.tree_node.proofs.Unchanged.{unchanged_agrees, unchanged_replaces}
pub use Rattle.tree_node.specs.declared.branch.BranchOf.{BranchOf}
pub use Rattle.tree_node.specs.declared.node.NodeOf.{NodeOf}
pub use Rattle.tree_node.specs.declared.node.NodeOf.TheVariants.{Internal}
pub use Rattle.tree_node.specs.declared.node.Root.{Root}
pub use Rattle.port_calls.specs.Approximate.{Approximates}
pub use Rattle.tree_remove.specs.Lowering.{LowersRoot}
pub use Rattle.tree_remove.specs.Removes.{RemovesUnder}
pub use Rattle.tree_parts.specs.Ends.{BeginsPart, IsLinked}

module _ {K V : Type 0} {LEN : ℕ} (a : TreeArenas K V LEN) (id : ℕ) where
  -- a node is retired at each level, or at none
  pub retired_too : (level other : ℕ) → 0 < level → 0 < other → IsRetired level a id → IsRetired other a id
  retired_too zero other inner low retired = absurd (omega (arith, inner))
  retired_too (suc level) zero inner low retired = absurd (omega (arith, low))
  retired_too (suc level) (suc other) inner low retired = retired

  -- and is all that it reaches
  pub itself : (level : ℕ) → 0 < level → IsRetired level a id → (leaves_at level a.nodes id ≡ []) × (nodes_at level a.nodes id ≡ id ∷ [])
  itself zero inner retired = absurd (omega (arith, inner))
  itself (suc level) inner retired = rw (no_children (get a.nodes id) retired).1 (refl, refl)

module _ {K V : Type 0} {LEN : ℕ} {cmp : K → K → Ordering} {a : TreeArenas K V LEN} {id level : ℕ} where
  pub given_at : IsPart cmp level a id ⊎ IsRetired level a id → StandsOrRetired cmp level a id
  given_at (inl part) = inl part.stands
  given_at (inr retired) = inr retired

  pub is_found : {found : ℕ} → 0 < level → (Stands cmp level a None id None → found ≡ level) → (IsRetired level a id → found ≡ 1) → StandsOrRetired cmp level a id
      → IsFound cmp a id level found
  is_found above up one there =
      let lowest : IsRetired level a id → IsRetired 1 a id = retired_too a id level 1 above (omega arith) in
      record {
        above = above;
        inner = elim there [ inl s ↦ omega (arith, up s) | inr r ↦ omega (arith, one r) ];
        le = elim there [ inl s ↦ omega (arith, up s) | inr r ↦ omega (arith, one r) ];
        up = up;
        one = one;
        stands = elim there [ inl s ↦ rw (up s) (inl s) | inr r ↦ rw (one r) (inr (lowest r)) ];
        leaves = elim there [ inl s ↦ rw (up s) refl | inr r ↦ rw (one r, (itself a id level above r).0) (itself a id 1 (omega arith) (lowest r)).0 ];
      }

-- a level at which what is a part is found
module _ {K V : Type 0} {LEN : ℕ} {cmp : K → K → Ordering} {a : TreeArenas K V LEN} {id level found : ℕ} (up : IsPart cmp level a id → found ≡ level)
    (low : 0 < found) (inner : 0 < level) (there : IsPart cmp level a id ⊎ IsRetired level a id) where
  -- what is a part or retired is so there too
  pub found_part : IsPart cmp found a id ⊎ IsRetired found a id
  found_part = elim there [ inl part ↦ rw (up part) (inl part) | inr retired ↦ inr (retired_too a id level found inner low retired) ]

  -- and a root that is lowered is so at either level
  pub lowered_at : {b : TreeArenas K V LEN} {result : Option Root} → LowersRoot cmp found a b id result → LowersRoot cmp level a b id result
  lowered_at lowers = elim there [
    | inl part ↦ rw (up part) at lowers
    | inr retired ↦
        let under = itself a id level inner retired in
        let found_under = itself a id found low (retired_too a id level found inner low retired) in
        record {
          stands = lowers.stands;
          leaves = lowers.leaves;
          leaves_under = rw under.0 (rw found_under.0 at lowers.leaves_under);
          pairs = rw under.0 (rw found_under.0 at lowers.pairs);
          nodes_kept = rw under.1 (rw found_under.1 at lowers.nodes_kept);
          nodes_counted = rw under.1 (rw found_under.1 at lowers.nodes_counted);
        }
  ]

module _ {K V : Type 0} {LEN : ℕ} {cmp : K → K → Ordering} {a : TreeArenas K V LEN} {id level found : ℕ} (is : IsFound cmp a id level found) where
  pub retired_there : IsRetired level a id → IsRetired found a id
  retired_there = retired_too a id level found is.above is.inner

  -- the part may be changed at the level that is found
  pub may_change : IsPart cmp level a id ⊎ IsRetired level a id → (0 < found) × (IsPart cmp found a id ⊎ IsRetired found a id)
  may_change there = (is.inner, found_part (λ part. is.up part.stands) is.inner is.above there)

  -- a removal under the node is the same at either level, since nothing is removed under a retired one
  pub removed_at : IsPart cmp level a id ⊎ IsRetired level a id → {Says : V → Bool → Type 0} {b : TreeArenas K V LEN} {result : RemoveResult} {key : K}
      → RemovesUnder cmp Says found a b id result key → RemovesUnder cmp Says level a b id result key
  removed_at (inl part) removes = rw (is.up part.stands) at removes
  removed_at (inr retired) {Says} {b} {result} {key} removes = fails_at result removes
    where
      none : leaves_at found a.nodes id ≡ []
      none = (itself a id found is.inner (retired_there retired)).0

      fails_at : (result : RemoveResult) → RemovesUnder cmp Says found a b id result key → RemovesUnder cmp Says level a b id result key
      fails_at Success removes = cc (rw none at removes.pairs.was)
      fails_at Retired removes = cc (rw none at removes.pairs.0.was)
      fails_at Fail removes =
          let same : Unchanged a b = removes.leaves in
          let before = (itself a id level is.above retired).0 in
          let after = same_leaves level a b id (unchanged_agrees level a b same id) ∙ before in
          record {
            pairs = (λ pair there. cc (rw before at there), rw (before, after) refl);
            leaves = same;
            replaces = unchanged_replaces level a b same (id ∷ []);
            spare = rw (before, after) (omega arith);
          }

  -- so is a removal of a range
  pub cut_at : IsPart cmp level a id ⊎ IsRetired level a id → {low high : Bound K} {b : TreeArenas K V LEN} {gone : ℕ} → CutsUnder cmp low high found a b id gone
      → (IsRetired found a id → b ≡ a) → (gone : ℕ) × CutsUnder cmp low high level a b id gone
  cut_at (inl part) {gone = gone} cuts stays = (gone, rw (is.up part.stands) at cuts)
  cut_at (inr retired) {low} {high} cuts stays = (0, rw (stays (retired_there retired)) (childless_cut cmp low high level a id is.above retired))

  -- a walk may begin under the node at the level that is found
  pub may_begin : IsLinked level a id → (0 < found) × (StandsOrRetired cmp found a id × IsLinked found a id)
  may_begin linked = (is.inner, (is.stands, (linked.0, linked.1, rw is.leaves linked.2)))

  -- a walk that begins a part begins it at either level
  pub begins_at : (way : Way) (result : Option (LeafWalk K V LEN)) → MatchOption result (walk found a id ≡ []) (BeginsPart way found a id)
      → MatchOption result (walk level a id ≡ []) (BeginsPart way level a id)
  begins_at way None nothing = rw is.leaves at nothing
  begins_at way (Some begun) begins = record { unopened = begins.unopened; leaf = rw is.leaves at begins.leaf; entry = rw is.leaves at begins.entry }

  -- a walk that stands near a key in the part does so at either level
  pub approximates_at : (way : Way) (bound : Bound K) (result : Option (LeafWalk K V LEN)) → Approximates cmp way found a id bound result
      → Approximates cmp way level a id bound result
  approximates_at way bound None none = rw is.leaves at none
  approximates_at way bound (Some opened) near =
      record { same = near.same; front = near.front; pair = near.pair; back = near.back; parts = rw is.leaves at near.parts; here = near.here; met = near.met }

  -- no more is asked than at the greater level
  pub within_level : (len asked most : ℕ) → asked ≤ most + len * (found + 1) → asked ≤ most + len * (level + 1)
  within_level len asked most few = let more : found + 1 ≤ level + 1 = omega (arith, is.le) in omega (arith, few, mul-le-mul_left len more)

-- an internal node is of each level above the lowest
pub over_nodes : {K : Type 0} {LEN : ℕ} (level : ℕ) → 1 < level → (slot : Option (NodeOf K LEN)) (node : BranchOf K ℕ LEN) → slot ≡ Some (Internal node) → IsOfLevel level slot
over_nodes zero high slot node here = absurd (omega (arith, high))
over_nodes (suc zero) high slot node here = absurd (omega (arith, high))
over_nodes (suc (suc level)) high slot node here = rw here tt
