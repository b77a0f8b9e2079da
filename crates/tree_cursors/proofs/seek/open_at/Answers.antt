use Rattle.tree_cursors.proofs.Common.{rules, refl, inl, inr, List, ℕ, ◌++◌, ◌∷◌, bound_map, IsChain, fits, retired_walk, leaf_in_chain}
use Rattle.tree_cursors.proofs.Seeks.{IsAt, opens_at, opens_unbounded}
use Rattle.tree_cursors.proofs.seek.open_at.Goals.{in-Included, in-Excluded}
use Rattle.tree_cursors.proofs.seek.open_at.Goals as goal

pub returns-in-Unbounded : goal.returns-in-Unbounded
returns-in-Unbounded g c = opens_unbounded g.K.Ord.cmp g.D.Direction.way c.args.level c.args.arenas.now c.args.id _ c.walk_from_end.result c.walk_from_end.ensures

pub returns-in_err-leaf : goal.returns-in_err-leaf
returns-in_err-leaf g c = rw c.from_residual.ensures (retired_walk c.args.arenas.now c.args.id c.args.level c.requires.node c.in_err-leaf.ensures.found)

pub new-requires : goal.new-requires
new-requires g c =
    let chain : (front back : List ℕ) × IsChain c.args.arenas.now.leaves (front ++ c.in_ok-leaf.leaf ∷ back) =
    let is = c.in_ok-leaf.ensures.found in
    leaf_in_chain c.args.level c.args.arenas.now c.args.id c.in_ok-leaf.leaf is.front is.back is.parts c.requires.linked in
    (search rules, (search fits, chain))

pub returns : goal.returns
returns g c =
    let at : IsAt c.match-bound.key.now (bound_map (λ k. k.now) c.args.bound) =
    elim c.match-bound.branch [ in-Included w ↦ inl (rw (w.in-Included.is, w.key-is) refl) | in-Excluded w ↦ inr (rw (w.in-Excluded.is, w.key-is) refl) ] in
    opens_at g.met.K.Ord.total c.args.level c.args.arenas.now c.args.id g.D.Direction.way c.match-bound.key.now (bound_map (λ k. k.now) c.args.bound) c.in_ok-leaf.leaf c.in_ok-leaf.ensures.found at c.new.result c.new.ensures
