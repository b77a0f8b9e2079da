use Rattle.tree_views.proofs.Common.{◌≡◌, ◌++◌, flat_map, fold, HasBegun, rest, On, moves_left}
use Rattle.tree_views.proofs.hash.feed.Given as goal

-- what is left leads from the hasher to where all would have led it
abbrev pub invariant-loop-key : goal.invariant-loop-key
invariant-loop-key g l =
    let fed = flat_map (λ p. g.K.Hash.hash_input p.0 ++ g.V.Hash.hash_input p.1) in
    record {
      begun : HasBegun g.K.Ord.cmp On l.pairs;
      same : fold g.H.Hasher.write l.state (fed (rest g.K.Ord.cmp On l.pairs)) ≡ fold g.H.Hasher.write l.initial.state (fed (rest g.K.Ord.cmp On l.initial.pairs));
    }

abbrev pub decreases-loop-key : goal.decreases-loop-key
decreases-loop-key g l = moves_left l.pairs
