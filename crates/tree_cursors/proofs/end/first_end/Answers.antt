use Rattle.tree_cursors.proofs.Common.{rules, arith, bound_map, fits}
use Rattle.tree_cursors.proofs.EndPairs.{found_end, found_none, root_linked, root_stands}
use Rattle.tree_cursors.proofs.end.first_end.Goals as goal

pub seek_at-requires : goal.seek_at-requires
seek_at-requires g c =
    let tree = rw c.in-Some.is at c.requires in
    (search (rules, fits), (search (rules, fits), (search (rules, fits), (tree.top.0, (root_stands _ _ _ tree, root_linked _ _ _ tree)))))

pub returns-in-Some-seek_at : goal.returns-in-Some-seek_at
returns-in-Some-seek_at g c =
    let tree = rw c.in-Some.is at c.requires in
    let found = found_end c.args.arenas.now c.in-Some.top.id c.in-Some.top.level tree g.D.Direction.way (bound_map (λ k. k.now) c.args.bound) c.in-Some-seek_at.walk c.in-Some-seek_at.ensures in
    rw c.in-Some.is (record { place = found.1; stands = found.0 })

pub returns-in-None-clause-place : goal.returns-in-None-clause-place
returns-in-None-clause-place g c =
    let tree = rw c.in-Some.is at c.requires in
    rw c.in-Some.is (found_none c.args.arenas.now c.in-Some.top.id c.in-Some.top.level tree g.D.Direction.way (bound_map (λ k. k.now) c.args.bound) c.in-None.ensures)

pub returns-in_default-clause-place : goal.returns-in_default-clause-place
returns-in_default-clause-place g c = rw c.in_default.is (grind arith)
