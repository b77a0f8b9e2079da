use Rattle.std.proofs.Common.{sym}
use Rattle.tree_cursors.proofs.EndPairs.{goes_to, leaves_tree}
use Rattle.tree_cursors.proofs.end.step.Goals as goal

pub returns-in-None-clause-place : goal.returns-in-None-clause-place
returns-in-None-clause-place g c =
    rw c.in-At.is (leaves_tree c.args.arenas.now c.args.root c.requires.tree g.D.Direction.way c.in-At.walk (rw c.in-At.is at c.requires.stands) c.next_or_jump.new.walk c.in-None.ensures _)

pub returns-in-Some : goal.returns-in-Some
returns-in-Some g c =
    let moved = goes_to c.args.arenas.now c.args.root c.requires.tree g.D.Direction.way c.in-At.walk (rw c.in-At.is at c.requires.stands) c.next_or_jump.new.walk (c.in-Some.key, c.in-Some.value) c.in-Some.ensures in
    record { place = rw c.in-At.is (moved.place _); stands = moved.stands; pair = sym moved.pair }
