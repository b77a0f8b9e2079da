use Rattle.std.proofs.Common.{◌≡◌, true, false}
use Rattle.tree_node.proofs.Sizes.{fits}
use Rattle.tree_root.proofs.Runs.{each_gathered, none_gathered}
use Rattle.tree_root.proofs.Storing.{part_or_retired}
use Rattle.tree_root.proofs.tree.Tree.append_run.Goals as goal

pub append_each-requires : goal.append_each-requires
append_each-requires g c = (search fits, (search fits, (c.requires.len, (c.requires.whole, c.requires.ascending))))

pub append_run-requires : goal.append_run-requires
append_run-requires g c =
    let tree = rw c.in-Some.is at c.requires.whole in
    (search fits, (search fits, (search fits, (tree.top.0, (part_or_retired g.K.Ord.cmp c.args.self.now.arenas c.in-Some.root.id c.in-Some.root.level tree, rw c.in-Some.is at c.requires.ascending)))))

pub returns-then-branch-clause-gathers : goal.returns-then-branch-clause-gathers
returns-then-branch-clause-gathers g c =
    let appends = rw c.if-branch.true at c.in_ok-append_run.ensures.done in
    each_gathered c.args.self.now c.args.run.now g.met.K.Ord.total c.in-Some.root.id c.in-Some.root.level appends.0 c.args.run.now c.args.self.now c.append_run.new.arenas c.in-Some.is c.requires.whole (rw c.in-Some.is appends.1) c.requires.ascending
    (none_gathered c.args.self.now c.args.run.now c.requires.whole) appends.2

pub append_each-requires-2 : goal.append_each-requires-2
append_each-requires-2 g c =
    let back = rw c.if-branch.false at c.in_ok-append_run.ensures.done in
    (search fits, (search fits, (c.requires.len, (rw back.0 c.requires.whole, rw (back.0, back.1) c.requires.ascending))))

pub returns-clause-gathers : goal.returns-clause-gathers
returns-clause-gathers g c =
    let back = rw c.if-branch.false at c.in_ok-append_run.ensures.done in
    rw (back.0, back.1) at c.append_each-2.ensures.gathers
