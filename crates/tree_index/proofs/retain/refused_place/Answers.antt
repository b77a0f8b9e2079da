use Rattle.std.proofs.Common.{[], of_calls, refl}
use Rattle.tree_model.proofs.Common.{bound_map}
use Rattle.tree_model.specs.declared.way.Way.TheVariants.{On}
use Rattle.tree_node.proofs.Common.{fits}
use Rattle.tree_cursors.proofs.Yields.{takes_first}
use Rattle.tree_root.specs.Trees.{pairs_of}
use Rattle.tree_index.proofs.Ended.{stored_where}
use Rattle.tree_index.proofs.Indexed.{pairs_ascend}
use Rattle.tree_index.proofs.Refused.{found_within, from_low, passed_all, passes_more, refuses_next}
use Rattle.tree_index.proofs.retain.refused_place.Goals as goal

pub new-pairs-requires : goal.new-pairs-requires
new-pairs-requires g c = (search fits, (search fits, (search fits, c.requires.whole)))

pub loop-key-init : goal.loop-key-init
loop-key-init g c = record { callable = c.requires.callable; begun = rw c.new-pairs.ensures tt; asked = record { front = []; split = refl; passed = refl } }

pub next-requires : goal.next-requires
next-requires g c = search fits

pub loop-key-preserved : goal.loop-key-preserved
loop-key-preserved g c =
    let taken = takes_first g.met.K.Ord.total On _ _ _ c.in-Some.ensures.steps c.loop-key.invariant.begun in
    let callable = c.loop-key.invariant.callable in
    record {
      callable = search of_calls;
      begun = taken.0;
      asked = passes_more g.F.FnMut c.args.keep _ c.loop-key.keep _ _ c.in-Some.key c.in-Some.value c.loop-key.invariant.asked taken.1 c.keep.new.self (rw c.if-not-keep.false at c.keep.ensures);
    }

pub returns-then-not-keep-clause-refused : goal.returns-then-not-keep-clause-refused
returns-then-not-keep-clause-refused g c =
    let taken = takes_first g.met.K.Ord.total On _ _ _ c.in-Some.ensures.steps c.loop-key.invariant.begun in
    let from = from_low g.K.Ord.cmp (bound_map (λ k. k.now) c.args.low) (pairs_of c.args.tree.now) c.new-pairs.result c.new-pairs.ensures in
    let refuses = rw from at (refuses_next g.F.FnMut c.args.keep _ c.loop-key.keep _ _ c.in-Some.key c.in-Some.value c.loop-key.invariant.asked taken.1 c.keep.new.self (rw c.if-not-keep.true at c.keep.ensures)) in
    stored_where g.met.K.Ord.total c.args.tree.now c.entry_for.result (c.in-Some.key.now, c.in-Some.value.now) _ _ refuses
    (found_within g.met.K.Ord.total (bound_map (λ k. k.now) c.args.low) (pairs_of c.args.tree.now) refuses.front _ refuses.back (pairs_ascend g.met.K.Ord.total c.args.tree.now c.requires.whole) refuses.split) c.entry_for.ensures

pub returns-clause-refused : goal.returns-clause-refused
returns-clause-refused g c =
    let taken = takes_first g.met.K.Ord.total On _ _ _ c.in_default.ensures.steps c.loop-key.invariant.begun in
    let from = from_low g.K.Ord.cmp (bound_map (λ k. k.now) c.args.low) (pairs_of c.args.tree.now) c.new-pairs.result c.new-pairs.ensures in
    rw from at (passed_all g.F.FnMut c.args.keep _ c.loop-key.keep _ c.loop-key.invariant.asked taken.1.0)

pub entry_for-requires : goal.entry_for-requires
entry_for-requires g c = search fits
