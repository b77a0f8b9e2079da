use Rattle.std.proofs.Common.{◌≡◌, ◌++◌, [], length, Some, refl, sym, ap, arith}
use Rattle.tree_node.proofs.Cuts.{smaller_front}
use Rattle.tree_node.proofs.Sizes.{fits}
use Rattle.tree_root.specs.Trees.{pairs_of}
use Rattle.tree_root.proofs.Runs.{first_taken, none_first, none_gathered, one_gathered, still_ascends}
use Rattle.tree_root.proofs.tree.Tree.append_each.Goals as goal

pub loop-slot-init : goal.loop-slot-init
loop-slot-init g c = record { gathers = rw c.close-array.ensures.array (none_gathered c.args.self.now c.args.run.now c.requires.whole); last = λ leaf none. absurd (cc) }

pub close-array-requires : goal.close-array-requires
close-array-requires g c = search fits

pub slot_at-requires : goal.slot_at-requires
slot_at-requires g c = search fits

pub drop-array-requires : goal.drop-array-requires
drop-array-requires g c = search fits

pub drop-array-requires-2 : goal.drop-array-requires-2
drop-array-requires-2 g c = search fits

pub take-key-requires : goal.take-key-requires
take-key-requires g c = (search fits, rw c.in-Some.ensures.1 refl)

pub append-requires : goal.append-requires
append-requires g c =
    let was = c.loop-slot in
    let first = c.in-Some.ensures in
    let ascending = still_ascends c.args.self.now c.args.run.now was.self was.array.entries was.invariant.gathers c.requires.ascending in
    let taken = first_taken g.met.K.Ord.total (pairs_of was.self) was.array.entries _ first.0 (c.take-key.result.0, c.take-key.result.1) ascending first.2 first.1 c.take-key.ensures.pair in
    (search fits, (c.requires.len, (was.invariant.gathers.whole, (was.invariant.last, smaller_front g.K.Ord.cmp (pairs_of was.self) _ taken.0 (rw taken.1 at ascending)))))

pub loop-slot-preserved : goal.loop-slot-preserved
loop-slot-preserved g c =
    let was = c.loop-slot in
    let first = c.in-Some.ensures in
    let ascending = still_ascends c.args.self.now c.args.run.now was.self was.array.entries was.invariant.gathers c.requires.ascending in
    let taken = first_taken g.met.K.Ord.total (pairs_of was.self) was.array.entries _ first.0 (c.take-key.result.0, c.take-key.result.1) ascending first.2 first.1 c.take-key.ensures.pair in
    record {
      gathers = rw (c.take-key.ensures.left, taken.2) (one_gathered c.args.self.now c.args.run.now was.self _ (c.take-key.result.0, c.take-key.result.1) taken.0 (rw taken.1 at was.invariant.gathers) (rw taken.1 at ascending) c.in-Ok.ensures.stores);
      last = c.in-Ok.ensures.last;
    }

pub loop-slot-smaller : goal.loop-slot-smaller
loop-slot-smaller g c =
    let was = c.loop-slot in
    let first = c.in-Some.ensures in
    let ascending = still_ascends c.args.self.now c.args.run.now was.self was.array.entries was.invariant.gathers c.requires.ascending in
    let taken = first_taken g.met.K.Ord.total (pairs_of was.self) was.array.entries _ first.0 (c.take-key.result.0, c.take-key.result.1) ascending first.2 first.1 c.take-key.ensures.pair in
    rw (c.take-key.ensures.left, taken.2) (omega (arith, ap length taken.1))

pub returns : goal.returns
returns g c = record {
  gathers = rw (none_first c.loop-slot.array.entries c.in_default.ensures) at c.loop-slot.invariant.gathers;
  left = c.close-array.ensures.left;
}
