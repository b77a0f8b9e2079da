use Rattle.std.proofs.Common.{◌≡◌, ◌-◌, ◌+◌, ◌<◌, ◌∙◌, ℕ, suc, length, get_or, replicate, IsSome, arith, refl}
use Rattle.std.proofs.lemmas.List.{get_or_default, get_or-replicate, length-set}
use Rattle.tree_node.proofs.Common.{fits, get}
use Rattle.tree_node.proofs.Ways.{is_there}
use Rattle.tree_batches.proofs.Descending.{asked, begins, one_down, one_found, one_left, others_left, stands_above}
use Rattle.tree_batches.proofs.descent.leaves_below.Goals as goal

pub loop-init : goal.loop-init
loop-init g c =
    let same : suc c.args.top.level - 1 ≡ c.args.top.level = omega arith in
    let all = begins g.met.K.Ord.total g.Q.Lent.key c.args.arenas.now c.args.keys.now c.args.top.level c.args.top.id c.requires.top.0 (asked g.K.Ord.cmp c.args.arenas.now c.args.top.level c.args.top.id c.requires.top) in
    record { long = refl; down = rw same (all (replicate 8 c.args.top.id) (λ k high. get_or-replicate 8 k c.args.top.id 0 (omega (arith, high, c.requires.few)))) }

pub loop-place-init : goal.loop-place-init
loop-place-init g c = record { long = c.loop.invariant.long; done = λ k d low high. absurd (omega (arith, high)); left = c.loop.invariant.down }

pub node_below-requires : goal.node_below-requires
node_below-requires g c =
    let held : c.loop-place.place < length c.loop-place.nodes = omega (arith, c.loop-place-test.true, c.requires.few, c.loop-place.invariant.long) in
    let there : IsSome (get c.args.arenas.now.nodes (get_or c.loop-place.nodes c.loop-place.place 0)) = is_there g.met.K.Ord.total (c.loop-place.invariant.left c.loop-place.place c.index-keys-place.result (omega arith) c.loop-place-test.true) in
    (search fits, (search fits, rw (get_or_default c.loop-place.nodes c.loop-place.place c.index-nodes-place.result 0 held) there))

pub loop-place-preserved : goal.loop-place-preserved
loop-place-preserved g c =
    let held : c.loop-place.place < length c.loop-place.nodes = omega (arith, c.loop-place-test.true, c.requires.few, c.loop-place.invariant.long) in
    let above : 1 < c.args.top.level = omega (arith, c.loop-test.true, c.loop.auto.counter) in
    let stands = stands_above g.K.Ord.cmp c.args.arenas.now c.args.top.level c.args.top.id above c.requires.top in
    let next : ℕ = c.args.top.level - (c.loop.counter + 1) in
    let this : suc next ≡ c.args.top.level - c.loop.counter = omega (arith, c.loop-test.true) in
    let before : suc (suc next) ≡ suc c.args.top.level - c.loop.counter = omega (arith, c.loop-test.true) in
    let read = get_or_default c.loop-place.nodes c.loop-place.place c.index-nodes-place.result 0 held in
    let down = one_down g.met.K.Ord.total g.Q.Lent.key c.args.arenas.now c.args.keys.now c.args.top.level c.args.top.id c.loop-place.place c.index-keys-place.result c.index-keys-place.is c.loop-place-test.true c.loop-place.nodes held next c.requires.top.0 stands in
    record {
      long = length-set c.loop-place.nodes c.loop-place.place c.node_below.result ∙ c.loop-place.invariant.long;
      done = rw (← this, c.node_below.ensures, read) (down (rw this c.loop-place.invariant.done) (rw before c.loop-place.invariant.left));
      left = others_left g.met.K.Ord.total g.Q.Lent.key c.args.arenas.now c.args.keys.now c.args.top.level c.args.top.id c.loop-place.place c.index-keys-place.result c.index-keys-place.is c.loop-place-test.true c.loop-place.nodes held _ _ c.loop-place.invariant.left;
    }

pub loop-preserved : goal.loop-preserved
loop-preserved g c =
    let same : suc c.args.top.level - (c.loop.counter + 1) ≡ c.args.top.level - c.loop.counter = omega arith in
    record { long = c.loop-place.invariant.long; down = rw same (λ k d low high. c.loop-place.invariant.done k d low (omega (arith, high, c.loop-place-test.false))) }

pub leaf_below-requires : goal.leaf_below-requires
leaf_below-requires g c =
    let held : c.loop-place-2.place < length c.loop.nodes = omega (arith, c.loop-place-2-test.true, c.requires.few, c.loop.invariant.long) in
    let there : IsSome (get c.args.arenas.now.nodes (get_or c.loop.nodes c.loop-place-2.place 0)) = is_there g.met.K.Ord.total (c.loop.invariant.down c.loop-place-2.place c.index-keys-place-in-loop-place-2.result (omega arith) c.loop-place-2-test.true) in
    (search fits, (search fits, rw (get_or_default c.loop.nodes c.loop-place-2.place c.index-nodes-place-in-loop-place-2.result 0 held) there))

pub loop-place-2-init : goal.loop-place-2-init
loop-place-2-init g c = record { long = c.requires.long; leaves = λ k d high. absurd (omega (arith, high)) }

pub loop-place-2-preserved : goal.loop-place-2-preserved
loop-place-2-preserved g c =
    let held : c.loop-place-2.place < length c.loop.nodes = omega (arith, c.loop-place-2-test.true, c.requires.few, c.loop.invariant.long) in
    let kept : c.loop-place-2.place < length c.loop-place-2.leaves = omega (arith, c.loop-place-2-test.true, c.requires.few, c.loop-place-2.invariant.long) in
    let last : suc c.args.top.level - c.loop.counter ≡ 1 = one_left c.args.top.level c.loop.counter (c.loop.auto.counter-end c.requires.top.0) c.loop-test.false in
    let read = get_or_default c.loop.nodes c.loop-place-2.place c.index-nodes-place-in-loop-place-2.result 0 held in
    let down = rw last at (c.loop.invariant.down c.loop-place-2.place c.index-keys-place-in-loop-place-2.result (omega arith) c.loop-place-2-test.true) in
    record {
      long = length-set c.loop-place-2.leaves c.loop-place-2.place c.leaf_below.result ∙ c.loop-place-2.invariant.long;
      leaves = rw (c.leaf_below.ensures, read) (one_found g.met.K.Ord.total g.Q.Lent.key c.args.arenas.now c.args.keys.now c.args.top.level c.args.top.id c.loop-place-2.place c.index-keys-place-in-loop-place-2.result c.index-keys-place-in-loop-place-2.is c.loop-place-2-test.true c.loop-place-2.leaves kept _ c.requires.top.0 (rw (← c.index-keys-place-in-loop-place-2.is) at down) c.loop-place-2.invariant.leaves);
    }

pub returns : goal.returns
returns g c = record { long = c.loop-place-2.invariant.long; each = λ k d high. c.loop-place-2.invariant.leaves k d (omega (arith, high, c.loop-place-2-test.false)) }
