use Rattle.std.proofs.Common.{◌<◌, arith}
use Rattle.std.proofs.lemmas.Grind.{common_steps}
use Rattle.tree_texts.specs.Head.{leading, AreBytes}
use Rattle.tree_texts.proofs.Heads.{leading_fits}
use Rattle.tree_texts.proofs.head.head_of_few.Goals as goal
use Rattle.tree_texts.proofs.head.head_of_few.Goals.{then-at-bytes, else-at-bytes}

pub overflow_mul-head : goal.overflow_mul-head
overflow_mul-head c =
    let bytes : AreBytes c.args.bytes.now = λ i. omega (arith, c.type_inv.bytes i) in
    omega (arith, leading_fits c.loop-at.at c.args.bytes.now bytes c.loop-at-test.true, c.loop-at.invariant)

pub overflow_add-head : goal.overflow_add-head
overflow_add-head c =
    let bytes : AreBytes c.args.bytes.now = λ i. omega (arith, c.type_inv.bytes i) in
    let few : c.loop-at.head < 72057594037927936 = omega (arith, leading_fits c.loop-at.at c.args.bytes.now bytes c.loop-at-test.true, c.loop-at.invariant) in
    elim c.if-at-bytes.branch [ then-at-bytes w ↦ omega (arith, bytes c.loop-at.at) | else-at-bytes w ↦ omega arith ]

pub loop-at-init : goal.loop-at-init
unfolding leading
loop-at-init c = omega arith

pub loop-at-preserved : goal.loop-at-preserved
unfolding leading
loop-at-preserved c = grind (arith, common_steps, c.loop-at.invariant)
