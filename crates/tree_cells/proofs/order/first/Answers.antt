use Rattle.tree_cells.proofs.OrderCommon.{◌≡◌, ◌+◌, ◌-◌, ◌*◌, ◌/◌, ◌%◌, ◌^◌, arith, shl_whole, shr_below, shr_split, word_low}
use Rattle.tree_cells.proofs.order.first.Goals as goal

pub returns : goal.returns
returns c =
    let bits = 4 * c.args.count in
    let e : 64 - bits + bits ≡ 64 = omega arith in
    let whole : c.args.word / 2 ^ bits * 2 ^ bits % 2 ^ 64 ≡ c.args.word / 2 ^ bits * 2 ^ bits = shl_whole (c.args.word / 2 ^ bits) (64 - bits) bits 64 (shr_below c.args.word (64 - bits) bits (rw e c.ranges.word.fits)) (omega arith) in
    let low : c.args.word - c.args.word / 2 ^ bits * 2 ^ bits ≡ c.args.word % 2 ^ bits = omega (arith, shr_split c.args.word bits) in
    rw (whole, low) (word_low c.args.word c.args.count)
