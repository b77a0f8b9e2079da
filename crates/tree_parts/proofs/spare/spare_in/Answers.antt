use Rattle.tree_parts.proofs.Common.{arith, le-leb, limit, lt-leb, refl, w8, Fits-of_lt, len_small}
use Rattle.tree_parts.proofs.spare.spare_in.Goals as goal

pub overflow_cast-result : goal.overflow_cast-result
overflow_cast-result g c = Fits-of_lt {w = w8} (omega (arith, len_small _ c.slots_left_in-left.ensures.sound.is_len))

pub returns-then-count-left : goal.returns-then-count-left
returns-then-count-left g c =
    rw (c.leaf.ensures, ← c.array-array.ensures, ← c.slots_left_in-left.ensures.left, ← c.len-count.ensures, le-leb _ (limit g.row.LEN) c.if-count-left.true) refl

pub returns-else-count-left : goal.returns-else-count-left
returns-else-count-left g c =
    rw (c.leaf.ensures, ← c.array-array.ensures, ← c.slots_left_in-left.ensures.left, ← c.len-count.ensures, lt-leb _ (limit g.row.LEN) c.if-count-left.false) refl
