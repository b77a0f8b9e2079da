use Rattle.std.proofs.Common.{[], ◌∷◌, ◌++◌, length-append, arith, decimal}
use Rattle.tree_lines.proofs.Decimals.{length-decimal}
use Rattle.tree_lines.proofs.pairs.write_pair.Goals as goal

-- each number has at most twenty digits
pub push_front-requires : goal.push_front-requires
push_front-requires g c = rw (c.push_number_front.ensures, c.new-text.ensures) (omega (arith, length-append (decimal c.args.value) [], length-decimal c.args.value c.ranges.value.fits))

pub push_number_front-requires-2 : goal.push_number_front-requires-2
push_number_front-requires-2 g c =
    rw (c.push_front.ensures, c.push_number_front.ensures, c.new-text.ensures) (omega (arith, length-append (decimal c.args.value) [], length-decimal c.args.value c.ranges.value.fits))

pub push_front-requires-then-not-is_first : goal.push_front-requires-then-not-is_first
push_front-requires-then-not-is_first g c =
    rw (c.push_number_front-2.ensures, c.push_front.ensures, c.push_number_front.ensures, c.new-text.ensures)
    (omega (arith, length-append (decimal c.args.key) (61 ∷ decimal c.args.value ++ []), length-append (decimal c.args.value) [], length-decimal c.args.key c.ranges.key.fits, length-decimal c.args.value c.ranges.value.fits))
