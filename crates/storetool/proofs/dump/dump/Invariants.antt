use Rattle.std.proofs.Common.{nat_cmp}
use Rattle.tree_model.proofs.Common.{HasBegun, rest}
use Rattle.tree_model.specs.declared.way.Way.TheVariants.{On}
use Rattle.storetool.specs.Printing.{listing}
use Rattle.storetool.proofs.Listings.{IsListed}
use Rattle.storetool.proofs.dump.dump.Given as goal

-- the pairs that the cursor has still to give are left
abbrev pub invariant-loop-key : goal.invariant-loop-key
invariant-loop-key g l = record {
  listed : IsListed (listing l.fn.index.pairs) (g.W.Write.contents l.fn.output) (g.W.Write.contents l.output) l.text.items (listing (rest nat_cmp On l.key-iterator));
  begun : HasBegun nat_cmp On l.key-iterator;
}
