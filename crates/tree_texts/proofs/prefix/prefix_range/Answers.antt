use Rattle.std.proofs.Common.{ℕ, List, Bor, refl}
use Rattle.tree_texts.specs.Head.{AreBytes}
use Rattle.tree_texts.specs.Prefix.{BoundPrefix}
use Rattle.tree_texts.proofs.Ranges.{between_is}
use Rattle.tree_model.proofs.Common.{Bound}
use Rattle.tree_model.specs.Pairs.{high_of, low_of}
use Rattle.tree_texts.proofs.prefix.prefix_range.Goals as goal

pub returns-clause-range : goal.returns-clause-range
returns-clause-range g c = rw (c.range.ensures, c.as_ref.ensures, c.as_ref-2.ensures) refl

pub returns-clause-prefix : goal.returns-clause-prefix
returns-clause-prefix g c = λ prefix b.
    let bounds : Bound (Bor (List ℕ)) × Bound (Bor (List ℕ)) = (c.as_ref.result, c.as_ref-2.result) in
    let lent : BoundPrefix AreBytes prefix (low_of bounds, high_of bounds) = rw (c.as_ref.ensures, c.as_ref-2.ensures) b in
    rw c.range.ensures (between_is lent c.args.index.now.pairs (c.has_bytes_between.ensures.prefix prefix lent))
