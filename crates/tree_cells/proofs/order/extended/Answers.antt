use Rattle.std.proofs.Common.{◌-◌, [], ◌∷◌, ◌++◌, replicate, ◌∙◌, ap, arith, append_assoc, length-append}
use Rattle.tree_cells.proofs.OrderCommon.{length-replicate, All-append, All-replicate, packed, IsSmall, one_small, joins, repeated}
use Rattle.tree_cells.proofs.order.extended.Goals as goal

pub returns : goal.returns
returns g c = λ slots small whole is.
    let r = c.requires in
    let spare = g.row.LEN - c.args.count in
    let tail = replicate spare c.args.slot in
    let tails = All-replicate IsSmall spare c.args.slot r.slot in
    let few = length-replicate spare c.args.slot in
    let front = joins slots tail c.args.count c.args.places _ small tails whole (omega (arith, few)) is (repeated c.args.slot spare (omega arith)) in
    joins (slots ++ tail) (15 ∷ []) g.row.LEN _ 15 (All-append IsSmall slots tail small tails) (one_small 15 (omega arith)) (omega (arith, length-append slots tail, few)) (omega (arith, length-append slots tail, few)) front (omega arith)
    ∙ ap packed (append_assoc slots tail (15 ∷ []))
