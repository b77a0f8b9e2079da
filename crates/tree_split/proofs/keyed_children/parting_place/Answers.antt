use Rattle.std.proofs.Common.{◌∙◌, ap, sym}
use Rattle.tree_split.proofs.Boundaries.{few_by_boundary, many_by_boundary, parted_by}
use Rattle.tree_split.proofs.keyed_children.parting_place.Goals as goal

pub returns-then-boundary-clause-place : goal.returns-then-boundary-clause-place
returns-then-boundary-clause-place g c =
    few_by_boundary g.K.Ord.cmp g.row.LEN c.args.children.now c.optimal_boundary-boundary.ensures.sound (sym (ap (λ b. b.0) c.optimal_boundary-boundary.ensures.boundary) ∙ c.if-boundary.true)

pub returns-else-boundary-clause-place : goal.returns-else-boundary-clause-place
returns-else-boundary-clause-place g c =
    let told = c.optimal_boundary-boundary.ensures.boundary in
    let many = many_by_boundary g.K.Ord.cmp g.row.LEN c.args.children.now (λ at_len. c.if-boundary.false (ap (λ b. b.0) told ∙ at_len)) in
    rw told (many, (parted_by g.K.Ord.cmp g.row.LEN c.args.children.now c.optimal_boundary-boundary.ensures.sound many).1)
