use Rattle.std.proofs.Common.{Some}
use Rattle.tree_set.proofs.Merged.{union_first, union_second}
use Rattle.tree_set.proofs.Moves.{first_progress}
use Rattle.tree_node.proofs.Common.{fits}
use Rattle.tree_set.proofs.union.UnionOverArenasOfUnitLeafOfUnitIterator.next.Goals as goal

pub returns-in_default : goal.returns-in_default
returns-in_default g c =
    let taken = union_second g.K.Ord.cmp c.self.inside.first c.self.inside.second c.peek-y.result c.in_default.ensures c.peek-y.ensures in
    rw (← c.self.view_is, c.advance.ensures) (record { steps = taken; goes = first_progress (λ x. x.now) _ _ c.peek-y.result taken })

pub returns-in_default-peek : goal.returns-in_default-peek
returns-in_default-peek g c =
    let taken = union_first g.K.Ord.cmp c.self.inside.first _ c.in-Some.x.now c.in-Some.ensures c.self.inside.second c.in_default-peek.ensures in
    rw (← c.self.view_is, c.advance-in_default-peek.ensures) (record { steps = taken; goes = first_progress (λ x. x.now) _ _ (Some c.in-Some.x) taken })

pub peek-requires : goal.peek-requires
peek-requires g c = search fits

pub peek-y-requires : goal.peek-y-requires
peek-y-requires g c = search fits

pub advance-requires : goal.advance-requires
advance-requires g c = search fits

pub peek-requires-2 : goal.peek-requires-2
peek-requires-2 g c = search fits

pub advance-requires-in_default-peek : goal.advance-requires-in_default-peek
advance-requires-in_default-peek g c = search fits

pub advance-requires-in-Less : goal.advance-requires-in-Less
advance-requires-in-Less g c = search fits

pub advance-requires-in-Equal : goal.advance-requires-in-Equal
advance-requires-in-Equal g c = search fits

pub advance-requires-in-Equal-2 : goal.advance-requires-in-Equal-2
advance-requires-in-Equal-2 g c = search fits

pub advance-requires-in-Greater : goal.advance-requires-in-Greater
advance-requires-in-Greater g c = search fits
