use Rattle.tree_leaf.proofs.Common.{refl, err_from_is_err_and}
use Rattle.tree_leaf.proofs.Rooms.{grown, reserved}
use Rattle.tree_leaf.proofs.arena.SlotsOf.reserve.Goals as goal

pub returns-in_err-reserve : goal.returns-in_err-reserve
returns-in_err-reserve g c =
    let leaves = grown _ _ c.in_err-reserve.ensures.rest_kept c.in_err-reserve.ensures.capacity in
    rw (err_from_is_err_and c.from_residual.result c.from_residual.ensures.1).1
    (record { leaves = leaves; nodes = record { slots = refl; room = λ more had. had } }, λ had. let ok = c.in_err-reserve.ensures.succeeds had.leaves in (cc))

pub returns : goal.returns
returns g c =
    reserved _ _ _ _ _
    (record { leaves = grown _ _ c.in_ok-reserve.ensures.rest_kept c.in_ok-reserve.ensures.capacity; nodes = grown _ _ c.reserve-2.ensures.rest_kept c.reserve-2.ensures.capacity })
    c.in_ok-reserve.ensures.room c.reserve-2.ensures.room c.reserve-2.ensures.succeeds
