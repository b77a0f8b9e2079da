use Rattle.std.proofs.Common.{◌≡◌, length, None, refl, arith}
use Rattle.std.proofs.lemmas.List.{get_or-replicate}
use Rattle.tree_node.proofs.Common.{fits}
use Rattle.tree_batches.proofs.descent.leaves_of.Goals as goal

pub leaves_below-requires : goal.leaves_below-requires
leaves_below-requires g c =
    let long : length c.args.leaves.now ≡ 8 = rw c.requires.none refl in
    (search fits, (search fits, ((rw c.in-Some.is at c.requires.tree).top, (c.requires.few, long))))

pub returns-in-Some : goal.returns-in-Some
returns-in-Some g c = rw c.in-Some.is c.leaves_below.ensures

pub returns-in-None : goal.returns-in-None
returns-in-None g c =
    let long : length c.args.leaves.now ≡ 8 = rw c.requires.none refl in
    rw c.in-None.is (record { long = long; each = λ k d high. rw c.requires.none (get_or-replicate 8 k None None (omega (arith, high, c.requires.few))) })
