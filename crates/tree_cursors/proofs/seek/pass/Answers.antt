use Rattle.tree_cursors.proofs.Common.{refl, sym, ap, ◌∙◌, ℕ, Option, [], ahead, all_ahead, here}
use Rattle.tree_cursors.proofs.Seeks.{none_excluded, none_included}
use Rattle.tree_cursors.proofs.seek.pass.Goals as goal

pub returns-in-Included : goal.returns-in-Included
returns-in-Included g c = rw c.in-Included.is (record { stays = c.pass.ensures.stays; passes = (_, c.pass.ensures.passed, none_included g.K.Ord.cmp g.D.Direction.way c.in-Included.key.now (here c.args.walk.now)) })

pub returns-in-Excluded : goal.returns-in-Excluded
returns-in-Excluded g c = rw c.in-Excluded.is (record { stays = c.pass-in-Excluded.ensures.stays; passes = (_, c.pass-in-Excluded.ensures.passed, none_excluded g.K.Ord.cmp g.D.Direction.way c.in-Excluded.key.now (here c.args.walk.now)) })

pub returns-in-Unbounded : goal.returns-in-Unbounded
returns-in-Unbounded g c =
    let way = g.D.Direction.way in
    let fresh = ap (λ (walk : _). walk.at) c.requires in
    record { stays = refl; passes = ([], sym (ap (λ (at : Option ℕ). ahead way (here c.args.walk.now) at) fresh ∙ all_ahead way (here c.args.walk.now)), tt) }
