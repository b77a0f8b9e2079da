use Rattle.std.proofs.Common.{refl}
use Rattle.tree_clean_up.proofs.Bounds.{ends_at, ends_open}
use Rattle.tree_clean_up.proofs.borders.last_place.Goals as goal

pub returns-in-Included-clause-ends : goal.returns-in-Included-clause-ends
returns-in-Included-clause-ends g c = rw c.in-Included.is (ends_at g.met.K.Ord.total c.place_in.ensures.parts _ (λ k is. rw is refl) (λ k is. rw is refl))

pub returns-in-Excluded-clause-ends : goal.returns-in-Excluded-clause-ends
returns-in-Excluded-clause-ends g c =
    rw c.in-Excluded.is (ends_at g.met.K.Ord.total c.place_in-in-Excluded.ensures.parts _ (λ k is. rw is refl) (λ k is. rw is refl))

pub returns-in-Unbounded-clause-ends : goal.returns-in-Unbounded-clause-ends
returns-in-Unbounded-clause-ends g c = rw c.in-Unbounded.is (ends_open g.met.K.Ord.total _ _ c.keyed_count.ensures.count)
