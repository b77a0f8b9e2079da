use Rattle.std.proofs.Common.{refl}
use Rattle.tree_clean_up.proofs.Bounds.{begins_at, begins_open}
use Rattle.tree_clean_up.proofs.borders.first_place.Goals as goal

pub returns-in-Included : goal.returns-in-Included
returns-in-Included g c = rw c.in-Included.is (begins_at g.met.K.Ord.total c.place_in.ensures.parts _ (λ k is. rw is refl) (λ k is. rw is refl))

pub returns-in-Excluded : goal.returns-in-Excluded
returns-in-Excluded g c = rw c.in-Excluded.is (begins_at g.met.K.Ord.total c.place_in-in-Excluded.ensures.parts _ (λ k is. rw is refl) (λ k is. rw is refl))

pub returns-in-Unbounded : goal.returns-in-Unbounded
returns-in-Unbounded g c = rw c.in-Unbounded.is (begins_open g.met.K.Ord.total _)
