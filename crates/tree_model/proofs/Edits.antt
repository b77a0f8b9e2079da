-- Edits of a list of pairs.
use Rattle.std.proofs.Common.{Bool, true, false, List, Ordering}
use Rattle.tree_model.specs.Edits.{RemovesIf}

-- a removal on a condition, told of the condition in other words
pub removes_if_says : {K V : Type 0} (cmp : K → K → Ordering) (Says Tells : V → Bool → Type 0) (old : List (K × V)) (k : K) (removed : Bool) (new : List (K × V)) → ((v : V) (said : Bool) → Says v said → Tells v said) → RemovesIf cmp Says old k removed new → RemovesIf cmp Tells old k removed new
removes_if_says cmp Says Tells old k true new tells h = (h.0, h.1, tells _ true h.2, h.3)
removes_if_says cmp Says Tells old k false new tells h = ((λ pair at. tells _ false (h.0 pair at)), h.1)
