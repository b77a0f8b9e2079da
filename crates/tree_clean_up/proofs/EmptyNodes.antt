-- A leaf node whose only leaf is retired, and is dropped.
use Rattle.tree_clean_up.proofs.Common.{Arrivals, DropsUnbounded, HasOnlyRetired, IsOnlyRetired, IsPart, List, NodeOf, None, Ordering, Retires, RetiresIfEmpty, Some, Stands, TreeArenas, []}
use Rattle.tree_clean_up.proofs.Common.{ap, arith, children_of, get, in_turn, keyed, length, length-append, refl, suc, times-nil, unbounded}
use Rattle.tree_clean_up.proofs.Common.{ℕ, ◌∙◌, ◌∷◌, ◌≡◌}
use Rattle.tree_array.specs.declared.answers.RemoveResult.{RemoveResult}
use Rattle.tree_array.specs.declared.answers.RemoveResult.TheVariants.{Fail, Retired, Success}
use Rattle.tree_clean_up.proofs.Siblings.{siblings}

-- one child in all is the unbounded one
pub only_unbounded : {K : Type 0} (pairs : List (K × ℕ)) (last x : ℕ) → in_turn pairs (Some last) ≡ x ∷ [] → (pairs ≡ []) × (x ≡ last)
only_unbounded [] last x h = (refl, cc)
only_unbounded (c ∷ []) last x h = absurd (cc)
only_unbounded (c ∷ (d ∷ rest)) last x h = absurd (cc)

module _ {K V : Type 0} {LEN : ℕ} (a : TreeArenas K V LEN) (id : ℕ) (node : NodeOf K LEN) (here : get a.nodes id ≡ Some node) (last : ℕ) (last_is : unbounded node ≡ Some last) where
  -- the only child stands
  pub only_stands : (cmp : K → K → Ordering) (level : ℕ) → Stands cmp (suc level) a None id None → (keyed node).entries ≡ [] → Stands cmp level a None last None
  only_stands cmp level s none =
      let node_is : s.node ≡ node = cc (s.here, here) in
      let same : s.last ≡ last = cc (s.last_is, ap unbounded node_is, last_is) in
      rw (node_is, none, same) at s.parted

  pub only_one : (only : HasOnlyRetired a id) → ((keyed node).entries ≡ []) × (only.0 ≡ last)
  only_one only = only_unbounded (keyed node).entries last only.0 (rw (here, last_is) at only.1.0)

module _ {K V : Type 0} {LEN : ℕ} (cmp : K → K → Ordering) (old new : TreeArenas K V LEN) (id last : ℕ) where
  module _ (result : RemoveResult) (part : IsPart cmp 1 old id) (only : IsOnlyRetired old id last) (drops : DropsUnbounded cmp 0 old new id last result) where
    abbrev st : Stands cmp 1 old None id None
    st = part.stands

    node_is : drops.takes.node ≡ st.node
    node_is = cc (drops.takes.was, drops.dropped.nodes_kept id (rw st.here refl) (times-nil id), st.here)

    no_keyed : (keyed drops.takes.node).entries ≡ []
    no_keyed = rw node_is (only_unbounded (keyed st.node).entries st.last last (rw (st.here, st.last_is) at only.0)).0

    retires : keyed drops.takes.left ≡ keyed drops.takes.node → unbounded drops.takes.left ≡ None → Retires old new id
    retires same gone =
        let none : (keyed drops.takes.left).entries ≡ [] = ap (λ (x : Arrivals K ℕ). x.entries) same ∙ no_keyed in
        let none_left : children_of new.nodes id ≡ [] = rw (drops.takes.updates.changed, none, gone) refl in
        record {
          only = (last, only);
          retired = rw drops.takes.updates.changed (none, gone);
          kind = rw drops.takes.updates.changed (drops.takes.kind 0 (rw node_is st.kind));
          replaces = (siblings {front = []} {back = []} part drops.dropped only.0 none_left drops.takes.updates.others (rw drops.takes.updates.changed refl) drops.leaves).lifts.replaces;
        }

  -- the node is retired then
  pub emptied : (result : RemoveResult) → IsPart cmp 1 old id → IsOnlyRetired old id last → DropsUnbounded cmp 0 old new id last result → RetiresIfEmpty old new id result
  emptied Success part only drops =
      let moves = drops.takes.moves in
      absurd (omega (arith, length-append moves.2 ((moves.0, moves.1) ∷ []), ap length moves.3, ap length (no_keyed Success part only drops)))
  emptied Retired part only drops = let moves = drops.takes.moves in retires Retired part only drops moves.1 moves.2
  emptied Fail part only drops = absurd drops.takes.moves
