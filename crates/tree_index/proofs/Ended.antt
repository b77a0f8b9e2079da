-- What a pair that was taken out leaves of a list: the first one, the last one, or the one at a key.
use Rattle.std.proofs.Common.{◌≡◌, ℕ, suc, ◌-◌, arith, MatchOption, List, [], ◌∷◌, ◌++◌, length, Option, Some, None, refl, sym, ap, ◌∙◌, append-nil, Ordering, Equal, is_lt, is_gt}
use Rattle.tree_model.proofs.Common.{IsTotalOrder, alike_right, tied_itself, IsAbsent, IsAscending, pair_at, without}
use Rattle.tree_leaf.proofs.ChainCommon.{first_of, last_of}
use Rattle.tree_model.proofs.Ascending.{without_first}
use Rattle.tree_model.proofs.Lists.{filter_same}
use Rattle.tree_model.proofs.LookUps.{found_first}
use Rattle.tree_node.proofs.Between.{found_between, without_between}
use Rattle.tree_node.proofs.Cuts.{smaller_front}
use Rattle.tree_remove.proofs.EntryPlaces.{pair_alike}
use Rattle.tree_remove.specs.declared.entries.EntryPlace.{EntryPlace}
use Rattle.tree_root.specs.declared.tree.Tree.{Tree}
use Rattle.tree_root.specs.Trees.{IsStored, pairs_of}
use Rattle.tree_root.proofs.Taken.{stored_found}

-- a list with a last element
last_split : {X : Type 0} (xs : List X) (x : X) → last_of xs ≡ Some x → (front : List X) × (xs ≡ front ++ x ∷ [])
last_split [] x h = absurd (cc)
last_split (y ∷ []) x h = let same : y ≡ x = cc in ([], ap (λ z. z ∷ []) same)
last_split {X} (y ∷ (z ∷ xs)) x h =
    let before : length (y ∷ (z ∷ xs)) - 1 ≡ suc (length (z ∷ xs) - 1) = omega arith in
    let rest = last_split (z ∷ xs) x (rw before at h) in
    (y ∷ rest.0, ap (λ (zs : List X). y ∷ zs) rest.1)

-- a list without a first or a last element is empty
pub none_first_of : {X : Type 0} (xs : List X) → first_of xs ≡ None → xs ≡ []
none_first_of [] none = refl
none_first_of (x ∷ xs) none = absurd (cc)

pub none_last_of : {X : Type 0} (xs : List X) → last_of xs ≡ None → xs ≡ []
none_last_of [] none = refl
none_last_of (x ∷ []) none = absurd (cc)
none_last_of (x ∷ (y ∷ xs)) none =
    let before : length (x ∷ (y ∷ xs)) - 1 ≡ suc (length (y ∷ xs) - 1) = omega arith in
    absurd (let rest = none_last_of (y ∷ xs) (rw before at none) in cc)

module _ {K V : Type 0} {cmp : K → K → Ordering} (o : IsTotalOrder cmp) where
  -- either of two equal keys
  pub without_alike : (key alike : K) → cmp key alike ≡ Equal → (pairs : List (K × V)) → without cmp pairs key ≡ without cmp pairs alike
  without_alike key alike same pairs =
      rw (
        filter_same (λ pair. is_lt (cmp pair.0 key)) (λ pair. is_lt (cmp pair.0 alike)) (λ pair. ap is_lt (alike_right o key alike pair.0 same)) pairs,
        filter_same (λ pair. is_gt (cmp pair.0 key)) (λ pair. is_gt (cmp pair.0 alike)) (λ pair. ap is_gt (alike_right o key alike pair.0 same)) pairs,
      ) refl

  -- a pair that is found at its own key is the one that is found at an equal key
  pub found_alike : (pairs : List (K × V)) (pair other : K × V) → cmp pair.0 other.0 ≡ Equal → pair_at cmp pairs pair.0 ≡ Some pair → pair_at cmp pairs other.0 ≡ Some other → pair ≡ other
  found_alike pairs pair other same found there =
      let both : Some pair ≡ Some other = sym found ∙ pair_alike o pair.0 other.0 same pairs ∙ there in
      cc

  without_last : (front : List (K × V)) (p : K × V) → IsAscending cmp (front ++ p ∷ []) → without cmp (front ++ p ∷ []) p.0 ≡ front
  without_last front p ascending =
      without_between o p.0 front (p ∷ []) [] (smaller_front cmp front p [] ascending) tt ∙ rw (tied_itself o p.0) (append-nil front)

  -- the first pair is found at its key, and so is the last
  pub first_found : (pairs : List (K × V)) (p : K × V) → first_of pairs ≡ Some p → pair_at cmp pairs p.0 ≡ Some p
  first_found [] p first = absurd (cc)
  first_found (q ∷ qs) p first = let is : q ≡ p = cc in ap (λ (r : K × V). pair_at cmp (q ∷ qs) r.0) (sym is) ∙ found_first o q qs ∙ ap Some is

  pub last_found : (pairs : List (K × V)) (p : K × V) → IsAscending cmp pairs → last_of pairs ≡ Some p → pair_at cmp pairs p.0 ≡ Some p
  last_found pairs p ascending last =
      let split = last_split pairs p last in
      rw split.1 (found_between o p.0 split.0 (p ∷ []) [] (smaller_front cmp split.0 p [] (rw split.1 at ascending)) tt ∙ found_first o p [])

  -- the pair that was taken out
  module _ (old new : List (K × V)) (ascending : IsAscending cmp old) (taken : K × V) (left : new ≡ without cmp old taken.0) where
    pub first_gone : first_of old ≡ Some taken → old ≡ taken ∷ new
    first_gone first = by_list old refl
      where
        by_list : (pairs : List (K × V)) → old ≡ pairs → old ≡ taken ∷ new
        by_list [] is = absurd (let none : None ≡ Some taken = rw is at first in cc)
        by_list (p ∷ ps) is =
            let both : Some p ≡ Some taken = rw is at first in
            let is_taken : taken ≡ p = cc in
            let tail : new ≡ ps = left ∙ ap (λ (l : List (K × V)). without cmp l taken.0) is ∙ ap (λ (r : K × V). without cmp (p ∷ ps) r.0) is_taken ∙ without_first o p ps (rw is at ascending) in
            is ∙ ap (λ (r : K × V). r ∷ ps) (sym is_taken) ∙ ap (λ (rest : List (K × V)). taken ∷ rest) (sym tail)

    pub last_gone : last_of old ≡ Some taken → old ≡ new ++ taken ∷ []
    last_gone last =
        let split = last_split old taken last in
        let front : new ≡ split.0 = left ∙ ap (λ (l : List (K × V)). without cmp l taken.0) split.1 ∙ without_last split.0 taken (rw split.1 at ascending) in
        split.1 ∙ ap (λ (front : List (K × V)). front ++ taken ∷ []) (sym front)

  -- the place of a pair of which B holds
  pub stored_where : {LEN : ℕ} (tree : Tree K V LEN) (result : Option EntryPlace) (pair : K × V) (A : Type 0) (B : K × V → Type 0) → B pair → pair_at cmp (pairs_of tree) pair.0 ≡ Some pair
      → MatchOption result (IsAbsent cmp (pairs_of tree) pair.0) (λ place. (found : K × V) × (cmp found.0 pair.0 ≡ Equal) × IsStored cmp tree place found)
      → MatchOption result A (λ place. (found : K × V) × B found × IsStored cmp tree place found)
  stored_where tree None pair A B holds there absent = absurd (let clash : None ≡ Some pair = sym absent ∙ there in cc)
  stored_where tree (Some place) pair A B holds there found =
      let same : found.0 ≡ pair = found_alike (pairs_of tree) found.0 pair found.1 (stored_found cmp tree place found.0 found.2) there in
      (found.0, rw same holds, found.2)
