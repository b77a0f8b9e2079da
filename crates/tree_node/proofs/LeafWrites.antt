-- A leaf whose array is written and whose links stay.
use Rattle.std.proofs.Common.{◌≡◌, ℕ, List, [], ◌∷◌, Option, Some, None, is_some, refl, ap, ◌∙◌, arith, inl, inr}
use Rattle.tree_node.proofs.Common.{Arrivals, LeafOf, Replaces, TreeArenas, Updates, Updates-with_value, cases_eq, get, one_here, same_array_refl, times-cons, uses, uses_same, with_value, AreLinked}

-- the arenas with another array in the leaf
abbrev pub with_array : {K V : Type 0} {LEN : ℕ} → TreeArenas K V LEN → ℕ → LeafOf K V LEN → Arrivals K V → TreeArenas K V LEN
with_array a id leaf array = record a { leaves = with_value a.leaves id (record leaf { array = array }) }

module _ {K V : Type 0} {LEN : ℕ} (a : TreeArenas K V LEN) (id : ℕ) (leaf : LeafOf K V LEN) (array : Arrivals K V) (was : get a.leaves id ≡ Some leaf) where
  pub updated : Updates a.leaves (with_array a id leaf array).leaves id (Some (record leaf { array = array }))
  updated = Updates-with_value a.leaves id (record leaf { array = array }) (rw was refl)

  -- the leaf is there with its new array
  pub here_now : get (with_array a id leaf array).leaves id ≡ Some (record leaf { array = array })
  here_now = updated.changed

  chain_stays : (before : Option ℕ) (ids : List ℕ) (after : Option ℕ) → AreLinked a.leaves before ids after → AreLinked (with_array a id leaf array).leaves before ids after
  chain_stays before [] after linked = tt
  chain_stays before (n ∷ rest) after linked =
      let later = chain_stays (Some n) rest after linked.1 in
      elim (cases_eq n id) [ inl same ↦ (rw (same, updated.changed) (rw (same, was) at linked.0), later) | inr differs ↦ (rw (updated.others n differs) linked.0, later) ]

  uses_stay : (n : ℕ) → uses (with_array a id leaf array).leaves n ≡ uses a.leaves n
  uses_stay n = uses_same _ _ n (elim (cases_eq n id) [ inl same ↦ rw (same, updated.changed, was) refl | inr differs ↦ ap is_some (updated.others n differs) ])

  -- the leaf has become the leaf, and nothing else has changed
  pub array_replaces : Replaces 0 a (with_array a id leaf array) (id ∷ []) (id ∷ [])
  array_replaces = record {
    nodes_kept = λ n used outside. refl;
    leaves_kept = λ n used outside.
        rw (updated.others n (λ same. omega (arith, times-cons n id [], one_here n id same, outside))) (same_array_refl (get a.leaves n));
    links_kept = λ n other apart. updated.others n (λ same. omega (arith, times-cons n id [], one_here n id same, apart.outside)) ∙ apart.here;
    nodes_counted = λ n. refl;
    leaves_counted = λ n. rw (uses_stay n) refl;
    chained = λ front back chain. record { once = λ n. rw (uses_stay n) (chain.once n); linked = chain_stays None _ None chain.linked };
  }
