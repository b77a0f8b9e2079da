-- A place among the children of a node: the child there is the first keyed one from there on, else the unbounded one.
use Rattle.std.proofs.Common.{◌≡◌, ℕ, suc, ◌<◌, Bool, true, false, List, [], ◌∷◌, ◌++◌, map, None, Option, Some, refl, sym, ap, ◌∙◌, arith, inl, inr, Ordering, Less}
use Rattle.tree_node.proofs.Common.{AllByRecursion, AllLarger, AreParted, IsAbove, IsAbsent, IsBelow, IsTotalOrder, IsUpTo, Stands, TreeArenas, all_yes, below_next, cases_Bool, cases_eq, child_at, children_of, is_from, keyed, less_from_test, none_here, parted_map, separators_around, times, times-cons, times-nil, upto_from_test, put, found_between, put_between}

module _ {K : Type 0} where
  -- the child at the place, and those behind it
  abbrev pub first_child : List (K × ℕ) → ℕ → ℕ
  first_child [] last = last
  first_child (c ∷ rest) last = c.1

  abbrev pub later_children : List (K × ℕ) → ℕ → List ℕ
  later_children [] last = []
  later_children (c ∷ rest) last = map (λ d. d.1) rest ++ last ∷ []

  -- the bounds of the child at the place
  abbrev pub low_at : Option K → List (K × ℕ) → Option K
  low_at low [] = low
  low_at low (c ∷ rest) = low_at (Some c.0) rest

  abbrev pub high_at : List (K × ℕ) → Option K → Option K
  high_at [] high = high
  high_at (c ∷ rest) high = Some c.0

  pub record IsAt (pairs : List (K × ℕ)) (last x : ℕ) : Type 0 where
    pub before : List (K × ℕ)
    pub onward : List (K × ℕ)
    pub split : pairs ≡ before ++ onward
    pub child : first_child onward last ≡ x

  -- each child has a place
  pub place_of : (pairs : List (K × ℕ)) (last x : ℕ) → 0 < times x (map (λ c. c.1) pairs ++ last ∷ []) → IsAt pairs last x
  place_of [] last x inside = grind (arith, times-cons, none_here, times-nil, cases_eq)
  place_of (c ∷ rest) last x inside = elim (cases_eq x c.1) [
    | inl same ↦ record { before = []; onward = c ∷ rest; split = refl; child = sym same }
    | inr differs ↦
        let later = place_of rest last x (omega (arith, inside, times-cons x c.1 (map (λ d. d.1) rest ++ last ∷ []), none_here x c.1 differs)) in
        record { before = c ∷ later.before; onward = later.onward; split = ap (λ xs. c ∷ xs) later.split; child = later.child }
  ]

  -- the children are those before the place, the one there, and those behind it
  pub children_at : (before onward : List (K × ℕ)) (last : ℕ) → map (λ c. c.1) (before ++ onward) ++ last ∷ [] ≡ map (λ c. c.1) before ++ (first_child onward last ∷ later_children onward last)
  children_at [] onward last = grind arith
  children_at (c ∷ rest) onward last = ap (λ xs. c.1 ∷ xs) (children_at rest onward last)

  -- so those of a node that stands
  pub children_around : {V : Type 0} {LEN : ℕ} {cmp : K → K → Ordering} (level : ℕ) (a : TreeArenas K V LEN) (low : Option K) (id : ℕ) (high : Option K)
      (s : Stands cmp (suc level) a low id high) (x : ℕ)
      → (at : IsAt (keyed s.node).entries s.last x) → children_of a.nodes id ≡ map (λ c. c.1) at.before ++ (x ∷ later_children at.onward s.last)
  children_around level a low id high s x at = rw (s.here, s.last_is, at.split, children_at at.before at.onward s.last, at.child) refl

  -- and a new one comes before it
  pub children_put : (before onward : List (K × ℕ)) (last : ℕ) (s : K) (y : ℕ)
      → map (λ c. c.1) (before ++ (s, y) ∷ onward) ++ last ∷ [] ≡ map (λ c. c.1) before ++ (y ∷ (first_child onward last ∷ later_children onward last))
  children_put before onward last s y = children_at before ((s, y) ∷ onward) last ∙ rw (children_at [] onward last) refl

  -- then a key belongs to the new one, or to the one that it belonged to
  pub routed_by : (test : K → Bool) (P : ℕ → Type 0) (before onward : List (K × ℕ)) (last : ℕ) (s : K) (y : ℕ) → (test s ≡ true → P y) → P (child_at test (before ++ onward) last)
      → P (child_at test (before ++ (s, y) ∷ onward) last)
  routed_by test P [] onward last s y new old = grind arith
  routed_by test P (c ∷ rest) onward last s y new old = grind (arith, routed_by test P rest onward last s y new)

  -- the child of a key whose test no separator before the place passes
  pub chosen_past : (test : K → Bool) (before onward : List (K × ℕ)) (last : ℕ) → AllByRecursion (λ c. test c.0 ≡ false) before → child_at test (before ++ onward) last ≡ child_at test onward last
  chosen_past test [] onward last none = refl
  chosen_past test (c ∷ rest) onward last none = rw none.0 (chosen_past test rest onward last none.1)

  module _ (cmp : K → K → Ordering) where
    -- the place of the child that a key belongs to
    pub record IsForKey (k : K) (pairs : List (K × ℕ)) (last x : ℕ) : Type 0 where
      pub at : IsAt pairs last x
      pub smaller : AllByRecursion (λ c. cmp c.0 k ≡ Less) at.before
      pub up_to : IsUpTo cmp k (high_at at.onward None)

    pub high_for : (k : K) (onward : List (K × ℕ)) (high : Option K) → IsUpTo cmp k (high_at onward None) → IsUpTo cmp k high
        → IsUpTo cmp k (high_at onward high)
    high_for k onward high first up_to = grind arith

    pub low_for : (k : K) (low : Option K) (before : List (K × ℕ)) → AllByRecursion (λ c. cmp c.0 k ≡ Less) before → IsAbove cmp low k → IsAbove cmp (low_at low before) k
    low_for k low [] smaller above = above
    low_for k low (c ∷ rest) smaller above = low_for k (Some c.0) rest smaller.1 smaller.0

module _ {K : Type 0} {cmp : K → K → Ordering} (o : IsTotalOrder cmp) where
  pub place_for : (k : K) (pairs : List (K × ℕ)) (last x : ℕ) → child_at (is_from cmp k) pairs last ≡ x → IsForKey cmp k pairs last x
  place_for k [] last x goes = record { at = record { before = []; onward = []; split = refl; child = goes }; smaller = tt; up_to = tt }
  place_for k (c ∷ rest) last x goes = elim (cases_Bool (is_from cmp k c.0)) [
    | inl from ↦ record { at = record { before = []; onward = c ∷ rest; split = refl; child = rw from at goes }; smaller = tt; up_to = upto_from_test o c.0 k from }
    | inr past ↦
        let later = place_for k rest last x (rw past at goes) in
        let at : IsAt (c ∷ rest) last x = record { before = c ∷ later.at.before; onward = later.at.onward; split = ap (λ xs. c ∷ xs) later.at.split; child = later.at.child } in
        record { at = at; smaller = (less_from_test o c.0 k past, later.smaller); up_to = later.up_to }
  ]

  module _ (A : Option K → ℕ → Option K → Type 0) where
    -- the child at the place stands between its bounds
    pub child_between : (low : Option K) (before onward : List (K × ℕ)) (last : ℕ) (high : Option K) → AreParted cmp A low (before ++ onward) last high
        → A (low_at low before) (first_child onward last) (high_at onward high)
    child_between low [] [] last high parted = parted
    child_between low [] (c ∷ rest) last high parted = parted.0
    child_between low (c ∷ rest) onward last high parted = child_between (Some c.0) rest onward last high parted.3

    -- the children stay parted where the one at the place gives its lower part to a new one before it
    pub parted_low : (B : Option K → ℕ → Option K → Type 0) (s : K) (y : ℕ) (low : Option K) (before onward : List (K × ℕ)) (last : ℕ) (high : Option K)
        → AreParted cmp A low (before ++ onward) last high
        → IsAbove cmp (low_at low before) s → IsBelow cmp s (high_at onward high)
        → AllByRecursion (λ x. (low high : Option K) → A low x high → B low x high) (map (λ c. c.1) before)
        → B (low_at low before) y (Some s) → B (Some s) (first_child onward last) (high_at onward high)
        → AllByRecursion (λ x. (low high : Option K) → A low x high → B low x high) (later_children onward last)
        → AreParted cmp B low (before ++ (s, y) ∷ onward) last high
    parted_low B s y low [] [] last high parted above below front lower upper back = (lower, above, below, upper)
    parted_low B s y low [] (c ∷ rest) last high parted above below front lower upper back = grind (arith, parted_map, below_next)
    parted_low B s y low (c ∷ rest) onward last high parted above below front lower upper back = grind (arith, parted_low B s y (Some c.0) rest onward last high)

    -- a separator between the bounds there is above each before it, and below each behind it
    module _ (s : K) (low : Option K) (before onward : List (K × ℕ)) (last : ℕ) (high : Option K) (parted : AreParted cmp A low (before ++ onward) last high)
        (above : IsAbove cmp (low_at low before) s) (below : IsBelow cmp s (high_at onward high)) where
      pub separators_beside : AllByRecursion (λ c. cmp c.0 s ≡ Less) before × AllLarger cmp s onward
      separators_beside =
          let Any : Option K → ℕ → Option K → Type 0 = λ low x high. Unit {0} in
          separators_around o Any low before s last onward last high
          (parted_low Any s last low before onward last high parted above below (all_yes (λ x low high st. tt) _) tt tt (all_yes (λ x low high st. tt) _))

      -- so it is absent, and put at the place
      pub separator_absent : IsAbsent cmp (before ++ onward) s
      separator_absent = found_between o s before [] onward separators_beside.0 separators_beside.1

      pub separator_put : (y : ℕ) → put cmp (before ++ onward) s y ≡ before ++ (s, y) ∷ onward
      separator_put y = put_between o s before [] onward separators_beside.0 separators_beside.1 y
