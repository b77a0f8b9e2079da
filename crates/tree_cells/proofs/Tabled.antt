-- The slots of an order and the pairs in them, and what stays of them as pairs come and go.
use Rattle.std.proofs.Common.{◌≡◌, ◌≢◌, ◌⊎◌, ℕ, zero, suc, ◌+◌, ◌<◌, ◌≤◌, List, [], ◌∷◌, ◌++◌, map, length, set, take, drop, slice_get, option_map, Option, None, Some, IsSome, Contains, refl, sym, ◌∙◌, ap, subst, inl, inr, arith, length-append, length-drop, length-set, get_or-set_same, get_or-set_other, take-append-drop, Ordering, Less, Equal, Greater}
use Rattle.tree_cells.proofs.Common.{AllByRecursion, IsAscending, IsTotalOrder, cases_eq, cases_lt, put, tied_itself, without, map-append, drop_at, drop-map, length-map}
use Rattle.tree_cells.proofs.Common.{length-take-le, take_at, take-map, Contains-append_cases, Contains-append_left, Contains-append_right, none-some, same_Some, slice_get-get_or}
use Rattle.tree_cells.proofs.Common.{slice_get_within, IsAscending-put, IsAscending-without, all_at, all_map, arrival, held, reachable, HasKey, Parts, IsInOrder, IsSetAt, IsTabled, IsLen}
use Rattle.tree_cells.proofs.Common.{places, same_lists, slice_get-map, edited, inserted, named, names, renamed, taken_out, slice_get-names}
use Rattle.tree_cells.proofs.Picks.{cases_option}
use Rattle.tree_cells.proofs.Sides.{one_entry, sides_key, sides_parts, put_is, split_at, without_is}

module _ {K V : Type 0} where
  reachable_some : (entries : List (K × V)) → reachable (map Some entries) ≡ entries
  reachable_some [] = refl
  reachable_some (e ∷ entries) = ap (λ (rest : List (K × V)). e ∷ rest) (reachable_some entries)

  pub held_is : (cells : List (Option (K × V))) (slots : List ℕ) (entries : List (K × V)) → map (arrival cells) slots ≡ map Some entries → held cells slots ≡ entries
  held_is cells slots entries stand = ap reachable stand ∙ reachable_some entries

  pub in_order_as : {cmp : K → K → Ordering} (cells : List (Option (K × V))) (slots : List ℕ) (entries : List (K × V)) → map (arrival cells) slots ≡ map Some entries → IsAscending cmp entries → IsInOrder cmp cells slots
  in_order_as cells slots entries stand ascend = grind (arith, held_is)

  -- a write, as a change of one arrival
  pub set_at : (cells : List (Option (K × V))) (n : ℕ) (o : Option (K × V)) → n < length cells → IsSetAt (arrival cells) (arrival (set cells n o)) n o
  set_at cells n o lt = record { here = get_or-set_same cells n o None lt; others = λ q differs. get_or-set_other cells n q o None differs }

-- ---- the places of slots in order
module _ {K V : Type 0} {cmp : K → K → Ordering} {cells : List (Option (K × V))} {slots : List ℕ} (it : IsInOrder cmp cells slots) where
  pub length-held : length (held cells slots) ≡ length slots
  length-held = omega (arith, ap length it.stand, length-map slots (arrival cells), length-map (held cells slots) (λ (e : K × V). Some e))

  pub stands : (i p : ℕ) → slice_get slots i ≡ Some p → (e : K × V) × (arrival cells p ≡ Some e) × (slice_get (held cells slots) i ≡ Some e)
  stands i p there =
      let same : Some (arrival cells p) ≡ option_map Some (slice_get (held cells slots) i) = rw (slice_get-map, there, slice_get-map) at (ap (λ (found : List (Option (K × V))). slice_get found i) it.stand) in
      elim (cases_option (slice_get (held cells slots) i)) [ inl none ↦ absurd (none-some _ (sym (rw none at same))) | inr (e, some) ↦ (e, same_Some _ _ (rw some at same), some) ]

  pub stands_some : (i p : ℕ) → slice_get slots i ≡ Some p → IsSome (arrival cells p)
  stands_some i p there = subst IsSome (sym (stands i p there).1) refl

  pub slot_there : (i : ℕ) (e : K × V) → slice_get (held cells slots) i ≡ Some e → (p : ℕ) × (slice_get slots i ≡ Some p) × (arrival cells p ≡ Some e)
  slot_there i e there =
      let lt : i < length slots = omega (arith, slice_get_within (held cells slots) i e there, length-held) in
      let at_slot = slice_get-get_or slots i 0 lt in
      let s = stands i _ at_slot in
      (_, at_slot, s.1 ∙ ap (λ (f : K × V). Some f) (same_Some s.0 e (sym s.2 ∙ there)))

module _ {K V : Type 0} {cmp : K → K → Ordering} (o : IsTotalOrder cmp) {cells : List (Option (K × V))} {slots : List ℕ} (it : IsInOrder cmp cells slots) where
  -- a slot stands at one place
  pub one_place : (i j p : ℕ) → slice_get slots i ≡ Some p → slice_get slots j ≡ Some p → i ≡ j
  one_place i j p at_i at_j =
      let s = stands it i p at_i in
      let t = stands it j p at_j in
      one_entry o (held cells slots) it.ascend i j s.0 t.0 s.2 t.2 (rw (same_Some s.0 t.0 (sym s.1 ∙ t.1)) (tied_itself o t.0.0))

-- the places of a word
module _ {K V : Type 0} {cmp : K → K → Ordering} {cells : List (Option (K × V))} (word count : ℕ) (it : IsInOrder cmp cells (names word count)) where
  pub place_stands : (i : ℕ) → i < count → (e : K × V) × (arrival cells (named word i) ≡ Some e) × (slice_get (held cells (names word count)) i ≡ Some e)
  place_stands i lt = stands it i (named word i) (slice_get-names word count i lt)

  pub places_apart : IsTotalOrder cmp → (i j : ℕ) → i < count → j < count → i ≢ j → named word i ≢ named word j
  places_apart o i j li lj differs same =
      differs (one_place o it i j (named word i) (slice_get-names word count i li) (slice_get-names word count j lj ∙ ap (λ (p : ℕ). Some p) (sym same)))

-- ---- arrivals and their slots
module _ {K V : Type 0} {cmp : K → K → Ordering} {len : ℕ} {cells : List (Option (K × V))} {slots : List ℕ} {made : ℕ} (it : IsTabled cmp len cells slots made) where
  pub listed_at : (p : ℕ) (e : K × V) → arrival cells p ≡ Some e → (i : ℕ) × (slice_get slots i ≡ Some p) × (slice_get (held cells slots) i ≡ Some e)
  listed_at p e some =
      let l = it.listed p e some in
      let there = slice_get-get_or slots l.0 p l.1 ∙ ap (λ (q : ℕ). Some q) l.2 in
      let s = stands it.in_order l.0 p there in
      (l.0, there, s.2 ∙ ap (λ (f : K × V). Some f) (same_Some s.0 e (sym s.1 ∙ some)))

  -- what holds of each entry holds of each arrival
  pub each_arrival : (P : K × V → Type 0) → AllByRecursion P (held cells slots) → (p : ℕ) (e : K × V) → arrival cells p ≡ Some e → P e
  each_arrival P all p e some = let l = listed_at p e some in all_at P (held cells slots) l.0 e all l.2

  -- two arrivals with equal keys are one
  pub one_arrival : IsTotalOrder cmp → (p q : ℕ) (e f : K × V) → arrival cells p ≡ Some e → arrival cells q ≡ Some f → cmp e.0 f.0 ≡ Equal → p ≡ q
  one_arrival o p q e f here there same = grind (arith, listed_at, same_Some, one_entry, it.in_order.ascend)

  pub early : (i p : ℕ) → slice_get slots i ≡ Some p → p < made
  early i p there = let s = stands it.in_order i p there in grind (arith, it.unmade p, s.1, cases_lt p made)

-- ---- a write to a cell
module _ {K V : Type 0} (cells : List (Option (K × V))) (p : ℕ) (o : Option (K × V)) where
  -- the slots of other pairs keep them
  kept : (slots : List ℕ) (entries : List (K × V)) → map (arrival cells) slots ≡ map Some entries → AllByRecursion (λ e. arrival cells p ≢ Some e) entries → map (arrival (set cells p o)) slots ≡ map Some entries
  kept [] entries stand apart = grind arith
  kept (q ∷ slots) [] stand apart = absurd (cc)
  kept (q ∷ slots) (e ∷ entries) stand apart = grind (arith, kept slots entries, apart.0, apart.1, get_or-set_other cells p q o None)

  -- so do those before a place n and from m on
  edited_stand : (slots : List ℕ) (entries : List (K × V)) (n m : ℕ) (others : List ℕ) (between : List (K × V)) → map (arrival cells) slots ≡ map Some entries
      → AllByRecursion (λ e. arrival cells p ≢ Some e) (take n entries) → AllByRecursion (λ e. arrival cells p ≢ Some e) (drop m entries) → map (arrival (set cells p o)) others ≡ map Some between
      → map (arrival (set cells p o)) (edited n m others slots) ≡ map Some (edited n m between entries)
  edited_stand slots entries n m others between stand low high middle =
      let front : map (arrival cells) (take n slots) ≡ map Some (take n entries) = sym (take-map (arrival cells) n slots) ∙ ap (take n) stand ∙ take-map (λ (e : K × V). Some e) n entries in
      let back : map (arrival cells) (drop m slots) ≡ map Some (drop m entries) = sym (drop-map (arrival cells) m slots) ∙ ap (drop m) stand ∙ drop-map (λ (e : K × V). Some e) m entries in
      map-append (arrival (set cells p o)) (take n slots) (others ++ drop m slots)
      ∙ rw (map-append (arrival (set cells p o)) others (drop m slots), kept (take n slots) (take n entries) front low, middle, kept (drop m slots) (drop m entries) back high)
      (sym (map-append (λ (e : K × V). Some e) (take n entries) (between ++ drop m entries) ∙ ap (λ (rest : List (Option (K × V))). map Some (take n entries) ++ rest) (map-append (λ (e : K × V). Some e) between (drop m entries))))

-- a slot stays listed, unless it is one of those between
still_listed : (slots old others : List ℕ) (n m q : ℕ) → slots ≡ edited n m old slots → Contains slots q → Contains old q ⊎ Contains (edited n m others slots) q
still_listed slots old others n m q whole there =
    let parts = Contains-append_cases (take n slots) (old ++ drop m slots) q (subst (λ (slots : List ℕ). Contains slots q) whole there) in
    let low = Contains-append_left (take n slots) (others ++ drop m slots) q in
    let high = Contains-append_right (take n slots) (others ++ drop m slots) q in
    grind (arith, parts, Contains-append_cases old (drop m slots) q, low, high, Contains-append_right others (drop m slots) q)

only : (p q : ℕ) → Contains (p ∷ []) q → q ≡ p
only p q (zero, lt, here) = sym here
only p q (suc i, lt, here) = absurd (omega arith)

-- an edit of what an edit left
pub edited_twice : {X : Type 0} (n : ℕ) (others xs : List X) → n ≤ length xs → edited n n others (taken_out n xs) ≡ edited n (n + 1) others xs
edited_twice n others xs le = same_lists _ _ (grind (arith, places)) (λ k d h. grind (arith, places))

module _ {K V : Type 0} {cmp : K → K → Ordering} (o : IsTotalOrder cmp) {len : ℕ} {cells : List (Option (K × V))} {slots : List ℕ} {made : ℕ} (it : IsTabled cmp len cells slots made) where
  -- a write to one cell, and an edit of the slots from the n-th up to the m-th, of which none but its own was one
  edited_tabled : (p : ℕ) (w : Option (K × V)) (made' n m : ℕ) (old others : List ℕ) (between entries : List (K × V)) → made ≤ made' → made' ≤ len → p < made' → n ≤ m → m ≤ length slots → length slots + (n + length others) ≤ made' + m
      → slots ≡ edited n m old slots → ((q : ℕ) → Contains old q → q ≡ p) → ((e : K × V) → w ≡ Some e → Contains others p)
      → AllByRecursion (λ e. arrival cells p ≢ Some e) (take n (held cells slots)) → AllByRecursion (λ e. arrival cells p ≢ Some e) (drop m (held cells slots)) → map (arrival (set cells p w)) others ≡ map Some between
      → entries ≡ edited n m between (held cells slots) → IsAscending cmp entries → IsTabled cmp len (set cells p w) (edited n m others slots) made' × (held (set cells p w) (edited n m others slots) ≡ entries)
  edited_tabled p w made' n m old others between entries more within' lt le within few whole alone own low high middle is ascend =
      let stand : map (arrival (set cells p w)) (edited n m others slots) ≡ map Some entries = rw is (edited_stand cells p w slots (held cells slots) n m others between it.in_order.stand low high middle) in (
        record {
          is_len = it.is_len;
          whole = length-set cells p w ∙ it.whole;
          few_made = within';
          few = omega (arith, length-append (take n slots) (others ++ drop m slots), length-append others (drop m slots), length-take-le n slots (omega arith), length-drop m slots);
          unmade = λ q le. let differs : q ≢ p = λ same. omega arith in get_or-set_other cells p q w None differs ∙ it.unmade q (omega arith);
          in_order = in_order_as (set cells p w) (edited n m others slots) entries stand ascend;
          listed = λ q e some.
              let here = Contains-append_right (take n slots) (others ++ drop m slots) p in
              let stays = still_listed slots old others n m q whole in
              grind (arith, here, Contains-append_left others (drop m slots) p, own e, get_or-set_same cells p w None, it.whole, stays, it.listed q e, get_or-set_other cells p q w None, alone q, cases_eq q p);
        },
        held_is (set cells p w) (edited n m others slots) entries stand,
      )

  -- ---- a pair whose key is new
  module _ (room : made < len) (key : K) (val : V) {place : ℕ} (parts : Parts cmp (held cells slots) key place) where
    pub added : IsTabled cmp len (set cells made (Some (key, val))) (inserted place made slots) (made + 1) × (held (set cells made (Some (key, val))) (inserted place made slots) ≡ put cmp (held cells slots) key val)
    added =
        let within : place ≤ length slots = omega (arith, parts.within, length-held it.in_order) in
        let free = λ (e : K × V) (some : arrival cells made ≡ Some e). none-some e (sym (it.unmade made (omega arith)) ∙ some) in
        edited_tabled made (Some (key, val)) (made + 1) place place [] (made ∷ []) ((key, val) ∷ []) _ (omega arith) (omega arith) (omega arith) (omega arith) within (omega (arith, it.few)) (sym (take-append-drop place slots)) (λ q none. absurd (omega (arith, none.1))) (λ e is. (0, omega arith, refl))
        (all_map (λ e h. free e) (take place (held cells slots)) parts.smaller) (all_map (λ e h. free e) (drop place (held cells slots)) parts.larger) (ap (λ (o : Option (K × V)). o ∷ []) (get_or-set_same cells made (Some (key, val)) None (omega (arith, it.whole)))) (put_is o (sides_parts o parts) val) (IsAscending-put o (held cells slots) key val it.in_order.ascend)

  -- ---- the slot of an entry
  module _ {i p : ℕ} (is : slice_get slots i ≡ Some p) {key : K} (has : HasKey cmp (held cells slots) key i) where
    pub its_pair : arrival cells p ≡ Some has.pair
    its_pair = let s = stands it.in_order i p is in s.1 ∙ ap (λ (e : K × V). Some e) (same_Some s.0 has.pair (sym s.2 ∙ has.there))

    -- the entries on either side are other pairs
    other_pair : (e : K × V) → cmp key e.0 ≢ Equal → arrival cells p ≢ Some e
    other_pair e differs some = differs (rw (← same_Some has.pair e (sym its_pair ∙ some)) has.same)

    -- another pair, or none, is written to its cell
    rewritten : (w : Option (K × V)) (others : List ℕ) (between entries : List (K × V)) → length others ≤ 1 → ((e : K × V) → w ≡ Some e → Contains others p) → map (arrival (set cells p w)) others ≡ map Some between → entries ≡ edited i (i + 1) between (held cells slots) → IsAscending cmp entries
        → IsTabled cmp len (set cells p w) (edited i (i + 1) others slots) made × (held (set cells p w) (edited i (i + 1) others slots) ≡ entries)
    rewritten w others between entries few own middle edit ascend =
        let s = sides_key o it.in_order.ascend has in
        edited_tabled p w made i (i + 1) (p ∷ []) others between entries (omega arith) it.few_made (early it i p is) (omega arith) (omega (arith, slice_get_within slots i p is)) (omega (arith, it.few)) (split_at slots i p is) (only p) own
        (all_map (λ e h. other_pair e (λ same. let q : Greater ≡ Equal = sym h ∙ same in absurd (cc))) (take i (held cells slots)) s.smaller) (all_map (λ e h. other_pair e (λ same. let q : Less ≡ Equal = sym h ∙ same in absurd (cc))) (drop (i + 1) (held cells slots)) s.larger) middle edit ascend

    pub spent : IsTabled cmp len (set cells p None) (taken_out i slots) made × (held (set cells p None) (taken_out i slots) ≡ without cmp (held cells slots) key)
    spent = rewritten None [] [] _ (omega arith) (λ e is. absurd (none-some e is)) refl (without_is o (sides_key o it.in_order.ascend has)) (IsAscending-without o (held cells slots) key it.in_order.ascend)

    -- the key parts what is left
    pub spent_parts : Parts cmp (held (set cells p None) (taken_out i slots)) key i
    spent_parts =
        let s = sides_key o it.in_order.ascend has in
        let entries = held cells slots in
        let whole = length-take-le i entries (omega (arith, slice_get_within entries i has.pair has.there)) in
        rw (spent.1 ∙ without_is o s) record {
          within = omega (arith, length-append (take i entries) (drop (i + 1) entries), whole);
          smaller = rw (take_at (take i entries) (drop (i + 1) entries) i whole) s.smaller;
          larger = rw (drop_at (take i entries) (drop (i + 1) entries) i whole) s.larger;
        }

    -- another value is written to its cell
    valued : (new : V) → IsTabled cmp len (set cells p (Some (key, new))) slots made × (held (set cells p (Some (key, new))) slots ≡ put cmp (held cells slots) key new)
    valued new =
        let here = get_or-set_same cells p (Some (key, new)) None (omega (arith, early it i p is, it.few_made, it.whole)) in
        rw (sym (split_at slots i p is)) at (rewritten (Some (key, new)) (p ∷ []) ((key, new) ∷ []) _ (omega arith) (λ e is. (0, omega arith, refl)) (ap (λ (o : Option (K × V)). o ∷ []) here) (put_is o (sides_key o it.in_order.ascend has) new) (IsAscending-put o (held cells slots) key new it.in_order.ascend))

module _ {K V : Type 0} {cmp : K → K → Ordering} (o : IsTotalOrder cmp) {len : ℕ} {cells : List (Option (K × V))} {slots : List ℕ} {made : ℕ} (it : IsTabled cmp len cells slots made) where
  -- ---- a pair whose key stands at a place
  module _ (room : made < len) {i p : ℕ} (is : slice_get slots i ≡ Some p) (key : K) (val : V) (has : HasKey cmp (held cells slots) key i) where
    again : edited i i (made ∷ []) (taken_out i slots) ≡ renamed i made slots
    again = edited_twice i (made ∷ []) slots (omega (arith, slice_get_within slots i p is))

    pub moved : IsTabled cmp len (set (set cells p None) made (Some (key, val))) (renamed i made slots) (made + 1) × (held (set (set cells p None) made (Some (key, val))) (renamed i made slots) ≡ put cmp (held cells slots) key val)
    moved =
        let s = sides_key o it.in_order.ascend has in
        let gone = spent o it is has in
        let left = spent_parts o it is has in
        let back = added o gone.0 room key val left in (
          subst (λ (slots : List ℕ). IsTabled cmp len (set (set cells p None) made (Some (key, val))) slots (made + 1)) again back.0,
          ap (held (set (set cells p None) made (Some (key, val)))) (sym again) ∙ back.1
              ∙ put_is o (sides_parts o left) val ∙ ap (edited i i ((key, val) ∷ [])) (gone.1 ∙ without_is o s)
              ∙ edited_twice i ((key, val) ∷ []) (held cells slots) (omega (arith, slice_get_within (held cells slots) i has.pair has.there)) ∙ sym (put_is o s val),
        )

  -- ---- a value that is replaced
  module _ (p : ℕ) (key : K) (old new : V) (there : arrival cells p ≡ Some (key, old)) where
    pub replaced : IsTabled cmp len (set cells p (Some (key, new))) slots made × (held (set cells p (Some (key, new))) slots ≡ put cmp (held cells slots) key new)
    replaced = let l = listed_at it p (key, old) there in valued o it l.1 record { pair = (key, old); there = l.2; same = tied_itself o key } new

-- cells that hold no pair
pub none_tabled : {K V : Type 0} (cmp : K → K → Ordering) (len made : ℕ) (cells : List (Option (K × V))) → IsLen len → length cells ≡ len → made ≤ len → ((p : ℕ) → arrival cells p ≡ None) → IsTabled cmp len cells [] made
none_tabled cmp len made cells is_len whole few none = record {
  is_len = is_len;
  whole = whole;
  few_made = few;
  few = omega arith;
  unmade = λ p le. none p;
  in_order = record { stand = refl; ascend = tt };
  listed = λ p e some. absurd (none-some e (sym (none p) ∙ some));
}
