-- A leaf that gives its first entries to a new one before it.
use Rattle.std.proofs.Common.{◌≡◌, ℕ, ◌+◌, ◌-◌, ◌<◌, ◌≤◌, ◌==◌, ◌^◌, true, cond, ◌⊎◌, List, [], ◌∷◌, ◌++◌, length, take, drop, slice_get, Option, Some, None, IsSome, refl, sym, ap, ◌∙◌, arith, append_assoc, inl, inr, Ordering, Less, Equal, length-take, length-drop, take-append-drop}
use Rattle.tree_split.proofs.Common.{AllByRecursion, AllLarger, Arrivals, GivesFirst, HasChildFor, IsAbove, IsAscending, IsBelow, IsChain, IsCut, IsPacked, IsPart, IsSound, IsTotalOrder, IsUpTo, LeafOf, Replaces, SplitsLow, TreeArenas, all-append, all_behind, all_front, all_map, alike, alike_after, array_replaces, cases_eq, cut_whole, get, here_now, in_order, is_from, leaf_entries, length-map, less_upto, none_here, one_here, one_power, packed_in_order, room, same_array_uses, spare_anew, spare_beside, tied_back, times, times-cons, unchanged_by_keeping, unchanged_replaces, updated, upto_from_less, uses, uses_none, uses_some, walk, walk-leaf, with_array}
use Rattle.slab.specs.Slab.{HasRoomFor}
use Rattle.tree_leaf.proofs.Rooms.{rewritten}
use Rattle.tree_leaf.specs.Arena.{HasPlaces, KeepsBoth}
use Rattle.tree_leaf.specs.Links.{GainsBefore}
use Rattle.tree_split.specs.DividesLeaf.{DividesLeaf}
use Rattle.tree_node.proofs.Beside.{not_before}
use Rattle.tree_node.proofs.Cuts.{ascending_behind, ascending_front, cut_with, smaller_front}
use Rattle.tree_node.proofs.Steps.{replaces_trans}
use Rattle.tree_node.specs.Tree.{LeafStands}

-- the key is between these bounds
abbrev pub IsBetween : {K : Type 0} → (K → K → Ordering) → K → Option K → Option K → Type 0
IsBetween cmp key low high = IsAbove cmp low key × IsUpTo cmp key high

-- a leaf that was added before another one
module _ {K V : Type 0} {LEN : ℕ} (old new : TreeArenas K V LEN) (x y : ℕ) (leaf : LeafOf K V LEN) (gains : GainsBefore old new x y leaf) where
  not_new : (n : ℕ) → IsSome (get old.leaves n) → n ≡ y → ⊥
  not_new n used same = let none : get old.leaves n ≡ None = rw same gains.was_free in cc (rw none at used)

  uses_now : (n : ℕ) → uses new.leaves n ≡ uses old.leaves n + cond (y == n) 1 0
  uses_now n = elim (cases_eq n y) [
    | inl same ↦ omega (arith, uses_some new.leaves n (rw (same, gains.here) refl), uses_none old.leaves n (rw same gains.was_free), one_here n y same)
    | inr differs ↦ omega (arith, same_array_uses old.leaves new.leaves n (gains.kept n differs), none_here n y differs)
  ]

  gained_replaces : (front back : List ℕ) → IsChain old.leaves (front ++ x ∷ back) → Replaces 0 old new (x ∷ []) (y ∷ (x ∷ []))
  gained_replaces front back chain = record {
    nodes_kept = λ n used outside. rw gains.nodes refl;
    leaves_kept = λ n used outside. gains.kept n (not_new n used);
    links_kept = λ n other apart.
        let itself : 1 ≤ times x (x ∷ []) = omega (arith, times-cons x x [], one_here x x refl) in
        gains.others n (not_new n (rw apart.here refl)) (λ same. omega (arith, times-cons n x [], one_here n x same, apart.outside))
        (not_before old.leaves n other apart.here front x back chain gains.after gains.was (x ∷ []) itself apart)
        ∙ apart.here;
    nodes_counted = λ n. rw gains.nodes refl;
    leaves_counted = λ n. omega (arith, uses_now n, times-cons n x [], times-cons n y (x ∷ []));
    chained = gains.chained;
  }

-- The steps: places are reserved, the leaf keeps its last entries, and the new one with the first is added.
module _ {K V : Type 0} {LEN : ℕ} (old reserved : TreeArenas K V LEN) (x count : ℕ) (leaf : LeafOf K V LEN) (high : Arrivals K V)
    (keeps : KeepsBoth old reserved) (there : get reserved.leaves x ≡ Some leaf) where
  written : Replaces 0 old (with_array reserved x leaf high) (x ∷ []) (x ∷ [])
  written =
      replaces_trans 0 old reserved (with_array reserved x leaf high) (x ∷ []) (x ∷ []) (x ∷ [])
      (unchanged_replaces 0 old reserved (unchanged_by_keeping old reserved keeps) (x ∷ [])) (array_replaces reserved x leaf high there)

  -- the write takes none of the room that was reserved
  pub room_after_write : HasPlaces reserved 1 0 → HasRoomFor (with_array reserved x leaf high).leaves 1
  room_after_write places =
      let room = rewritten reserved.leaves x (record leaf { array = high }) (rw there refl) in
      omega (arith, room.counted, places.leaves)

  -- a chain that ran through the leaf does so still
  pub chain_through : (front back : List ℕ) → IsChain old.leaves (front ++ x ∷ back) → IsChain (with_array reserved x leaf high).leaves (front ++ x ∷ back)
  chain_through front back chain = written.chained front back chain

  pub leaf_divided : (mid : TreeArenas K V LEN) (y : ℕ) (low : LeafOf K V LEN) → high ≡ in_order (drop count leaf.array.entries)
      → low.array ≡ in_order (take count leaf.array.entries) → GainsBefore (with_array reserved x leaf high) mid x y low
      → (front back : List ℕ) → IsChain old.leaves (front ++ x ∷ back) → DividesLeaf old mid x count y
  leaf_divided mid y low high_is low_is gains front back chain =
      let same = unchanged_by_keeping old reserved keeps in
      let now = here_now reserved x leaf high there in
      let apart : x ≡ y → ⊥ = λ at_y. cc (now, rw (← at_y) at gains.was_free) in
      let stays = rw now at (gains.kept x apart) in
      let added = gained_replaces (with_array reserved x leaf high) mid x y low gains front back (chain_through front back chain) in
      record {
        leaf = leaf;
        low = record low { prev = gains.after.prev; next = Some x };
        high = stays.0;
        was = sym (same.leaves x) ∙ there;
        was_free = sym (same.leaves y) ∙ sym ((updated reserved x leaf high there).others y (λ at_x. apart (sym at_x))) ∙ gains.was_free;
        low_here = gains.here;
        high_here = stays.1;
        low_is = low_is;
        high_is = stays.2 ∙ high_is;
        replaces = replaces_trans 0 old (with_array reserved x leaf high) mid (x ∷ []) (x ∷ []) (y ∷ (x ∷ [])) written added;
        nodes = λ n. rw gains.nodes (same.nodes n);
      }

-- the new leaf has the first entries
pub entries_given : {K V : Type 0} {LEN : ℕ} {old mid : TreeArenas K V LEN} {x count y : ℕ} → DividesLeaf old mid x count y → count ≤ length (leaf_entries old.leaves x)
    → GivesFirst old mid x count
entries_given {count = count} {y = y} d within = (
  y,
  d.was_free,
  rw (d.low_here, d.low_is) (omega (arith, length-take count d.leaf.array.entries, rw d.was at within)),
  rw (d.was, d.low_here, d.high_here, d.low_is, d.high_is) (sym (take-append-drop count d.leaf.array.entries)),
)

-- The leaf of a key was divided, and the separator is a clone of the last of the first entries, which make room for the key.
pub record IsParted {K V : Type 0} {LEN : ℕ} (cmp : K → K → Ordering) (key : K) (old mid : TreeArenas K V LEN) (id x count y : ℕ) (separator : K) : Type 0 where
  pub part : IsPart cmp 1 old id
  pub which : HasChildFor cmp key (get old.nodes id) x
  pub d : DividesLeaf old mid x count y
  pub sound : IsSound cmp LEN d.leaf.array
  pub pair : K × V
  pub last_low : slice_get d.leaf.array.entries (count - 1) ≡ Some pair
  pub cloned : cmp pair.0 separator ≡ Equal
  pub cut : IsCut cmp key count d.leaf.array.entries

module _ {K V : Type 0} {LEN : ℕ} {cmp : K → K → Ordering} (o : IsTotalOrder cmp) {old mid : TreeArenas K V LEN} {id x y count : ℕ} {separator key : K}
    (p : IsParted cmp key old mid id x count y separator) where
  open p use {d}

  abbrev lower : List (K × V)
  lower = take (count - 1) d.leaf.array.entries

  abbrev upper : List (K × V)
  upper = drop count d.leaf.array.entries

  next : count - 1 + 1 ≡ count
  next = omega (arith, p.cut.some)

  whole : d.leaf.array.entries ≡ lower ++ (p.pair ∷ upper)
  whole = cut_whole d.leaf.array.entries (count - 1) p.pair p.last_low ∙ ap (λ n. lower ++ (p.pair ∷ drop n d.leaf.array.entries)) next

  low_entries : d.low.array.entries ≡ lower ++ p.pair ∷ []
  low_entries = rw d.low_is (ap (λ n. take n d.leaf.array.entries) (sym next) ∙ cut_with d.leaf.array.entries (count - 1) p.pair p.last_low)

  high_entries : d.high.array.entries ≡ upper
  high_entries = rw d.high_is refl

  -- what is larger than the pair is larger than the separator
  separator_below : (k : K) → cmp p.pair.0 k ≡ Less → cmp separator k ≡ Less
  separator_below k less = alike o separator p.pair.0 k Less (tied_back o p.pair.0 separator p.cloned) less

  -- a key that is larger than all of the leaf is larger than the separator
  pub past : AllByRecursion (λ q. cmp q.0 key ≡ Less) d.leaf.array.entries → cmp separator key ≡ Less
  past beyond = separator_below key (all_behind _ lower (p.pair ∷ upper) (rw whole at beyond)).0

  few : length d.leaf.array.entries ≤ LEN
  few = omega (arith, p.sound.entries_few, p.sound.few)

  -- at some bounds of the leaf
  module _ (below above : Option K) (s : LeafStands cmp old.leaves below x above) where
    is_leaf : s.leaf ≡ d.leaf
    is_leaf = cc (s.here, d.was)

    ascends : IsAscending cmp (lower ++ (p.pair ∷ upper))
    ascends = rw (is_leaf, whole) at s.ascending

    all_above : AllByRecursion (λ q. IsAbove cmp below q.0) (lower ++ (p.pair ∷ upper))
    all_above = rw (is_leaf, whole) at s.above

    upper_up_to : AllByRecursion (λ q. IsUpTo cmp q.0 above) upper
    upper_up_to = (all_behind _ lower (p.pair ∷ upper) (rw (is_leaf, whole) at s.up_to)).1

    upper_larger : AllLarger cmp p.pair.0 upper
    upper_larger = (ascending_behind cmp lower (p.pair ∷ upper) ascends).0

    above_low : IsAbove cmp below separator
    above_low = by_bound below (all_behind _ lower (p.pair ∷ upper) all_above).0
      where
        by_bound : (bound : Option K) → IsAbove cmp bound p.pair.0 → IsAbove cmp bound separator
        by_bound None h = tt
        by_bound (Some b) h = alike_after o p.pair.0 separator b Less p.cloned h

    below_high : IsUpTo cmp key above → IsBelow cmp separator above
    below_high up_to = by_bound above up_to upper_up_to p.cut.stays
      where
        first_larger : (bound : K) (rest : List (K × V)) → AllLarger cmp p.pair.0 rest → AllByRecursion (λ q. IsUpTo cmp q.0 (Some bound)) rest
            → 0 < length rest → cmp separator bound ≡ Less
        first_larger bound [] larger bounded some = absurd (omega (arith, some))
        first_larger bound (q ∷ rest) larger bounded some = less_upto o separator q.0 bound (separator_below q.0 larger.0) bounded.0

        by_bound : (bound : Option K) → IsUpTo cmp key bound → AllByRecursion (λ q. IsUpTo cmp q.0 bound) upper
            → (count < length d.leaf.array.entries) ⊎ AllByRecursion (λ q. cmp q.0 key ≡ Less) d.leaf.array.entries → IsBelow cmp separator bound
        by_bound None up bounded stays = tt
        by_bound (Some bound) up bounded (inl some) = first_larger bound upper upper_larger bounded (simp length-drop (omega (arith, some)))
        by_bound (Some bound) up bounded (inr beyond) = less_upto o separator key bound (past beyond) up

  pub leaf_splits_low : SplitsLow cmp (IsBetween cmp key) 0 old mid x y separator
  leaf_splits_low = record {
    pairs =
        rw (walk-leaf old x d.leaf d.was, walk-leaf mid y d.low d.low_here, walk-leaf mid x d.high d.high_here, d.high_is, d.low_is)
        (take-append-drop count d.leaf.array.entries);
    separates = λ below above within s. (above_low below above s, below_high below above s within.1);
    lower = λ below above within s.
        let again : (lower ++ p.pair ∷ []) ++ upper ≡ lower ++ (p.pair ∷ upper) = simp append_assoc in
        let front = smaller_front cmp lower p.pair upper (ascends below above s) in
        let smaller = all_map (λ q less. upto_from_less o q.0 separator (alike_after o p.pair.0 separator q.0 Less p.cloned less)) lower front in
        record {
          leaf = d.low;
          here = d.low_here;
          few = rw d.low_is (omega (arith, length-take count d.leaf.array.entries, few));
          ascending = rw low_entries (ascending_front cmp (lower ++ p.pair ∷ []) upper (rw again (ascends below above s)));
          above = rw low_entries (all_front _ (lower ++ p.pair ∷ []) upper (rw again (all_above below above s)));
          up_to = rw low_entries (all-append _ lower (p.pair ∷ []) smaller (rw p.cloned refl, tt));
        };
    upper = λ below above within s. record {
      leaf = d.high;
      here = d.high_here;
      few = rw (high_entries, length-drop count d.leaf.array.entries) (omega (arith, few));
      ascending = rw high_entries (ascending_behind cmp lower (p.pair ∷ upper) (ascends below above s)).1;
      above = rw high_entries (all_map (λ q less. separator_below q.0 less) upper (upper_larger below above s));
      up_to = rw high_entries (upper_up_to below above s);
    };
    replaces = d.replaces;
    spares =
        let was = spare_beside old x d.leaf d.was p.sound.entries_few p.sound.few in
        let low = spare_anew mid y d.low (take count d.leaf.array.entries) d.low_here d.low_is in
        let high = spare_anew mid x d.high upper d.high_here d.high_is in
        omega (arith, p.cut.within, length-take count d.leaf.array.entries, length-drop count d.leaf.array.entries, was, low, high);
  }

  -- the leaf has room now
  pub high_room : 0 < room 0 mid x
  high_room = rw (d.high_here, d.high_is, length-map upper Some, length-drop count d.leaf.array.entries) (omega (arith, few, p.cut.some, p.cut.within))

  -- and so has the new one, where the key goes there
  pub low_room : is_from cmp key separator ≡ true → 0 < room 0 mid y
  low_room from =
      rw (d.low_here, d.low_is, length-map (take count d.leaf.array.entries) Some, length-take count d.leaf.array.entries)
      (elim p.cut.stays [ inl some ↦ omega (arith, some, few) | inr beyond ↦ absurd (cc (rw (past beyond) at from)) ])

  -- all its entries go from the last leaf of a packed part
  pub edge_goes_on : IsPacked cmp (Some key) 0 old x → count ≡ LEN
      → (length (walk 0 mid y) ≡ LEN ^ 1) × IsPacked cmp (Some key) 0 mid x × (cmp separator key ≡ Less)
  edge_goes_on e all =
      let same : e.leaf ≡ d.leaf = cc (e.here, d.was) in
      let smaller : AllByRecursion (λ q. cmp q.0 key ≡ Less) d.leaf.array.entries = rw same at e.ends in
      let left = (all_behind _ lower (p.pair ∷ upper) (rw whole at smaller)).1 in (
        rw (walk-leaf mid y d.low d.low_here, d.low_is, one_power LEN) (omega (arith, length-take count d.leaf.array.entries, p.cut.within, few, all)),
        record { leaf = d.high; here = d.high_here; packed = packed_in_order o d.high.array upper d.high_is; ends = rw high_entries left },
        past smaller,
      )
