-- The entries on either side of a key.
use Rattle.std.proofs.Common.{◌-◌, ◌≡◌, ℕ, ◌+◌, ◌<◌, ◌≤◌, false, List, [], ◌∷◌, ◌++◌, take, drop, slice_get, length-take, length-drop, get_or-take, get_or-drop, None, Some, refl, sym, ◌∙◌, ap, subst, inl, inr, arith, append-nil, take-append-drop, Ordering, Less, Equal, Greater, is_eq}
use Rattle.tree_cells.proofs.Common.{IsTotalOrder, AllByRecursion, IsAscending, cases_order, filter-append, pair_at, put, tied_back, without, above, below, drop_more, get_or_from_slice_get}
use Rattle.tree_cells.proofs.Common.{slice_get_within, all_at, all_map, all-append, filter_all, filter_none, find_after, find_none, greater_from_less}
use Rattle.tree_cells.proofs.Common.{recursion_from_All, slice_get-get_or, less_from_greater, HasKey, IsPlace, Parts, Before, edited}

module _ {X : Type 0} (P : X → Type 0) where
  pub all_before : (xs : List X) (n : ℕ) → ((i : ℕ) (x : X) → i < n → slice_get xs i ≡ Some x → P x) → AllByRecursion P (take n xs)
  all_before xs n each = recursion_from_All P (take n xs) (λ k d lt. each k _ (omega (arith, lt, length-take n xs)) (slice_get-get_or xs k d (omega (arith, lt, length-take n xs)) ∙ ap (λ (x : X). Some x) (sym (get_or-take n xs k d (omega (arith, lt, length-take n xs))))))

  pub all_behind : (xs : List X) (n : ℕ) → ((i : ℕ) (x : X) → n ≤ i → slice_get xs i ≡ Some x → P x) → AllByRecursion P (drop n xs)
  all_behind xs n each = recursion_from_All P (drop n xs) (λ k d lt. each (n + k) _ (omega arith) (slice_get-get_or xs (n + k) d (omega (arith, lt, length-drop n xs)) ∙ ap (λ (x : X). Some x) (sym (get_or-drop n xs k d))))

module _ {X : Type 0} (xs : List X) (i : ℕ) (x : X) (there : slice_get xs i ≡ Some x) where
  -- a list by its element at a place
  pub from_place : drop i xs ≡ x ∷ drop (i + 1) xs
  from_place = drop_more xs i x (slice_get_within xs i x there) ∙ ap (λ (y : X). y ∷ drop (i + 1) xs) (get_or_from_slice_get xs i x x there)

  pub split_at : xs ≡ edited i (i + 1) (x ∷ []) xs
  split_at = sym (take-append-drop i xs) ∙ ap (λ (rest : List X). take i xs ++ rest) from_place

module _ {K V : Type 0} (cmp : K → K → Ordering) where
  pub ascending_at : (entries : List (K × V)) → IsAscending cmp entries → (i j : ℕ) (e f : K × V) → i < j → slice_get entries i ≡ Some e → slice_get entries j ≡ Some f → cmp e.0 f.0 ≡ Less
  ascending_at [] h i j e f lt at_i at_j = absurd (cc)
  ascending_at (x ∷ entries) h i j e f lt at_i at_j =
      grind (arith, all_at (λ g. cmp x.0 g.0 ≡ Less) entries (j - 1) f h.0, ascending_at entries h.1 (i - 1) (j - 1) e f)

module _ {K V : Type 0} {cmp : K → K → Ordering} (o : IsTotalOrder cmp) where
  -- entries with equal keys stand at one place
  pub one_entry : (entries : List (K × V)) → IsAscending cmp entries → (i j : ℕ) (e f : K × V) → slice_get entries i ≡ Some e → slice_get entries j ≡ Some f → cmp e.0 f.0 ≡ Equal → i ≡ j
  one_entry entries h i j e f at_i at_j same = grind (arith, ascending_at, greater_from_less, cases_order)

  -- the entries before n are smaller than a key, those between have it, and those from m on are larger
  pub record AreSides (entries : List (K × V)) (key : K) (n m : ℕ) (between : List (K × V)) : Type 0 where
    pub whole : entries ≡ edited n m between entries
    pub smaller : AllByRecursion (λ e. cmp key e.0 ≡ Greater) (take n entries)
    pub equal : AllByRecursion (λ e. cmp key e.0 ≡ Equal) between
    pub larger : AllByRecursion (λ e. cmp key e.0 ≡ Less) (drop m entries)

  pub sides_parts : {entries : List (K × V)} {key : K} {place : ℕ} → Parts cmp entries key place → AreSides entries key place place []
  sides_parts {entries} {key} {place} parts = record { whole = sym (take-append-drop place entries); smaller = parts.smaller; equal = tt; larger = parts.larger }

  pub sides_key : {entries : List (K × V)} {key : K} {place : ℕ} → IsAscending cmp entries → (has : HasKey cmp entries key place) → AreSides entries key place (place + 1) (has.pair ∷ [])
  sides_key {entries} {key} {place} h has = record {
    whole = split_at entries place has.pair has.there;
    smaller = all_before _ entries place (λ i e lt there. o.congr key has.pair.0 e.0 has.same ∙ greater_from_less o e.0 has.pair.0 (ascending_at cmp entries h i place e has.pair lt there has.there));
    equal = (has.same, tt);
    larger = all_behind _ entries (place + 1) (λ i e le there. o.congr key has.pair.0 e.0 has.same ∙ ascending_at cmp entries h place i has.pair e (omega arith) has.there there);
  }

  module _ {entries : List (K × V)} {key : K} {n m : ℕ} {between : List (K × V)} (s : AreSides entries key n m between) where
    pub below_is : below cmp entries key ≡ take n entries
    below_is =
        grind (arith, s.whole, filter-append, filter_all, all_map, less_from_greater, s.smaller, filter_none, tied_back, s.equal, greater_from_less, s.larger, append-nil)

    pub above_is : above cmp entries key ≡ drop m entries
    above_is =
        grind (arith, s.whole, filter-append, filter_none, all_map, less_from_greater, s.smaller, tied_back, s.equal, filter_all, greater_from_less, s.larger)

    -- so an edit there puts a pair, or leaves its key out
    pub put_is : (val : V) → put cmp entries key val ≡ edited n m ((key, val) ∷ []) entries
    put_is val = rw (below_is, above_is) refl

    pub without_is : without cmp entries key ≡ edited n m [] entries
    without_is = rw (below_is, above_is) refl

  -- no entry has a key that parts them
  pub others : {entries : List (K × V)} {key : K} {place : ℕ} → Parts cmp entries key place → AllByRecursion (λ e. is_eq (cmp e.0 key) ≡ false) entries
  others {entries} {key} {place} parts =
      subst (AllByRecursion (λ e. is_eq (cmp e.0 key) ≡ false)) (take-append-drop place entries)
      (all-append _ (take place entries) (drop place entries)
      (all_map (λ e h. ap is_eq (less_from_greater o key e.0 h)) (take place entries) parts.smaller)
      (all_map (λ e h. ap is_eq (greater_from_less o key e.0 h)) (drop place entries) parts.larger))

  pub parts_none : {entries : List (K × V)} {key : K} {place : ℕ} → Parts cmp entries key place → pair_at cmp entries key ≡ None
  parts_none {entries} parts = find_none _ entries (others parts)

  -- the next entry is larger
  pub next_larger : {entries : List (K × V)} {key : K} {place : ℕ} → Parts cmp entries key place → (e : K × V) → slice_get entries place ≡ Some e → cmp key e.0 ≡ Less
  next_larger {entries} {key} {place} parts e there = (subst (AllByRecursion (λ e. cmp key e.0 ≡ Less)) (from_place entries place e there) parts.larger).0

  -- the entry that has the key is what a look-up finds
  pub key_found : (entries : List (K × V)) → IsAscending cmp entries → {key : K} {place : ℕ} → (has : HasKey cmp entries key place) → pair_at cmp entries key ≡ Some has.pair
  key_found entries h {key} {place} has =
      let s = sides_key h has in
      ap (λ (entries : List (K × V)). pair_at cmp entries key) s.whole
      ∙ find_after _ (take place entries) (has.pair ∷ drop (place + 1) entries) (find_none _ (take place entries) (all_map (λ e h. ap is_eq (less_from_greater o key e.0 h)) (take place entries) s.smaller))
      ∙ rw (tied_back o key has.pair.0 has.same) refl

-- a key that comes before a place, or behind all, is none of the entries'
pub before_none : {K V : Type 0} {cmp : K → K → Ordering} (o : IsTotalOrder cmp) (entries : List (K × V)) (key : K) (slots : List ℕ) (place slot : ℕ) → IsPlace cmp entries key slots (Before place slot) → pair_at cmp entries key ≡ None
before_none o entries key slots place slot (inl (parts, there)) = parts_none o parts
before_none o entries key slots place slot (inr (past, is, parts)) = parts_none o parts
