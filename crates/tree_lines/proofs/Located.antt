-- Where a key is among ascending pairs, as a line tells it.
use Rattle.std.proofs.Common.{◌≡◌, ℕ, suc, ◌-◌, ◌==◌, Bool, true, false, if◌then◌else◌, List, [], ◌∷◌, ◌++◌, length, slice_get, Option, Some, None, refl, sym, ap, ◌∙◌, subst, append-nil, length-append, arith, codes, is_some, is_gt, is_lt, is_eq, nat_cmp, Ordering, Less, Equal, Greater}
use Rattle.tree_model.proofs.Common.{AllByRecursion, nat_tests, nat_cmp_total, tied_back, AllLarger, IsAscending, above, below, pair_at, Cursor, at_place, shown, unopened}
use Rattle.tree_model.specs.declared.way.Way.TheVariants.{On, Back}
use Rattle.std.specs.Option.{option_map_or}
use Rattle.tree_model.proofs.Lists.{all_map, filter_all, filter_none, find_none}
use Rattle.tree_model.proofs.Order.{alike, greater_from_less, less_from_greater}
use Rattle.tree_model.specs.declared.proximity.ProximityOf.{ProximityOf}
use Rattle.tree_model.specs.declared.proximity.ProximityOf.TheVariants.{Exact, Between, Smaller, Larger, Empty}
use Rattle.tree_model.specs.Cursor.{with_ends}
use Rattle.tree_model.specs.Located.{located, located_at}
use Rattle.tree_lines.specs.Spelling.{behind_spaces}
use Rattle.tree_lines.specs.Lines.{beside_text, first_pair, last_pair, near_text, pair_text}
use Rattle.tree_lines.specs.Pairs.{listed, told_text}

-- what a line tells of the cursor that stands there
abbrev pub located_text : ProximityOf (Cursor ℕ ℕ) → List ℕ
located_text (Exact c) = told_text (codes "exact") (shown nat_cmp On c) None
located_text (Between c) = told_text (codes "between") (shown nat_cmp On c) (shown nat_cmp Back c)
located_text (Smaller c) = told_text (codes "smaller") None (shown nat_cmp Back c)
located_text (Larger c) = told_text (codes "larger") (shown nat_cmp On c) None
located_text Empty = codes "empty"

-- the cursor goes through these pairs
abbrev pub GoesThrough : List (ℕ × ℕ) → ProximityOf (Cursor ℕ ℕ) → Type 0
GoesThrough l (Exact c) = c.pairs ≡ l
GoesThrough l (Between c) = c.pairs ≡ l
GoesThrough l (Smaller c) = c.pairs ≡ l
GoesThrough l (Larger c) = c.pairs ≡ l
GoesThrough l Empty = l ≡ []

nothing : (l : List (ℕ × ℕ)) → (length l == 0) ≡ true → l ≡ []
nothing [] none = refl
nothing (x ∷ l) none = absurd (grind (arith, nat_tests, none))

goes_by : (l : List (ℕ × ℕ)) (n : ℕ) (present none first all : Bool) → ((none ≡ true) → l ≡ []) → GoesThrough l (if none then Empty else if present then Exact (with_ends l (at_place n) unopened) else if first then Larger (with_ends l (at_place 0) unopened) else if all then Smaller (with_ends l unopened (at_place (n - 1))) else Between (with_ends l (at_place (n - 1)) (at_place n)))
goes_by l n present true first all empty = empty refl
goes_by l n true false first all empty = refl
goes_by l n false false true all empty = refl
goes_by l n false false false true empty = refl
goes_by l n false false false false empty = refl

pub goes_through : (l : List (ℕ × ℕ)) (k : ℕ) → GoesThrough l (located nat_cmp l k)
goes_through l k = goes_by l _ _ (length l == 0) _ _ (nothing l)

-- ascending pairs are the smaller ones, then that of the key, then the larger ones
module _ (k : ℕ) where
  abbrev Parted : List (ℕ × ℕ) → Type 0
  Parted l = l ≡ below nat_cmp l k ++ (listed (pair_at nat_cmp l k) ++ above nat_cmp l k)

  abbrev AreOver : List (ℕ × ℕ) → Type 0
  AreOver l = AllByRecursion (λ pair. nat_cmp pair.0 k ≡ Greater) l

  over_equal : (x : ℕ × ℕ) (xs : List (ℕ × ℕ)) → AllLarger nat_cmp x.0 xs → nat_cmp x.0 k ≡ Equal → AreOver xs
  over_equal x xs larger same = all_map (λ (q : ℕ × ℕ) (later : nat_cmp x.0 q.0 ≡ Less). greater_from_less nat_cmp_total k q.0 (alike nat_cmp_total k x.0 q.0 Less (tied_back nat_cmp_total x.0 k same) later)) xs larger

  over_greater : (x : ℕ × ℕ) (xs : List (ℕ × ℕ)) → AllLarger nat_cmp x.0 xs → nat_cmp x.0 k ≡ Greater → AreOver xs
  over_greater x xs larger greater = all_map (λ (q : ℕ × ℕ) (later : nat_cmp x.0 q.0 ≡ Less). greater_from_less nat_cmp_total k q.0 (nat_cmp_total.trans k x.0 q.0 (less_from_greater nat_cmp_total x.0 k greater) later)) xs larger

  none_under : (xs : List (ℕ × ℕ)) → AreOver xs → below nat_cmp xs k ≡ []
  none_under xs over = filter_none _ xs (all_map (λ (q : ℕ × ℕ) (e : nat_cmp q.0 k ≡ Greater). ap is_lt e) xs over)

  none_there : (xs : List (ℕ × ℕ)) → AreOver xs → pair_at nat_cmp xs k ≡ None
  none_there xs over = find_none _ xs (all_map (λ (q : ℕ × ℕ) (e : nat_cmp q.0 k ≡ Greater). ap is_eq e) xs over)

  all_over : (xs : List (ℕ × ℕ)) → AreOver xs → above nat_cmp xs k ≡ xs
  all_over xs over = filter_all _ xs (all_map (λ (q : ℕ × ℕ) (e : nat_cmp q.0 k ≡ Greater). ap is_gt e) xs over)

  parted_by : (r : Ordering) (x : ℕ × ℕ) (xs : List (ℕ × ℕ)) → nat_cmp x.0 k ≡ r → AllLarger nat_cmp x.0 xs → Parted xs → Parted (x ∷ xs)
  parted_by Less x xs is larger parts = rw is (ap (λ l. x ∷ l) parts)
  parted_by Equal x xs is larger parts =
      let over = over_equal x xs larger is in
      rw (is, none_under xs over, all_over xs over) refl
  parted_by Greater x xs is larger parts =
      let over = over_greater x xs larger is in
      rw (is, none_under xs over, none_there xs over, all_over xs over) refl

  parted : (l : List (ℕ × ℕ)) → IsAscending nat_cmp l → Parted l
  parted [] ascending = refl
  parted (x ∷ xs) ascending = parted_by (nat_cmp x.0 k) x xs refl ascending.0 (parted xs ascending.1)

get_seam : {X : Type 0} (xs : List X) (y : X) (ys : List X) → slice_get (xs ++ y ∷ ys) (length xs) ≡ Some y
get_seam [] y ys = refl
get_seam (x ∷ xs) y ys = get_seam xs y ys

get_front : {X : Type 0} (xs : List X) (y : X) (ys : List X) → slice_get ((y ∷ xs) ++ ys) (length xs) ≡ slice_get (y ∷ xs) (length xs)
get_front [] y ys = refl
get_front (x ∷ xs) y ys = get_front xs x ys

-- a list has a last element
get_last : (x : ℕ × ℕ) (xs : List (ℕ × ℕ)) → (y : ℕ × ℕ) × (slice_get (x ∷ xs) (length xs) ≡ Some y)
get_last x [] = (x, refl)
get_last x (y ∷ xs) = get_last y xs

-- by the pairs before the key and behind it
near_of : (a b : List (ℕ × ℕ)) (found : Option (ℕ × ℕ)) → located_text (located_at (a ++ (listed found ++ b)) (length a) (is_some found)) ≡ option_map_or (λ pair. codes "exact" ++ behind_spaces (pair_text pair ∷ [])) found (beside_text (last_pair a) (first_pair b))
near_of a b (Some pair) =
    let some : (length (a ++ (pair ∷ b)) == 0) ≡ false = grind (arith, nat_tests, length-append a (pair ∷ b)) in
    rw (some, get_seam a pair b) refl
near_of [] [] None = refl
near_of [] (y ∷ b) None =
    let some : (suc (length b) == 0) ≡ false = grind (arith, nat_tests) in
    rw some refl
near_of (x ∷ a) [] None =
    let some : (suc (length a) == 0) ≡ false = grind (arith, nat_tests) in
    let all : (suc (length a) == suc (length a)) ≡ true = grind (arith, nat_tests) in
    let before : suc (length a) - 1 ≡ length a = omega arith in
    let last = get_last x a in
    rw (append-nil a, some, all, before, last.1) refl
near_of (x ∷ a) (y ∷ b) None =
    let some : (suc (length (a ++ y ∷ b)) == 0) ≡ false = grind (arith, nat_tests) in
    let later : (suc (length a) == 0) ≡ false = grind (arith, nat_tests) in
    let not_all : (suc (length a) == suc (length (a ++ y ∷ b))) ≡ false = grind (arith, nat_tests, length-append a (y ∷ b)) in
    let before : suc (length a) - 1 ≡ length a = omega arith in
    let last = get_last x a in
    rw (some, later, not_all, before, get_front a x (y ∷ b), get_seam a y b, last.1) refl

pub near_located : (l : List (ℕ × ℕ)) (k : ℕ) → IsAscending nat_cmp l → located_text (located nat_cmp l k) ≡ near_text l k
near_located l k ascending =
    let same = parted k l ascending in
    subst (λ t. located_text (located_at t (length (below nat_cmp l k)) (is_some (pair_at nat_cmp l k))) ≡ near_text l k) (sym same) (near_of (below nat_cmp l k) (above nat_cmp l k) (pair_at nat_cmp l k))

-- the same of what a search told
pub tells_near : (l : List (ℕ × ℕ)) (k : ℕ) (told : ProximityOf (Cursor ℕ ℕ)) → told ≡ located nat_cmp l k → (GoesThrough l told → IsAscending nat_cmp l) → located_text told ≡ near_text l k
tells_near l k told is ascends = ap located_text is ∙ near_located l k (ascends (subst (GoesThrough l) (sym is) (goes_through l k)))
