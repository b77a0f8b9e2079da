-- The ordinals that an order gives, and the count of ascents by them.
use Rattle.std.proofs.Common.{◌≡◌, ◌≢◌, ◌⊎◌, ℕ, zero, suc, ◌+◌, ◌<◌, List, slice_get, Option, Some, None, refl, sym, ◌∙◌, ap, inl, inr, arith, Ordering, Less, Equal, Greater, ◌≤◌, [], ◌∷◌, map}
use Rattle.tree_cells.proofs.Common.{IsTotalOrder, cases_eq, cases_lt, cases_order, tied_itself, nat_cmp_is, same_Some, greater_from_less, arrival, held, IsTabled}
use Rattle.tree_cells.proofs.Common.{named, names, ordinal_in, ordinal_here, ordinal_before, length-names, named_at, range_with_len, reachable, ascents, picked, rises_from, rises_in}
use Rattle.tree_cells.proofs.Common.{rises_down, rises_up}
use Rattle.std.specs.Ordering.{nat_cmp}
use Rattle.tree_cells.proofs.Picks.{cases_option}
use Rattle.tree_cells.proofs.Sides.{ascending_at}
use Rattle.tree_cells.proofs.Tabled.{listed_at, place_stands}

-- an ordinal for each reachable arrival and for no other, at most `made`, in the order of the keys
pub record HasOrdinals {K V : Type 0} (cmp : K → K → Ordering) (pick : ℕ → Option (K × V)) (ordinal : ℕ → ℕ) (made : ℕ) : Type 0 where
  pub spent : (p : ℕ) → pick p ≡ None → ordinal p ≡ 0
  pub some : (p : ℕ) (e : K × V) → pick p ≡ Some e → 0 < ordinal p
  pub bound : (p : ℕ) (e : K × V) → pick p ≡ Some e → ordinal p ≤ made
  pub order : (p q : ℕ) (e f : K × V) → pick p ≡ Some e → pick q ≡ Some f → cmp e.0 f.0 ≡ nat_cmp (ordinal p) (ordinal q)

-- a slot with an ordinal is named by a place, and no place names another
ordinal_found : (name : ℕ → ℕ) (n p : ℕ) → ((ordinal_in name n p ≡ 0) × ((i : ℕ) → i < n → name i ≢ p)) ⊎ ((i : ℕ) × (i < n) × (name i ≡ p) × (ordinal_in name n p ≡ i + 1))
ordinal_found name zero p = inl (refl, λ i lt. absurd (omega arith))
ordinal_found name (suc n) p = elim (cases_eq (name n) p) [
  | inl here ↦ inr (n, omega arith, here, ordinal_here name n p here)
  | inr differs ↦ elim (ordinal_found name n p) [
    | inl (none, away) ↦ inl (ordinal_before name n p differs ∙ none, λ i lt. elim (cases_eq i n) [ inl last ↦ rw last differs | inr early ↦ away i (omega arith) ])
    | inr (i, lt, is, ordinal) ↦ inr (i, omega arith, is, ordinal_before name n p differs ∙ ordinal)
  ]
]

module _ {K V : Type 0} {cmp : K → K → Ordering} (o : IsTotalOrder cmp) {len : ℕ} {cells : List (Option (K × V))} {made : ℕ} (word count : ℕ) (it : IsTabled cmp len cells (names word count) made) where
  abbrev ordinal : ℕ → ℕ
  ordinal p = ordinal_in (named word) count p

  ordinal_listed : (p : ℕ) (e : K × V) → arrival cells p ≡ Some e → (i : ℕ) × (i < count) × (slice_get (held cells (names word count)) i ≡ Some e) × (ordinal p ≡ i + 1)
  ordinal_listed p e some = elim (ordinal_found (named word) count p) [
    | inl (none, away) ↦ let l = listed_at it p e some in let i = named_at word count l.0 p l.1 in absurd (away l.0 i.0 i.1)
    | inr (i, lt, is, numbered) ↦
        let s = place_stands word count it.in_order i lt in
        (i, lt, s.2 ∙ ap (λ (e : K × V). Some e) (same_Some s.0 e (sym s.1 ∙ ap (arrival cells) is ∙ some)), numbered)
  ]

  -- a slot with an ordinal holds a pair, and one without an ordinal holds none
  pub live_some : (p : ℕ) → 0 < ordinal_in (named word) count p → (e : K × V) × (arrival cells p ≡ Some e)
  live_some p pos = elim (ordinal_found (named word) count p) [
    | inl (none, away) ↦ absurd (omega arith)
    | inr (i, lt, is, numbered) ↦ let s = place_stands word count it.in_order i lt in (s.0, ap (arrival cells) (sym is) ∙ s.1)
  ]

  pub live_none : (p : ℕ) → ordinal_in (named word) count p ≡ 0 → arrival cells p ≡ None
  live_none p no_ordinal = elim (cases_option (arrival cells p)) [ inl none ↦ none | inr (e, some) ↦ absurd (omega (arith, ordinal_listed p e some)) ]

  pub ordinals_of : HasOrdinals cmp (arrival cells) (ordinal_in (named word) count) made
  ordinals_of = record {
    spent = λ p none. grind (arith, live_some p, none, cases_lt 0 (ordinal p));
    some = λ p e some. omega (arith, (ordinal_listed p e some).3);
    bound = λ p e some. omega (arith, (ordinal_listed p e some).1, (ordinal_listed p e some).3, it.few, length-names word count);
    order = λ p q e f here there.
        let i = ordinal_listed p e here in
        let j = ordinal_listed q f there in
        let entries = held cells (names word count) in
        let less = ascending_at cmp entries it.in_order.ascend in
        let counts = nat_cmp_is (i.0 + 1) (j.0 + 1) in
        grind (arith, i.2, i.3, j.2, j.3, cases_order i.0 j.0, less i.0 j.0 e f, less j.0 i.0 f e, greater_from_less o f.0 e.0, tied_itself o f.0, counts Equal, counts Less, counts Greater);
  }

-- ---- the count of ascents by ordinals
module _ {K V : Type 0} {cmp : K → K → Ordering} {pick : ℕ → Option (K × V)} {ordinal : ℕ → ℕ} {made : ℕ} (it : HasOrdinals cmp pick ordinal made) where
  -- a pair ascends to the next where the ordinals do
  counted : (ps : List ℕ) (p : ℕ) (e : K × V) → pick p ≡ Some e → rises_from (ordinal p) (map ordinal ps) ≡ ascents cmp (e ∷ reachable (map pick ps))
  counted [] p e there = refl
  counted (q ∷ ps) p e there =
      grind (arith, counted ps, it.spent q, it.some q, it.order p q, rises_down, rises_up, cases_option (pick q), cases_order (ordinal p) (ordinal q), nat_cmp_is)

  -- no ordinal is larger than 15, so the first one is no rise
  pub counted_all : made ≤ 15 → rises_in ordinal made ≡ ascents cmp (reachable (picked pick made))
  counted_all few = go (range_with_len 0 made)
    where
      go : (ps : List ℕ) → rises_from 15 (map ordinal ps) ≡ ascents cmp (reachable (map pick ps))
      go [] = refl
      go (q ∷ ps) = grind (arith, go ps, it.spent q, it.some q, it.bound q, rises_down 15 (ordinal q) (map ordinal ps), counted ps q, cases_option (pick q))
