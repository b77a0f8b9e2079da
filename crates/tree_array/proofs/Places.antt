-- The place of a key among the entries.
use Rattle.std.proofs.Common.{◌≡◌, ℕ, ◌+◌, ◌≤◌, true, false, List, ◌++◌, take, drop, length, refl, sym, ap, arith, append-nil, take-append-drop, Ordering, Less, Equal, Greater, is_lt, is_ge}
use Rattle.std.proofs.lemmas.Option.{slice_get_within}
use Rattle.tree_array.proofs.Common.{HasKey, IsAscending, IsTotalOrder, all_map, filter_all, filter_none, greater_from_less, less_from_greater, tied_back}
use Rattle.tree_array.specs.Spans.{PartsAt}
use Rattle.tree_cells.proofs.Lemmas.{Parts, from_place}
use Rattle.tree_cells.proofs.Sides.{sides_key}
use Rattle.tree_model.proofs.Common.{below, filter-append}

not_less : (o : Ordering) → is_ge o ≡ true → is_lt o ≡ false
not_less Less h = absurd (cc)
not_less Equal h = refl
not_less Greater h = refl

module _ {K V : Type 0} {cmp : K → K → Ordering} (o : IsTotalOrder cmp) {entries : List (K × V)} {key : K} {place : ℕ} where
  -- the place of an absent key, and of one that is there
  pub parts_absent : place ≤ length entries → Parts cmp entries key place → PartsAt cmp key entries place
  parts_absent within parts = record {
    within = within;
    smaller = all_map (λ e. less_from_greater o key e.0) (take place entries) parts.smaller;
    others = all_map (λ e larger. ap is_ge (greater_from_less o key e.0 larger)) (drop place entries) parts.larger;
  }

  pub parts_present : IsAscending cmp entries → HasKey cmp entries key place → PartsAt cmp key entries place
  parts_present ascending has =
      let sides = sides_key o ascending has in
      record {
        within = omega (arith, slice_get_within entries place has.pair has.there);
        smaller = all_map (λ e. less_from_greater o key e.0) (take place entries) sides.smaller;
        others = rw (from_place entries place has.pair has.there)
            (ap is_ge (tied_back o key has.pair.0 has.same), all_map (λ e larger. ap is_ge (greater_from_less o key e.0 larger)) (drop (place + 1) entries) sides.larger);
      }

  -- the entries below the key are those before its place
  pub below_place : PartsAt cmp key entries place → take place entries ≡ below cmp entries key
  below_place parts =
      let whole : entries ≡ take place entries ++ drop place entries = sym (take-append-drop place entries) in
      let more = all_map (λ (e : K × V). not_less (cmp e.0 key)) (drop place entries) parts.others in
      grind (arith, whole, filter-append, filter_all, all_map, parts.smaller, filter_none, more, append-nil)
