-- What a walk has passed that stands beside a key: the entries that come before the key on its way.
use Rattle.tree_leaf.proofs.ChainCommon.{◌≡◌, ℕ, List, ◌++◌, length, drop, take, reverse, Option, sym, ap, ◌∙◌, arith, reverse-append, Back, On, Way, ahead, along, place_ahead, places_behind}
use Rattle.std.proofs.Common.{filter, is_gt, is_lt, not, take-append-drop}
use Rattle.std.specs.declared.cmp.Ordering.{Ordering}
use Rattle.std.specs.declared.ops.Bound.TheVariants.{Included}
use Rattle.tree_array.proofs.Common.{filter_same}
use Rattle.tree_model.proofs.Common.{IsTotalOrder, above, below, meets}
use Rattle.tree_model.proofs.Order.{greater_from_less, less_from_greater}

module _ {K V : Type 0} {cmp : K → K → Ordering} (o : IsTotalOrder cmp) (key : K) (entries : List (K × V)) (at : Option ℕ) where
  -- on its way a walk that stands here has passed the entries that don't meet the key, and the others lie ahead of it
  abbrev pub HasPassed : Way → Type 0
  HasPassed way = along way entries ≡ along way (filter (λ pair. not (meets cmp way (Included key) pair.0)) entries) ++ ahead way entries at

  pub passed_smaller : take (place_ahead at) entries ≡ below cmp entries key → HasPassed On
  passed_smaller passed =
      let same = filter_same (λ (pair : K × V). is_lt (cmp pair.0 key)) (λ pair. not (meets cmp On (Included key) pair.0)) (λ pair. grind (arith, greater_from_less o pair.0 key, less_from_greater o key pair.0)) entries in
      sym (take-append-drop (place_ahead at) entries) ∙ ap (λ (xs : List (K × V)). xs ++ drop (place_ahead at) entries) (passed ∙ same)

  pub passed_larger : drop (places_behind (length entries) at) entries ≡ above cmp entries key → HasPassed Back
  passed_larger passed =
      let n = places_behind (length entries) at in
      let same = filter_same (λ (pair : K × V). is_gt (cmp pair.0 key)) (λ pair. not (meets cmp Back (Included key) pair.0)) (λ pair. grind arith) entries in
      ap reverse (sym (take-append-drop n entries)) ∙ reverse-append (take n entries) (drop n entries) ∙ ap (λ (xs : List (K × V)). reverse xs ++ reverse (take n entries)) (passed ∙ same)
