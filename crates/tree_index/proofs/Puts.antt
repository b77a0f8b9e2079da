-- Pairs that are put one after another, in ascending order too.
use Rattle.std.proofs.Common.{◌≡◌, List, [], ◌∷◌, ◌++◌, refl, sym, subst, ap, ◌∙◌, append_assoc, append-nil, Result, Ok, Err, Option, IsErrAnd, Ordering, Less}
use Rattle.tree_model.proofs.Common.{AllByRecursion, IsAscending, put}
use Rattle.std.specs.Iterator.{Yields}
use Rattle.std.proofs.lemmas.List.Sums.{fold_push}
use Rattle.tree_node.proofs.Cuts.{ascending_front, smaller_front}
use Rattle.tree_model.proofs.LookUps.{put_beyond}
use Rattle.tree_index.specs.Collects.{puts}

module _ {K V : Type 0} (cmp : K → K → Ordering) where
  -- the last pair is put last
  pub puts_push : (l pairs : List (K × V)) (pair : K × V) → puts cmp l (pairs ++ pair ∷ []) ≡ put cmp (puts cmp l pairs) pair.0 pair.1
  puts_push l pairs pair = fold_push (λ list p. put cmp list p.0 p.1) l pairs pair

  -- pairs that ascend go behind, each behind the one before it
  pub puts_behind : (l pairs : List (K × V)) → IsAscending cmp (l ++ pairs) → puts cmp l pairs ≡ l ++ pairs
  puts_behind l [] ascending = sym (append-nil l)
  puts_behind l (pair ∷ pairs) ascending =
      let behind = put_beyond cmp l pair.0 pair.1 (smaller_front cmp l pair pairs ascending) in
      let apart : l ++ pair ∷ pairs ≡ (l ++ pair ∷ []) ++ pairs = sym (append_assoc l (pair ∷ []) pairs) in
      ap (λ (list : List (K × V)). puts cmp list pairs) behind ∙ puts_behind (l ++ pair ∷ []) pairs (subst (IsAscending cmp) apart ascending) ∙ sym apart

  -- so a pair that comes next is behind all that were put
  pub next_behind : (l pairs : List (K × V)) (pair : K × V) → IsAscending cmp (l ++ (pairs ++ pair ∷ [])) → AllByRecursion (λ p. cmp p.0 pair.0 ≡ Less) (puts cmp l pairs)
  next_behind l pairs pair ascending =
      let apart = subst (IsAscending cmp) (sym (append_assoc l pairs (pair ∷ []))) ascending in
      rw (puts_behind l pairs (ascending_front cmp (l ++ pairs) (pair ∷ []) apart)) (smaller_front cmp (l ++ pairs) pair [] apart)

  pub earlier_ascend : (l pairs : List (K × V)) (pair : K × V) → IsAscending cmp (l ++ (pairs ++ pair ∷ [])) → IsAscending cmp (l ++ pairs)
  earlier_ascend l pairs pair ascending = ascending_front cmp (l ++ pairs) (pair ∷ []) (subst (IsAscending cmp) (sym (append_assoc l pairs (pair ∷ []))) ascending)

-- an error that is passed on
pub same_error : {A E : Type 0} (P : Result A E → Type 0) (r : Result A E) (e : E) → IsErrAnd r (λ f. f ≡ e) → P (Err e) → P r
same_error P (Ok x) e is holds = absurd is
same_error P (Err f) e is holds = subst (λ x. P (Err x)) (sym is) holds

-- calls that gave some items and then more gave the first ones before
pub gave_before : {S A : Type 0} (steps : S → Option A → S → Type 0) (s : S) (xs ys : List A) (u : S) → Yields steps s (xs ++ ys) u → (t : S) × Yields steps s xs t
gave_before steps s [] ys u gave = (s, refl)
gave_before steps s (x ∷ xs) ys u gave = let rest = gave_before steps gave.0 xs ys u gave.2 in (rest.0, (gave.0, gave.1, rest.1))
