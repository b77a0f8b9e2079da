-- Pairs that are stored one after another from a queue.
use Rattle.std.proofs.Common.{◌≡◌, ℕ, ◌+◌, ◌≤◌, true, List, [], ◌∷◌, ◌++◌, length, refl, sym, ap, ◌∙◌, append_assoc, append-nil, length-append, arith, Ordering}
use Rattle.tree_batches.specs.Writes.{StopsAt, StoresAll, StoresFirst}
use Rattle.tree_index.proofs.Puts.{earlier_ascend, next_behind, puts_push}
use Rattle.tree_index.specs.Index.{Index, IsWritten, StaysPacked}
use Rattle.tree_model.proofs.Common.{IsAscending, put}

module _ {K V : Type 0} (cmp : K → K → Ordering) (old : Index K V) (pairs : List (K × V)) where
  -- Some pairs were stored, and the others are left.
  pub record IsStoring (left : List (K × V)) (now : Index K V) : Type 0 where
    pub first : StoresFirst cmp old pairs left now.pairs
    pub packed : IsAscending cmp (old.pairs ++ first.stored) → old.packed ≡ true → now.packed ≡ true
    pub spare : old.spare ≤ now.spare + length first.stored

  pub begins : IsStoring pairs old
  begins = record { first = record { stored = []; parts = refl; put = refl }; packed = λ ascending packed. packed; spare = omega arith }

  module _ (left : List (K × V)) (now new : Index K V) (so : IsStoring left now) where
    -- the first of those that are left is stored too
    pub one_stored : (LEN : ℕ) (pair : K × V) (rest : List (K × V)) → left ≡ pair ∷ rest
        → new.pairs ≡ put cmp now.pairs pair.0 pair.1 → IsWritten LEN now new → StaysPacked cmp now new pair.0 → IsStoring rest new
    one_stored LEN pair rest whole stores written packs = record {
      first = record {
        stored = so.first.stored ++ pair ∷ [];
        parts = so.first.parts ∙ ap (λ ys. so.first.stored ++ ys) whole ∙ sym (append_assoc so.first.stored (pair ∷ []) rest);
        put = stores ∙ ap (λ (l : List (K × V)). put cmp l pair.0 pair.1) so.first.put ∙ sym (puts_push cmp old.pairs so.first.stored pair);
      };
      packed = λ ascending packed.
          packs (rw so.first.put (next_behind cmp old.pairs so.first.stored pair ascending)) (so.packed (earlier_ascend cmp old.pairs so.first.stored pair ascending) packed);
      spare = omega (arith, so.spare, written.lowers, length-append so.first.stored (pair ∷ []));
    }

    module _ (given : List (K × V)) (same : pairs ≡ given) where
      -- none is left
      pub all_stored : left ≡ [] → StoresAll cmp old given now
      all_stored none =
          let all : given ≡ so.first.stored = sym same ∙ so.first.parts ∙ ap (λ ys. so.first.stored ++ ys) none ∙ append-nil so.first.stored in
          record { put = rw all so.first.put; packed = λ ascending packed. so.packed (rw all at ascending) packed }

      -- an allocation failed for the first of those that are left
      pub stops : (pair : K × V) (rest back : List (K × V)) → left ≡ pair ∷ rest → back ≡ pair ∷ rest → new.pairs ≡ now.pairs → now.spare ≡ 0 → StopsAt cmp old given back new.pairs
      stops pair rest back whole returned unchanged none = record {
        first = record { stored = so.first.stored; parts = sym same ∙ so.first.parts ∙ ap (λ ys. so.first.stored ++ ys) (whole ∙ sym returned); put = unchanged ∙ so.first.put };
        some = rw returned (omega arith);
        spare = omega (arith, so.spare, none);
      }
