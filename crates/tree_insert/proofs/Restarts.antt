-- An insert that starts again where nothing has changed, or changes nothing itself.
use Rattle.tree_insert.proofs.Common.{Agrees, Bool, HasToDivide, Inserts, InsertsUnder, IsCrowded, OnErr, Ordering, Result, Some, StoreResult, TreeArenas, Unchanged, [], ap, arith, asks_split}
use Rattle.tree_insert.proofs.Common.{false, found_keyed, on_err_weaker, refused, replaces_trans, same_packed, same_spare, same_stands, same_walk, spare, stores, true, unchanged_agrees}
use Rattle.tree_insert.proofs.Common.{unchanged_replaces, unchanged_trans, walk, ℕ, ◌<◌, ◌∷◌, ◌≡◌}
use Rattle.tree_insert.proofs.Crowded.{crowded_still, divides_still}

module _ {K V : Type 0} {LEN : ℕ} {cmp : K → K → Ordering} {upsert : Bool} {old mid : TreeArenas K V LEN} (same : Unchanged old mid) (level id : ℕ) {key : K}
    {val : V} where
  -- the pair comes back, and all is what it was
  pub changes_nothing : (result : Result (StoreResult K V) (K × V)) → stores result ≡ false
      → Inserts cmp upsert result (walk level old id) key val (walk level old id)
      → (refused result ≡ true → (asks_split result ≡ true → 0 < level) → spare level old id ≡ 0) → (asks_split result ≡ true → IsCrowded cmp level old id key)
      → OnErr result (HasToDivide cmp level old id key) → InsertsUnder cmp upsert level old mid id result key val
  changes_nothing result back pairs spent full divided =
      let agrees : Agrees level old mid id = unchanged_agrees level old mid same id in
      record {
        pairs = rw (same_walk level old mid id agrees) pairs;
        stands = λ low high above up_to s. same_stands cmp level old mid id agrees low high s;
        replaces = unchanged_replaces level old mid same (id ∷ []);
        lowers = omega (arith, same_spare level old mid id agrees);
        spent = spent;
        full = full;
        divided = divided;
        unchanged = λ so. same;
        packed = λ so. absurd (cc);
      }

  -- it is one from the arenas that were there before
  pub inserts_before : {new : TreeArenas K V LEN} (result : Result (StoreResult K V) (K × V)) → InsertsUnder cmp upsert level mid new id result key val
      → InsertsUnder cmp upsert level old new id result key val
  inserts_before {new} result ins =
      let agrees : Agrees level old mid id = unchanged_agrees level old mid same id in
      let spares : spare level mid id ≡ spare level old id = same_spare level old mid id agrees in
      record {
        pairs = rw (same_walk level old mid id agrees) at ins.pairs;
        stands = λ low high above up_to s. ins.stands low high above up_to (same_stands cmp level old mid id agrees low high s);
        replaces = replaces_trans level old mid new (id ∷ []) (id ∷ []) (id ∷ []) (unchanged_replaces level old mid same (id ∷ [])) ins.replaces;
        lowers = omega (arith, spares, ins.lowers);
        spent = λ so deep. omega (arith, spares, ins.spent so deep);
        full = λ so. crowded_still cmp old mid same level id key (ins.full so);
        divided = on_err_weaker result (divides_still cmp old mid same level id key) ins.divided;
        unchanged = λ so. unchanged_trans old mid new same (ins.unchanged so);
        packed = λ so e.
            let done = ins.packed so (same_packed cmp (Some key) level old mid id agrees e) in
            (done.0, omega (arith, done.1, ap found_keyed (same.nodes id)));
      }
