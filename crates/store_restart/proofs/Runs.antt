-- What a run has reached, and leaves.
use Rattle.std.proofs.Common.{◌≡◌, ◌⊎◌, inl, inr, ℕ, ◌+◌, ◌≤◌, Bool, true, false, List, [], ◌∷◌, ◌++◌, length, length-append, refl, sym, ◌∙◌, ap, subst, arith, Option, Ordering}
use Rattle.store_codec.specs.declared.records.Record.{Record}
use Rattle.store_pair.specs.Pair.{AreClean, Held, MayHold, Pair}
use Rattle.store_restart.specs.declared.batch.Batch.{Batch}
use Rattle.store_restart.specs.declared.run.Reached.{Reached}
use Rattle.store_restart.specs.Fronts.{IsDurable, IsFront, StandForFront, made_by}
use Rattle.store_restart.proofs.Fronts.{alike_self, front_all, front_more, made_by-push, none_yet}
use Rattle.tree_store.specs.Changes.{changed_by}
use Rattle.tree_store.specs.Store.{HasSaved, Leave, StandFor, Store}

module _ {K V A B : Type 0} (cmp : K → K → Ordering) (seen_key : K → A) (seen_value : V → B) (read : List ℕ → Option (Record A B × List ℕ)) (kinds : ℕ × ℕ) (old : List (K × V)) where
  -- the list after a front of what was made is durable
  pub record HasFront {D : Type 0} (may_leave : D → List ℕ → Type 0) (reached : Reached) (made : List (Batch K V)) (saved : Pair D) : Type 0 where
    pub front : List (Batch K V)
    pub is : IsFront reached front made
    pub has : HasSaved cmp seen_key seen_value read saved (made_by cmp front old)
    pub leaves : Leave cmp seen_key seen_value read kinds may_leave saved.files (made_by cmp front old)

  -- these batches were made
  pub record HasRun {D : Type 0} (is_clean : D → Bool) (may_leave : D → List ℕ → Type 0) (reached : Reached) (made : List (Batch K V)) (store : Store K V D) : Type 0 where
    pub count : reached.made ≡ length made
    pub least : reached.durable ≤ reached.made
    pub pairs : store.pairs ≡ made_by cmp made old
    pub saved : store.saved.stopped ≡ false → AreClean is_clean store.saved.files → HasFront may_leave reached made store.saved
    pub left : AreClean is_clean store.saved.files → (left : Held) → MayHold may_leave store.saved.files left → StandForFront cmp seen_key seen_value read kinds reached made old left

  pub stand_front : (reached : Reached) (front made : List (Batch K V)) → IsFront reached front made → (held : Held) → StandFor cmp seen_key seen_value read kinds held (made_by cmp front old) → StandForFront cmp seen_key seen_value read kinds reached made old held
  stand_front reached front made is held stand = record {
    pairs = made_by cmp front old;
    stand = stand;
    after = record { front = front; is = is; alike = alike_self seen_key seen_value (made_by cmp front old) };
  }

  -- of more batches
  pub stand_more : (reached next : Reached) (made batches : List (Batch K V)) → ((front : List (Batch K V)) → IsFront reached front made → IsFront next front batches) → (held : Held) → StandForFront cmp seen_key seen_value read kinds reached made old held → StandForFront cmp seen_key seen_value read kinds next batches old held
  stand_more reached next made batches f held s = record {
    pairs = s.pairs;
    stand = s.stand;
    after = record { front = s.after.front; is = f s.after.front s.after.is; alike = s.after.alike };
  }

  module _ {D : Type 0} {is_clean : D → Bool} {may_leave : D → List ℕ → Type 0} where
    pub run_starts : (reached : Reached) (store : Store K V D) → reached.made ≡ 0 → reached.durable ≡ 0 → store.pairs ≡ old → IsDurable cmp seen_key seen_value read kinds is_clean may_leave store → HasRun is_clean may_leave reached [] store
    run_starts reached store count none is d = record {
      count = count;
      least = omega (arith, none);
      pairs = is;
      saved = λ runs clean. record {
        front = [];
        is = none_yet reached [] none;
        has = subst (λ (l : List (K × V)). HasSaved cmp seen_key seen_value read store.saved l) is (d.saved clean);
        leaves = subst (λ (l : List (K × V)). Leave cmp seen_key seen_value read kinds may_leave store.saved.files l) is (d.leaves clean);
      };
      left = λ clean left may. stand_front reached [] [] (none_yet reached [] none) left (subst (λ (l : List (K × V)). StandFor cmp seen_key seen_value read kinds left l) is (d.leaves clean left may));
    }

    module _ (reached : Reached) (made : List (Batch K V)) (store : Store K V D) (h : HasRun is_clean may_leave reached made store) (batch : Batch K V) (changed_store new : Store K V D) (same : changed_store.saved ≡ store.saved) (did : changed_store.pairs ≡ changed_by cmp batch.changes.items store.pairs) (pairs : new.pairs ≡ changed_store.pairs) where
      pairs_made : changed_store.pairs ≡ made_by cmp (made ++ batch ∷ []) old
      pairs_made = did ∙ ap (changed_by cmp batch.changes.items) h.pairs ∙ sym (made_by-push cmp made batch old)

      count_made : (n : ℕ) → n ≡ reached.made + 1 → n ≡ length (made ++ batch ∷ [])
      count_made n is =
          let one : length (made ++ batch ∷ []) ≡ length made + 1 = length-append made (batch ∷ []) in
          let was = h.count in
          omega (arith, was, one, is)

      -- the batch is durable
      pub run_durable : (next : Reached) → next.made ≡ reached.made + 1 → next.durable ≡ next.made → IsDurable cmp seen_key seen_value read kinds is_clean may_leave new → HasRun is_clean may_leave next (made ++ batch ∷ []) new
      run_durable next count all d =
          let made_now = made ++ batch ∷ [] in
          let are : new.pairs ≡ made_by cmp made_now old = pairs ∙ pairs_made in
          let is : IsFront next made_now made_now = front_all next made_now (count_made next.made count) (omega (arith, all)) in
          record {
            count = count_made next.made count;
            least = omega (arith, all);
            pairs = are;
            saved = λ runs clean. record {
              front = made_now;
              is = is;
              has = subst (λ (l : List (K × V)). HasSaved cmp seen_key seen_value read new.saved l) are (d.saved clean);
              leaves = subst (λ (l : List (K × V)). Leave cmp seen_key seen_value read kinds may_leave new.saved.files l) are (d.leaves clean);
            };
            left = λ clean left may. stand_front next made_now made_now is left (subst (λ (l : List (K × V)). StandFor cmp seen_key seen_value read kinds left l) are (d.leaves clean left may));
          }

      -- or its commit failed
      module _ (next : Reached) (count : next.made ≡ reached.made + 1) (still : next.durable ≡ reached.durable)
          (clean_before : AreClean is_clean new.saved.files → AreClean is_clean changed_store.saved.files)
          (stopped : changed_store.saved.stopped ≡ true → new.saved ≡ changed_store.saved)
          (crash : AreClean is_clean new.saved.files → changed_store.saved.stopped ≡ false → (durable : List (K × V)) → HasSaved cmp seen_key seen_value read changed_store.saved durable → (left : Held) → MayHold may_leave new.saved.files left → StandFor cmp seen_key seen_value read kinds left durable ⊎ StandFor cmp seen_key seen_value read kinds left changed_store.pairs)
          (refused : (new.saved.stopped ≡ true) ⊎ (AreClean is_clean new.saved.files → (durable : List (K × V)) → HasSaved cmp seen_key seen_value read changed_store.saved durable → HasSaved cmp seen_key seen_value read new.saved durable × Leave cmp seen_key seen_value read kinds may_leave new.saved.files durable)) where
        more : (front : List (Batch K V)) → IsFront reached front made → IsFront next front (made ++ batch ∷ [])
        more front is = front_more reached next front made batch still (omega (arith, count)) is

        was_clean : AreClean is_clean new.saved.files → AreClean is_clean store.saved.files
        was_clean clean = subst (λ (s : Pair D). AreClean is_clean s.files) same (clean_before clean)

        -- the front that was durable, of a store that wasn't stopped
        was : changed_store.saved.stopped ≡ false → AreClean is_clean new.saved.files → HasFront may_leave reached made changed_store.saved
        was runs clean = subst (λ (s : Pair D). HasFront may_leave reached made s) (sym same) (h.saved (ap (λ (s : Pair D). s.stopped) (sym same) ∙ runs) (was_clean clean))

        either : (b : Bool) → (b ≡ true) ⊎ (b ≡ false)
        either true = inl refl
        either false = inr refl

        saved_now : new.saved.stopped ≡ false → AreClean is_clean new.saved.files → HasFront may_leave next (made ++ batch ∷ []) new.saved
        saved_now runs clean = elim refused [
          | inl on ↦ let z : ⊥ = cc (on, runs) in absurd z
          | inr kept ↦ elim (either changed_store.saved.stopped) [
            | inl on ↦ let z : ⊥ = cc (ap (λ (s : Pair D). s.stopped) (stopped on), on, runs) in absurd z
            | inr off ↦
                let f = was off clean in
                let k = kept clean (made_by cmp f.front old) f.has in
                record { front = f.front; is = more f.front f.is; has = k.0; leaves = k.1 }
          ]
        ]

        left_now : AreClean is_clean new.saved.files → (left : Held) → MayHold may_leave new.saved.files left → StandForFront cmp seen_key seen_value read kinds next (made ++ batch ∷ []) old left
        left_now clean left may = elim (either changed_store.saved.stopped) [
          | inl on ↦ stand_more reached next made (made ++ batch ∷ []) more left (h.left (was_clean clean) left (subst (λ (s : Pair D). MayHold may_leave s.files left) (stopped on ∙ same) may))
          | inr off ↦
              let f = was off clean in
              elim (crash clean off (made_by cmp f.front old) f.has left may) [
                | inl before ↦ stand_front next f.front (made ++ batch ∷ []) (more f.front f.is) left before
                | inr after ↦ stand_front next (made ++ batch ∷ []) (made ++ batch ∷ []) (front_all next (made ++ batch ∷ []) (count_made next.made count) (omega (arith, still, count, h.least))) left (subst (λ (l : List (K × V)). StandFor cmp seen_key seen_value read kinds left l) pairs_made after)
              ]
        ]

        pub run_refused : HasRun is_clean may_leave next (made ++ batch ∷ []) new
        run_refused = record {
          count = count_made next.made count;
          least = omega (arith, still, count, h.least);
          pairs = pairs ∙ pairs_made;
          saved = saved_now;
          left = left_now;
        }
