-- What a reading, a commit and a compaction make of a store.
use Rattle.std.proofs.Common.{◌≡◌, ◌⊎◌, inl, inr, ℕ, List, [], ◌∷◌, ◌++◌, Bool, true, false, Option, Some, None, refl, sym, ◌∙◌, ap, subst, Ordering}
use Rattle.store_codec.specs.declared.records.Record.{Record}
use Rattle.store_log.specs.Head.{HasKinds}
use Rattle.store_log.specs.Spare.{next_head}
use Rattle.store_log.specs.declared.head.Head.{Head}
use Rattle.store_pair.specs.Pair.{AreClean, HavePair, Held, LeavePair, MayHold, Pair}
use Rattle.store_pair.proofs.Pairs.{running}
use Rattle.tree_model.proofs.Common.{IsTotalOrder, IsAscending}
use Rattle.tree_store.specs.Changes.{Leads, Notes}
use Rattle.tree_store.specs.Store.{GoesOn, HasSaved, IsStore, Leave, StandFor}
use Rattle.tree_store.proofs.Listed.{goes_on_ascends, noted_leads}
use Rattle.tree_store.proofs.Noted.{batch_leads, just_saved, nothing_to_save}
use Rattle.tree_store.proofs.Saved.{leave, stand}

module _ {K V A B D : Type 0} {cmp : K → K → Ordering} {seen_key : K → A} {seen_value : V → B} {read : List ℕ → Option (Record A B × List ℕ)} {kinds : ℕ × ℕ} {is_clean : D → Bool} {may_leave : D → List ℕ → Type 0} {log : Pair D} {batch : List ℕ} {pairs : List (K × V)} (k : IsStore cmp seen_key seen_value read kinds is_clean may_leave log batch pairs) where
  -- the log was read, and is what it was
  module _ (new : Pair D) (texts : new.texts ≡ log.texts) where
    pub read_store : new.head ≡ log.head → new.stopped ≡ log.stopped → ((left : Held) → MayHold may_leave new.files left → MayHold may_leave log.files left) → (AreClean is_clean new.files → AreClean is_clean log.files) → IsStore cmp seen_key seen_value read kinds is_clean may_leave new batch pairs
    read_store head stopped no_more cleaner = record {
      are = subst (λ (h : Head). HasKinds h kinds) (sym head) k.are;
      leaves = λ still clean left may.
          let was = k.leaves (sym stopped ∙ still) (cleaner clean) left (no_more left may) in
          subst (λ (h : Head). HavePair h new.texts left) (sym head) (subst (λ (t : List (List ℕ)). HavePair log.head t left) (sym texts) was);
      goes_on = λ still clean. subst (λ (t : List (List ℕ)). GoesOn cmp seen_key seen_value read t batch pairs) (sym texts) (k.goes_on (sym stopped ∙ still) (cleaner clean));
    }

    pub still_saved : (durable : List (K × V)) → HasSaved cmp seen_key seen_value read log durable → HasSaved cmp seen_key seen_value read new durable
    still_saved durable saved = subst (λ (t : List (List ℕ)). Leads cmp seen_key seen_value read t [] durable) (sym texts) saved

  module _ (runs : log.stopped ≡ false) where
    -- it was left as it is
    pub as_it_was : AreClean is_clean log.files → (durable : List (K × V)) → HasSaved cmp seen_key seen_value read log durable → Leave cmp seen_key seen_value read kinds may_leave log.files durable
    as_it_was clean durable saved = leave cmp seen_key seen_value read kinds log.head k.are may_leave log.files log.texts durable (k.leaves runs clean) saved

    pub empty_saved : AreClean is_clean log.files → batch ≡ [] → read [] ≡ None → HasSaved cmp seen_key seen_value read log pairs
    empty_saved clean empty none = nothing_to_save cmp seen_key seen_value read log.texts batch pairs (k.goes_on runs clean) empty none

    -- the batch as one more text leads to the pairs
    pub batch_led : (text : List ℕ) → text ≡ batch → AreClean is_clean log.files → Leads cmp seen_key seen_value read (log.texts ++ text ∷ []) [] pairs
    batch_led text same was = subst (λ (b : List ℕ). Leads cmp seen_key seen_value read (log.texts ++ b ∷ []) [] pairs) (sym same) (batch_leads cmp seen_key seen_value read log.texts batch pairs (k.goes_on runs was))

    -- so does a text of all of them
    pub records_led : IsTotalOrder cmp → (text items : List ℕ) → text ≡ items → (IsAscending cmp pairs → Notes cmp seen_key seen_value read [] items [] pairs) → AreClean is_clean log.files → Leads cmp seen_key seen_value read (text ∷ []) [] pairs
    records_led o text items same noted was =
        let ascending = goes_on_ascends o seen_key seen_value read log.texts batch pairs (k.goes_on runs was) in
        subst (λ (t : List ℕ). Leads cmp seen_key seen_value read (t ∷ []) [] pairs) (sym same) (noted_leads o seen_key seen_value read items pairs (noted ascending))

    -- a crash left the texts from before, or others that lead to the pairs
    pub turns : (head : Head) (texts : List (List ℕ)) → HasKinds head kinds → Leads cmp seen_key seen_value read texts [] pairs → (left : Held) (durable : List (K × V)) → HavePair log.head log.texts left ⊎ HavePair head texts left → HasSaved cmp seen_key seen_value read log durable → StandFor cmp seen_key seen_value read kinds left durable ⊎ StandFor cmp seen_key seen_value read kinds left pairs
    turns head texts are led left durable either saved = elim either [
      | inl before ↦ inl (stand cmp seen_key seen_value read kinds log.head k.are log.texts left durable before saved)
      | inr after ↦ inr (stand cmp seen_key seen_value read kinds head are texts left pairs after led)
    ]

    module _ (new : Pair D) where
      pub kinds_kept : new.head ≡ log.head → HasKinds new.head kinds
      kinds_kept head = subst (λ (h : Head). HasKinds h kinds) (sym head) k.are

      pub kinds_next : new.head ≡ next_head log.head → HasKinds new.head kinds
      kinds_next head = subst (λ (h : Head). HasKinds h kinds) (sym head) k.are

      pub led_by : (texts : List (List ℕ)) → new.texts ≡ texts → Leads cmp seen_key seen_value read texts [] pairs → Leads cmp seen_key seen_value read new.texts [] pairs
      led_by texts same led = subst (λ (t : List (List ℕ)). Leads cmp seen_key seen_value read t [] pairs) (sym same) led

      -- its texts lead to the pairs, and are on the disk
      module _ (are : HasKinds new.head kinds) (leaves : AreClean is_clean new.files → LeavePair may_leave new.head new.texts new.files) (led : AreClean is_clean new.files → Leads cmp seen_key seen_value read new.texts [] pairs) where
        pub settled_store : (empty : List ℕ) → empty ≡ [] → IsStore cmp seen_key seen_value read kinds is_clean may_leave new empty pairs
        settled_store empty none = record { are = are; leaves = λ _ clean. leaves clean; goes_on = λ _ clean. just_saved cmp seen_key seen_value read new.texts empty pairs (led clean) none }

        pub settled_leaves : AreClean is_clean new.files → Leave cmp seen_key seen_value read kinds may_leave new.files pairs
        settled_leaves clean = leave cmp seen_key seen_value read kinds new.head are may_leave new.files new.texts pairs (leaves clean) (led clean)

      -- the call was refused
      module _ (head : new.head ≡ log.head) (refused : (new.stopped ≡ true) ⊎ (AreClean is_clean new.files → (new.texts ≡ log.texts) × LeavePair may_leave log.head log.texts new.files)) where
        pub refused_store : (AreClean is_clean new.files → AreClean is_clean log.files) → IsStore cmp seen_key seen_value read kinds is_clean may_leave new batch pairs
        refused_store cleaner = record {
          are = kinds_kept head;
          leaves = λ still clean left may.
              let kept = running new.stopped refused still clean in
              subst (λ (h : Head). HavePair h new.texts left) (sym head) (subst (λ (t : List (List ℕ)). HavePair log.head t left) (sym kept.0) (kept.1 left may));
          goes_on = λ still clean.
              let kept = running new.stopped refused still clean in
              subst (λ (t : List (List ℕ)). GoesOn cmp seen_key seen_value read t batch pairs) (sym kept.0) (k.goes_on runs (cleaner clean));
        }

        pub refused_clause : (new.stopped ≡ true) ⊎ (AreClean is_clean new.files → (durable : List (K × V)) → HasSaved cmp seen_key seen_value read log durable → HasSaved cmp seen_key seen_value read new durable × Leave cmp seen_key seen_value read kinds may_leave new.files durable)
        refused_clause = elim refused [
          | inl on ↦ inl on
          | inr kept ↦ inr (λ clean durable saved.
              let same = kept clean in
              (subst (λ (t : List (List ℕ)). Leads cmp seen_key seen_value read t [] durable) (sym same.0) saved, leave cmp seen_key seen_value read kinds log.head k.are may_leave new.files log.texts durable same.1 saved))
        ]
