-- Two files that were read, of which one counts.
use Rattle.std.proofs.Common.{◌≡◌, ℕ, ◌<◌, Bool, IsTrue, List, refl, sym, ◌∙◌, ap, subst, arith}
use Rattle.sqlite_disk.specs.Disk.{Only}
use Rattle.store_log.specs.Log.{HasTexts, IsBlank, IsUntouched, LeavesTexts}
use Rattle.store_log.specs.Spare.{AreOlder, IsOlder}
use Rattle.store_log.specs.declared.head.Head.{Head}
use Rattle.store_log.proofs.Spares.{blank_older, head_once, texts_headed}
use Rattle.store_pair.specs.Pair.{AreClean, AreOrdered, AreSettled, AreUntouched, AreUsable, HavePair, IsCounted, LeavePair, counted_in, files_in, held_in, other_in}
use Rattle.store_pair.specs.declared.files.Files.{Files}
use Rattle.store_pair.proofs.Pairs.{clean_both, clean_parts, counted_seen, have_pair, have_parts, held_same, leave_pair, other_seen, settled_parts, untouched_both, untouched_twice}

module _ {D : Type 0} {is_clean is_usable : D → Bool} {seen : D → List ℕ} {may_leave : D → List ℕ → Type 0} {files : Files D} {swapped : Bool} {disk spare : D} (o : AreOrdered is_clean is_usable seen may_leave files swapped disk spare) where
  read_as : held_in seen files ≡ held_in seen (files_in swapped disk spare)
  read_as =
      let new : Files D = files_in swapped disk spare in
      held_same (seen files.first) (seen files.second) (seen new.first) (seen new.second) (sym o.untouched.0.same) (sym o.untouched.1.same)

  counted_is : counted_in swapped (held_in seen files) ≡ seen disk
  counted_is = ap (counted_in swapped) read_as ∙ counted_seen seen swapped disk spare

  other_is : other_in swapped (held_in seen files) ≡ seen spare
  other_is = ap (other_in swapped) read_as ∙ other_seen seen swapped disk spare

  pub both_usable : IsTrue (is_usable disk) × IsTrue (is_usable spare)
  both_usable = clean_parts is_usable swapped disk spare o.usable

  -- a refusal of the file that counts
  module _ (after : D) where
    pub after_usable : IsTrue (is_usable after) → AreUsable is_usable (files_in swapped after spare)
    after_usable usable = clean_both is_usable swapped after spare usable both_usable.1

    pub after_untouched : IsUntouched seen may_leave disk after → AreUntouched seen may_leave files (files_in swapped after spare)
    after_untouched same =
        let other : IsUntouched seen may_leave spare spare = record { same = refl; no_more = λ file left. left } in
        untouched_twice seen may_leave files (files_in swapped disk spare) (files_in swapped after spare) o.untouched (untouched_both seen may_leave swapped disk spare after spare same other)

    module _ (cleaner : IsTrue (is_clean after) → IsTrue (is_clean disk)) (clean : AreClean is_clean (files_in swapped after spare)) where
      pub clean_before : AreClean is_clean (files_in swapped disk spare)
      clean_before =
          let parts = clean_parts is_clean swapped after spare clean in
          clean_both is_clean swapped disk spare (cleaner parts.0) parts.1

  module _ (settled : AreSettled seen may_leave files) where
    pub both_settled : Only (seen disk) (may_leave disk) × Only (seen spare) (may_leave spare)
    both_settled =
        let new : Files D = files_in swapped disk spare in
        settled_parts seen may_leave swapped disk spare (
          λ file left. settled.0 file (o.untouched.0.no_more file left) ∙ sym o.untouched.0.same,
          λ file left. settled.1 file (o.untouched.1.no_more file left) ∙ sym o.untouched.1.same,
        )

    module _ (clean : AreClean is_clean (files_in swapped disk spare)) where
      both_counted : IsCounted (seen disk) (seen spare)
      both_counted = subst (λ (l : List ℕ). IsCounted l (seen spare)) counted_is (subst (IsCounted (counted_in swapped (held_in seen files))) other_is (o.counted clean))

      pub not_blank : IsBlank (seen disk) → ⊥
      not_blank blank =
          let none : both_counted.head.generation < 0 = (blank_older 0 (seen disk) blank).older both_counted.head both_counted.headed in
          omega (arith, none)

      module _ (head : Head) (texts : List (List ℕ)) where
        spare_older : HasTexts head texts (seen disk) → IsOlder head.generation (seen spare)
        spare_older has =
            let k = both_counted in
            subst (λ (h : Head). IsOlder h.generation (seen spare)) (head_once (seen disk) k.head head k.headed (texts_headed head texts (seen disk) has)) k.older

        pub left_older : HasTexts head texts (seen disk) → AreOlder head.generation (may_leave spare)
        left_older has file left = subst (IsOlder head.generation) (sym (both_settled.1 file left)) (spare_older has)

        pub opened_pair : HasTexts head texts (seen disk) → HavePair head texts (held_in seen files)
        opened_pair has = have_pair swapped head texts (held_in seen files) (record { has = subst (HasTexts head texts) (sym counted_is) has; older = subst (IsOlder head.generation) (sym other_is) (spare_older has) })

        pub counted_texts : HavePair head texts (held_in seen files) → HasTexts head texts (seen disk)
        counted_texts has = subst (HasTexts head texts) counted_is (have_parts swapped head texts (held_in seen files) (o.counted clean) has).has

        -- the file that counts was repaired as far as it could be
        pub leave_repaired : (after : D) → HavePair head texts (held_in seen files) → LeavesTexts head texts (may_leave after) → LeavePair may_leave head texts (files_in swapped after spare)
        leave_repaired after has leaves = leave_pair may_leave swapped after spare head texts leaves (left_older (counted_texts has))
