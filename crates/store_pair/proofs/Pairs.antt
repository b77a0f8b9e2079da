-- Two files, in the order in which they count.
use Rattle.std.specs.Prelude.{Result, Ok, Err, IfErr, OnErr, OnOk}
use Rattle.std.proofs.Common.{◌≡◌, ◌⊎◌, inl, inr, ℕ, ◌+◌, ◌<◌, Bool, true, false, IsTrue, List, [], ◌∷◌, refl, sym, ◌∙◌, ap, subst, arith}
use Rattle.sqlite_disk.specs.Disk.{MoreFaults, Only}
use Rattle.store_log.specs.Cause.{CausedBy}
use Rattle.store_log.specs.declared.error.LogError.{LogError}
use Rattle.store_log.specs.declared.error.LogError.TheVariants.{Io, Memory, TooLong, Stopped}
use Rattle.store_log.specs.Log.{Contents, HasTexts, IsUntouched, LeavesTexts, end_of}
use Rattle.store_log.specs.Spare.{AreOlder, IsOlder, next_head}
use Rattle.store_log.specs.declared.head.Head.{Head}
use Rattle.store_log.proofs.Spares.{texts_headed, texts_older}
use Rattle.store_pair.specs.Pair.{AreClean, AreSettled, AreUntouched, AreUsed, Counts, HaveFailed, HavePair, Held, IsCounted, IsPair, LeavePair, MayHold, Pair, counted_in, files_in, held_in, other_in}
use Rattle.store_pair.specs.declared.files.Files.{Files}

abbrev pub held_of : List ℕ → List ℕ → Held
held_of first second = record { first = first; second = second }

pub held_same : (a b c d : List ℕ) → a ≡ c → b ≡ d → held_of a b ≡ held_of c d
held_same a b c d one other = ap (λ (l : List ℕ). held_of l b) one ∙ ap (λ (l : List ℕ). held_of c l) other

module _ {D : Type 0} where
  pub clean_parts : (is_clean : D → Bool) (swapped : Bool) (disk spare : D) → AreClean is_clean (files_in swapped disk spare) → IsTrue (is_clean disk) × IsTrue (is_clean spare)
  clean_parts is_clean true disk spare clean = (clean.1, clean.0)
  clean_parts is_clean false disk spare clean = clean

  pub clean_both : (is_clean : D → Bool) (swapped : Bool) (disk spare : D) → IsTrue (is_clean disk) → IsTrue (is_clean spare) → AreClean is_clean (files_in swapped disk spare)
  clean_both is_clean true disk spare one other = (other, one)
  clean_both is_clean false disk spare one other = (one, other)

  -- the other file is as it was
  pub still_clean : (is_clean : D → Bool) (swapped : Bool) (disk spare new : D) → (IsTrue (is_clean new) → IsTrue (is_clean disk)) → AreClean is_clean (files_in swapped new spare) → AreClean is_clean (files_in swapped disk spare)
  still_clean is_clean true disk spare new cleaner clean = (clean.0, cleaner clean.1)
  still_clean is_clean false disk spare new cleaner clean = (cleaner clean.0, clean.1)

  pub no_more_left : (may_leave : D → List ℕ → Type 0) (swapped : Bool) (disk spare new : D) → ((file : List ℕ) → may_leave new file → may_leave disk file) → (left : Held) → MayHold may_leave (files_in swapped new spare) left → MayHold may_leave (files_in swapped disk spare) left
  no_more_left may_leave true disk spare new no_more left may = (may.0, no_more left.second may.1)
  no_more_left may_leave false disk spare new no_more left may = (no_more left.first may.0, may.1)

  pub hold_parts : (may_leave : D → List ℕ → Type 0) (swapped : Bool) (disk spare : D) (left : Held) → MayHold may_leave (files_in swapped disk spare) left → may_leave disk (counted_in swapped left) × may_leave spare (other_in swapped left)
  hold_parts may_leave true disk spare left may = (may.1, may.0)
  hold_parts may_leave false disk spare left may = may

  pub counted_seen : (seen : D → List ℕ) (swapped : Bool) (disk spare : D) → counted_in swapped (held_in seen (files_in swapped disk spare)) ≡ seen disk
  counted_seen seen true disk spare = refl
  counted_seen seen false disk spare = refl

  pub other_seen : (seen : D → List ℕ) (swapped : Bool) (disk spare : D) → other_in swapped (held_in seen (files_in swapped disk spare)) ≡ seen spare
  other_seen seen true disk spare = refl
  other_seen seen false disk spare = refl

  pub untouched_both : (seen : D → List ℕ) (may_leave : D → List ℕ → Type 0) (swapped : Bool) (disk spare new other : D) → IsUntouched seen may_leave disk new → IsUntouched seen may_leave spare other → AreUntouched seen may_leave (files_in swapped disk spare) (files_in swapped new other)
  untouched_both seen may_leave true disk spare new other one two = (two, one)
  untouched_both seen may_leave false disk spare new other one two = (one, two)

  pub untouched_twice : (seen : D → List ℕ) (may_leave : D → List ℕ → Type 0) (old mid new : Files D) → AreUntouched seen may_leave old mid → AreUntouched seen may_leave mid new → AreUntouched seen may_leave old new
  untouched_twice seen may_leave old mid new one two = (
    record { same = two.0.same ∙ one.0.same; no_more = λ file left. one.0.no_more file (two.0.no_more file left) },
    record { same = two.1.same ∙ one.1.same; no_more = λ file left. one.1.no_more file (two.1.no_more file left) },
  )

  pub settled_parts : (seen : D → List ℕ) (may_leave : D → List ℕ → Type 0) (swapped : Bool) (disk spare : D) → AreSettled seen may_leave (files_in swapped disk spare) → Only (seen disk) (may_leave disk) × Only (seen spare) (may_leave spare)
  settled_parts seen may_leave true disk spare settled = (settled.1, settled.0)
  settled_parts seen may_leave false disk spare settled = settled

  pub used_one : (seen : D → List ℕ) (swapped : Bool) (disk spare : D) (n : ℕ) → n ≡ end_of (seen disk) → AreUsed (held_in seen (files_in swapped disk spare)) n
  used_one seen true disk spare n is = inr is
  used_one seen false disk spare n is = inl is

  pub failed_one : (faults : D → ℕ) (swapped : Bool) (disk spare new : D) → MoreFaults (faults disk) (faults new) → HaveFailed faults (files_in swapped disk spare) (files_in swapped new spare)
  failed_one faults true disk spare new more = inr more
  failed_one faults false disk spare new more = inl more

pub have_pair : (swapped : Bool) (head : Head) (texts : List (List ℕ)) (held : Held) → Counts head texts (counted_in swapped held) (other_in swapped held) → HavePair head texts held
have_pair true head texts held counts = inr counts
have_pair false head texts held counts = inl counts

-- the other file counts too
counted_once : (head : Head) (texts : List (List ℕ)) (one other : List ℕ) → IsCounted one other → Counts head texts other one → ⊥
counted_once head texts one other k c =
    let later : head.generation < k.head.generation = k.older.older head (texts_headed head texts other c.has) in
    let earlier : k.head.generation < head.generation = c.older.older k.head k.headed in
    omega (arith, later, earlier)

pub have_parts : (swapped : Bool) (head : Head) (texts : List (List ℕ)) (held : Held) → IsCounted (counted_in swapped held) (other_in swapped held) → HavePair head texts held → Counts head texts (counted_in swapped held) (other_in swapped held)
have_parts true head texts held k (inr c) = c
have_parts true head texts held k (inl c) = absurd (counted_once head texts held.second held.first k c)
have_parts false head texts held k (inl c) = c
have_parts false head texts held k (inr c) = absurd (counted_once head texts held.first held.second k c)

pub counts_counted : (head : Head) (texts : List (List ℕ)) (one other : List ℕ) → Counts head texts one other → IsCounted one other
counts_counted head texts one other c = record { head = head; headed = texts_headed head texts one c.has; older = c.older }

pub leave_pair : {D : Type 0} (may_leave : D → List ℕ → Type 0) (swapped : Bool) (disk spare : D) (head : Head) (texts : List (List ℕ)) → LeavesTexts head texts (may_leave disk) → AreOlder head.generation (may_leave spare) → LeavePair may_leave head texts (files_in swapped disk spare)
leave_pair may_leave swapped disk spare head texts leaves older left may =
    let parts = hold_parts may_leave swapped disk spare left may in
    have_pair swapped head texts left (record { has = leaves (counted_in swapped left) parts.0; older = older (other_in swapped left) parts.1 })

-- a step of the file that counts, and the other as it was
pub pair_turns : (swapped : Bool) (head : Head) (texts : List (List ℕ)) (text : List ℕ) (left : Held) → HasTexts head texts (counted_in swapped left) → IsOlder head.generation (other_in swapped left) ⊎ HasTexts (next_head head) (text ∷ []) (other_in swapped left) → HavePair head texts left ⊎ HavePair (next_head head) (text ∷ []) left
pair_turns swapped head texts text left has (inl older) = inl (have_pair swapped head texts left (record { has = has; older = older }))
pair_turns true head texts text left has (inr turned) = inr (inl (record { has = turned; older = texts_older (head.generation + 1) head texts left.second (omega arith) has }))
pair_turns false head texts text left has (inr turned) = inr (inr (record { has = turned; older = texts_older (head.generation + 1) head texts left.first (omega arith) has }))

-- a crash leaves what was read
pub leave_read : {D : Type 0} (seen : D → List ℕ) (may_leave : D → List ℕ → Type 0) (files new : Files D) → AreUntouched seen may_leave files new → AreSettled seen may_leave files → (head : Head) (texts : List (List ℕ)) → HavePair head texts (held_in seen files) → LeavePair may_leave head texts new
leave_read seen may_leave files new untouched settled head texts has left may =
    let one : seen files.first ≡ left.first = sym (settled.0 left.first (untouched.0.no_more left.first may.0)) in
    let other : seen files.second ≡ left.second = sym (settled.1 left.second (untouched.1.no_more left.second may.1)) in
    subst (λ (l : List ℕ). HavePair head texts (held_of l left.second)) one (subst (λ (l : List ℕ). HavePair head texts (held_of (seen files.first) l)) other has)

-- what follows of a result
pub ok_both : {T E P Q S : Type 0} (r : Result T E) → OnOk r P → OnOk r Q → (P → Q → S) → OnOk r S
ok_both (Ok x) p q f = f p q
ok_both (Err e) p q f = search

pub err_then : {T E P Q : Type 0} (r : Result T E) → OnErr r P → (P → Q) → OnErr r Q
err_then (Ok x) p f = search
err_then (Err e) p f = f p

pub caused_both : {T S S' F F' : Type 0} (r : Result T LogError) → (F → F') → (S → S') → IfErr r (λ e. CausedBy e F S) → IfErr r (λ e. CausedBy e F' S')
caused_both (Ok x) h f caused = search
caused_both (Err (Io e)) h f caused = h caused
caused_both (Err Memory) h f caused = f caused
caused_both (Err TooLong) h f caused = f caused
caused_both (Err Stopped) h f caused = f caused

-- what an error says, of what follows when nothing changed
pub caused_so : {S S' : Type 0} (F : Type 0) (e : LogError) → (S → S') → CausedBy e F S → CausedBy e F S'
caused_so F (Io error) f caused = caused
caused_so F Memory f caused = f caused
caused_so F TooLong f caused = f caused
caused_so F Stopped f caused = f caused

-- a log that runs isn't stopped
pub not_stopped : {P : Type 0} (stopped : Bool) → stopped ≡ false → stopped ≡ true → P
not_stopped stopped off on = let z : ⊥ = cc (on, off) in absurd z

-- a log that isn't stopped was refused
pub running : {P : Type 0} (stopped : Bool) → (stopped ≡ true) ⊎ P → stopped ≡ false → P
running stopped (inl on) off = not_stopped stopped off on
running stopped (inr p) off = p

pub stopped_or_not : (stopped : Bool) → (stopped ≡ true) ⊎ (stopped ≡ false)
stopped_or_not true = inl refl
stopped_or_not false = inr refl

-- a log that runs ran before
pub ran : (was now : Bool) → (was ≡ true → now ≡ was) → now ≡ false → was ≡ false
ran false now stays runs = refl
ran true now stays runs = let z : ⊥ = cc (stays refl, runs) in absurd z

-- a log that runs after a call leaves its texts
pub still_leaves : {T E D : Type 0} (r : Result T E) (is_clean : D → Bool) (may_leave : D → List ℕ → Type 0) (old new : Contents D) → new.head ≡ old.head → OnOk r (IsTrue (is_clean new.disk) → LeavesTexts new.head new.texts (may_leave new.disk)) → OnErr r ((new.stopped ≡ true) ⊎ (IsTrue (is_clean new.disk) → (new.texts ≡ old.texts) × LeavesTexts old.head old.texts (may_leave new.disk))) → new.stopped ≡ false → IsTrue (is_clean new.disk) → LeavesTexts new.head new.texts (may_leave new.disk)
still_leaves (Ok x) is_clean may_leave old new head kept refused runs clean = kept clean
still_leaves (Err e) is_clean may_leave old new head kept (inl on) runs clean = let z : ⊥ = cc (on, runs) in absurd z
still_leaves (Err e) is_clean may_leave old new head kept (inr same) runs clean =
    λ file left.
    let was = (same clean).1 file left in
    subst (λ (h : Head). HasTexts h new.texts file) (sym head) (subst (λ (t : List (List ℕ)). HasTexts old.head t file) (sym (same clean).0) was)

-- the file that counts has some texts or more
pub either_pair : (swapped : Bool) (head : Head) (texts more : List (List ℕ)) (left : Held) → HasTexts head texts (counted_in swapped left) ⊎ HasTexts head more (counted_in swapped left) → IsOlder head.generation (other_in swapped left) → HavePair head texts left ⊎ HavePair head more left
either_pair swapped head texts more left (inl has) older = inl (have_pair swapped head texts left (record { has = has; older = older }))
either_pair swapped head texts more left (inr has) older = inr (have_pair swapped head more left (record { has = has; older = older }))

-- a log that was read is what it was
pub read_pair : {D : Type 0} (is_clean : D → Bool) (may_leave : D → List ℕ → Type 0) (old new : Contents D) (spare : D) → new.head ≡ old.head → new.texts ≡ old.texts → new.stopped ≡ old.stopped → ((file : List ℕ) → may_leave new.disk file → may_leave old.disk file) → (IsTrue (is_clean new.disk) → IsTrue (is_clean old.disk)) → IsPair is_clean may_leave old spare → IsPair is_clean may_leave new spare
read_pair is_clean may_leave old new spare head texts stopped no_more cleaner k = record {
  leaves = λ runs clean file left.
      let was = k.leaves (sym stopped ∙ runs) (cleaner clean) file (no_more file left) in
      subst (λ (h : Head). HasTexts h new.texts file) (sym head) (subst (λ (t : List (List ℕ)). HasTexts old.head t file) (sym texts) was);
  older = λ runs clean spare_clean. subst (λ (h : Head). AreOlder h.generation (may_leave spare)) (sym head) (k.older (sym stopped ∙ runs) (cleaner clean) spare_clean);
}

-- the texts that a crash leaves are those of now
pub now_left : {D : Type 0} (may_leave : D → List ℕ → Type 0) (new : Pair D) (texts : List (List ℕ)) → (new.texts ≡ texts) × LeavePair may_leave new.head texts new.files → LeavePair may_leave new.head new.texts new.files
now_left may_leave new texts done = subst (λ (t : List (List ℕ)). LeavePair may_leave new.head t new.files) (sym done.0) done.1
