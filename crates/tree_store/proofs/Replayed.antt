-- What a replay has applied, and what is ahead of it.
use Rattle.std.proofs.Common.{◌≡◌, ℕ, ◌<◌, ◌==◌, suc, Bool, true, false, List, [], ◌∷◌, ◌++◌, length, map, Option, Some, None, refl, sym, ◌∙◌, ap, subst, arith, append_assoc}
use Rattle.std.proofs.lemmas.List.{append-nil, map-append}
use Rattle.std.proofs.lemmas.Bool.Decides.{nat_tests}
use Rattle.std.specs.Prelude.{Err, IsErrOf}
use Rattle.std.specs.declared.cmp.Ordering.{Ordering}
use Rattle.store_codec.specs.Records.{record_map}
use Rattle.store_codec.specs.declared.records.Record.{Record}
use Rattle.store_frames.specs.Frame.{Reads, first_frame}
use Rattle.store_frames.specs.Seal.{sealed, text_of}
use Rattle.store_frames.proofs.Batches.{before, behind, none_some}
use Rattle.store_frames.proofs.Seals.{text_of-sealed}
use Rattle.store_log.specs.Log.{HasTexts}
use Rattle.store_log.specs.declared.head.Head.{Head}
use Rattle.tree_store.specs.Changes.{changed, changed_by, HaveRecords, Leads, ReadsRecords}

module _ {A B : Type 0} (read : List ℕ → Option (Record A B × List ℕ)) where
  -- a text that has records, of which the first was read, has the others behind it
  pub rest_has : (rest behind_ : List ℕ) (r : Record A B) → 0 < length rest → read rest ≡ Some (r, behind_) → (left : List (Record A B)) × ReadsRecords read left rest → (left : List (Record A B)) × ReadsRecords read left behind_
  rest_has rest behind_ r some found has = go has.0 has.1
    where
      go : (left : List (Record A B)) → ReadsRecords read left rest → (more : List (Record A B)) × ReadsRecords read more behind_
      go [] reads = absurd (omega (arith, some, ap length reads))
      go (q ∷ left) reads =
          let pair : (q, reads.0) ≡ (r, behind_) = cc (reads.1, found) in
          let same : reads.0 ≡ behind_ = ap (λ (p : Record A B × List ℕ). p.1) pair in
          (left, subst (ReadsRecords read left) same reads.2)

  -- a text in which no record is found has none
  pub has_none : (rest : List ℕ) → 0 < length rest → read rest ≡ None → (left : List (Record A B)) × ReadsRecords read left rest → ⊥
  has_none rest some none has = go has.0 has.1
    where
      go : (left : List (Record A B)) → ReadsRecords read left rest → ⊥
      go [] reads = absurd (omega (arith, some, ap length reads))
      go (q ∷ left) reads = cc (reads.1, none)

-- the frames behind the head have the texts
pub behind_head : (file batch behind_ : List ℕ) → first_frame file ≡ Some (batch, behind_) → (head : Head) (texts : List (List ℕ)) → HasTexts head texts file → Reads (map (sealed head.key) texts) behind_
behind_head file batch behind_ found head texts h =
    let same : Some (sealed head.key h.first, h.reads.0) ≡ Some (batch, behind_) = sym h.reads.1 ∙ found in
    subst (Reads (map (sealed head.key) texts)) (ap behind same) h.reads.2

-- which error it is
pub same_err : {T E : Type 0} (x y : E) → IsErrOf {T = T} {E = E} (Err x) y → x ≡ y
same_err x y is = cc is

not_zero : (n : ℕ) → (suc n == 0) ≡ true → ⊥
not_zero n e = grind (arith, nat_tests, e)

-- what a test for emptiness says
pub is_nil : (l : List ℕ) (b : Bool) → b ≡ (length l == 0) → b ≡ true → l ≡ []
is_nil [] b same test = refl
is_nil (x ∷ l) b same test = absurd (not_zero (length l) (sym same ∙ test))

pub not_nil : (l : List ℕ) (b : Bool) → b ≡ (length l == 0) → b ≡ false → 0 < length l
not_nil [] b same test = let z : ⊥ = cc (sym same ∙ test) in absurd z
not_nil (x ∷ l) b same test = omega arith

pub nil_of : (l : List ℕ) → length l ≡ 0 → l ≡ []
nil_of [] e = refl
nil_of (x ∷ l) e = absurd (omega (arith, e))

module _ {K V A B : Type 0} (cmp : K → K → Ordering) (seen_key : K → A) (seen_value : V → B) (read : List ℕ → Option (Record A B × List ℕ)) where
  -- these records of the text were read and applied, and the rest is ahead
  pub record Applied (text rest : List ℕ) (first now : List (K × V)) : Type 0 where
    pub done : List (Record K V)
    pub grows : (left : List (Record A B)) → ReadsRecords read left rest → ReadsRecords read (map (record_map seen_key seen_value) done ++ left) text
    pub are : now ≡ changed_by cmp done first
    pub has : (records : List (Record A B)) → ReadsRecords read records text → (left : List (Record A B)) × ReadsRecords read left rest

  pub none_applied : (text : List ℕ) (first : List (K × V)) → Applied text text first first
  none_applied text first = record { done = []; grows = λ left reads. reads; are = refl; has = λ records reads. (records, reads) }

  changed_by-push : (done : List (Record K V)) (r : Record K V) (first : List (K × V)) → changed_by cmp (done ++ r ∷ []) first ≡ changed cmp r (changed_by cmp done first)
  changed_by-push [] r first = refl
  changed_by-push (d ∷ done) r first = changed_by-push done r (changed cmp d first)

  pub one_applied : (text rest behind_ : List ℕ) (first now next : List (K × V)) (r : Record K V) → 0 < length rest → read rest ≡ Some (record_map seen_key seen_value r, behind_) → next ≡ changed cmp r now → Applied text rest first now → Applied text behind_ first next
  one_applied text rest behind_ first now next r some found does a =
      let seen = record_map seen_key seen_value in
      record {
        done = a.done ++ r ∷ [];
        grows = λ left reads.
            let same : map seen (a.done ++ r ∷ []) ++ left ≡ map seen a.done ++ seen r ∷ left = ap (λ (l : List (Record A B)). l ++ left) (map-append seen a.done (r ∷ [])) ∙ append_assoc (map seen a.done) (seen r ∷ []) left in
            subst (λ (l : List (Record A B)). ReadsRecords read l text) (sym same) (a.grows (seen r ∷ left) (behind_, found, reads));
        are = does ∙ ap (changed cmp r) a.are ∙ sym (changed_by-push a.done r first);
        has = λ records reads. rest_has read rest behind_ (seen r) some found (a.has records reads);
      }

  pub all_applied : (text rest : List ℕ) (first now : List (K × V)) (a : Applied text rest first now) → rest ≡ [] → ReadsRecords read (map (record_map seen_key seen_value) a.done) text
  all_applied text rest first now a empty = subst (λ (l : List (Record A B)). ReadsRecords read l text) (append-nil (map (record_map seen_key seen_value) a.done)) (a.grows [] empty)

  -- these texts are ahead, and lead on from the pairs of now
  pub record Ahead (key : ℕ) (texts : List (List ℕ)) (first now : List (K × V)) (rest : List ℕ) : Type 0 where
    pub left : List (List ℕ)
    pub reads : Reads (map (sealed key) left) rest
    pub leads : (new : List (K × V)) → Leads cmp seen_key seen_value read left now new → Leads cmp seen_key seen_value read texts first new
    pub have : HaveRecords read texts → HaveRecords read left

  pub all_ahead : (key : ℕ) (texts : List (List ℕ)) (first : List (K × V)) (bytes : List ℕ) → Reads (map (sealed key) texts) bytes → Ahead key texts first first bytes
  all_ahead key texts first bytes reads = record { left = texts; reads = reads; leads = λ new leads. leads; have = λ have. have }

  pub none_ahead : (key : ℕ) (texts : List (List ℕ)) (first now : List (K × V)) (rest : List ℕ) → first_frame rest ≡ None → Ahead key texts first now rest → Leads cmp seen_key seen_value read texts first now
  none_ahead key texts first now rest none a = go a.left a.reads a.leads
    where
      go : (left : List (List ℕ)) → Reads (map (sealed key) left) rest → ((new : List (K × V)) → Leads cmp seen_key seen_value read left now new → Leads cmp seen_key seen_value read texts first new) → Leads cmp seen_key seen_value read texts first now
      go [] reads leads = leads now refl
      go (text ∷ left) reads leads = absurd (none_some (sealed key text, reads.0) (sym none ∙ reads.1))

  module _ (key : ℕ) (texts : List (List ℕ)) (first now : List (K × V)) (rest batch behind_ : List ℕ) (found : first_frame rest ≡ Some (batch, behind_)) where
    text_is : (text more : List ℕ) → first_frame rest ≡ Some (sealed key text, more) → text_of batch ≡ text
    text_is text more e =
        let same : Some (sealed key text, more) ≡ Some (batch, behind_) = sym e ∙ found in
        ap (λ (b : List ℕ). text_of b) (sym (ap before same)) ∙ text_of-sealed key text

    rest_is : (text more : List ℕ) → first_frame rest ≡ Some (sealed key text, more) → more ≡ behind_
    rest_is text more e =
        let same : Some (sealed key text, more) ≡ Some (batch, behind_) = sym e ∙ found in
        ap behind same

    -- the text of the first frame has records
    pub front_has : Ahead key texts first now rest → HaveRecords read texts → (records : List (Record A B)) × ReadsRecords read records (text_of batch)
    front_has a have = go a.left a.reads (a.have have)
      where
        go : (left : List (List ℕ)) → Reads (map (sealed key) left) rest → HaveRecords read left → (records : List (Record A B)) × ReadsRecords read records (text_of batch)
        go [] reads has = absurd (none_some (batch, behind_) (sym reads ∙ found))
        go (text ∷ left) reads has = (has.0.0, subst (ReadsRecords read has.0.0) (sym (text_is text reads.0 reads.1)) has.0.1)

    -- one more text was applied
    pub one_ahead : (next : List (K × V)) (records : List (Record K V)) → ReadsRecords read (map (record_map seen_key seen_value) records) (text_of batch) → next ≡ changed_by cmp records now → Ahead key texts first now rest → Ahead key texts first next behind_
    one_ahead next records read_ does a = go a.left a.reads a.leads a.have
      where
        go : (left : List (List ℕ)) → Reads (map (sealed key) left) rest → ((new : List (K × V)) → Leads cmp seen_key seen_value read left now new → Leads cmp seen_key seen_value read texts first new) → (HaveRecords read texts → HaveRecords read left) → Ahead key texts first next behind_
        go [] reads leads have = absurd (none_some (batch, behind_) (sym reads ∙ found))
        go (text ∷ left) reads leads have = record {
          left = left;
          reads = subst (Reads (map (sealed key) left)) (rest_is text reads.0 reads.1) reads.2;
          leads = λ new l. leads new (records, subst (ReadsRecords read (map (record_map seen_key seen_value) records)) (text_is text reads.0 reads.1) read_, subst (λ (i : List (K × V)). Leads cmp seen_key seen_value read left i new) does l);
          have = λ h. (have h).1;
        }
