-- What files stand for that a crash may leave.
use Rattle.std.proofs.Common.{◌≡◌, inl, inr, ℕ, List, [], ◌∷◌, ◌++◌, drop, map, Bool, true, false, Some, Option, sym, ◌∙◌, ap, subst}
use Rattle.std.specs.declared.cmp.Ordering.{Ordering}
use Rattle.store_codec.specs.declared.records.Record.{Record}
use Rattle.store_frames.specs.Seal.{sealed, text_of}
use Rattle.store_frames.proofs.Batches.{reads_once}
use Rattle.store_frames.proofs.Seals.{text_of-sealed}
use Rattle.store_log.proofs.Texts.{texts-sealed}
use Rattle.store_log.specs.Head.{HasKinds, head_at}
use Rattle.store_log.specs.Log.{HasTexts}
use Rattle.store_pair.specs.Pair.{HavePair, Held, LeavePair}
use Rattle.store_pair.proofs.Pairs.{counts_counted, have_parts}
use Rattle.store_log.specs.declared.head.Head.{Head}
use Rattle.tree_store.specs.Changes.{Leads}
use Rattle.tree_store.specs.Store.{Leave, StandFor}
use Rattle.store_pair.specs.declared.files.Files.{Files}

-- a file has one head and one list of texts
module _ (file : List ℕ) (head other : Head) (texts more : List (List ℕ)) (a : HasTexts head texts file) (b : HasTexts other more file) where
  same_batches : sealed head.key a.first ∷ map (sealed head.key) texts ≡ sealed other.key b.first ∷ map (sealed other.key) more
  same_batches = reads_once (sealed head.key a.first ∷ map (sealed head.key) texts) (sealed other.key b.first ∷ map (sealed other.key) more) file a.reads b.reads

  pub has_once : texts ≡ more
  has_once = sym (texts-sealed head.key texts) ∙ ap (λ (l : List (List ℕ)). map text_of (drop 1 l)) same_batches ∙ texts-sealed other.key more

  pub head_once : head ≡ other
  head_once =
      let batch : sealed head.key a.first ≡ sealed other.key b.first = cc same_batches in
      let first : a.first ≡ b.first = sym (text_of-sealed head.key a.first) ∙ ap (λ (l : List ℕ). text_of l) batch ∙ text_of-sealed other.key b.first in
      let some : Some head ≡ Some other = sym a.is ∙ ap (λ (l : List ℕ). head_at l) first ∙ b.is in
      cc some

-- so have two files, of which one counts
pub pair_once : (held : Held) (head other : Head) (texts more : List (List ℕ)) → HavePair head texts held → HavePair other more held → (texts ≡ more) × (head ≡ other)
pair_once held head other texts more (inl a) b =
    let c = have_parts false other more held (counts_counted head texts held.first held.second a) b in
    (has_once held.first head other texts more a.has c.has, head_once held.first head other texts more a.has c.has)
pair_once held head other texts more (inr a) b =
    let c = have_parts true other more held (counts_counted head texts held.second held.first a) b in
    (has_once held.second head other texts more a.has c.has, head_once held.second head other texts more a.has c.has)

module _ {K V A B : Type 0} (cmp : K → K → Ordering) (seen_key : K → A) (seen_value : V → B) (read : List ℕ → Option (Record A B × List ℕ)) (kinds : ℕ × ℕ) (head : Head) (are : HasKinds head kinds) where
  pub stand : (texts : List (List ℕ)) (held : Held) (pairs : List (K × V)) → HavePair head texts held → Leads cmp seen_key seen_value read texts [] pairs → StandFor cmp seen_key seen_value read kinds held pairs
  stand texts held pairs has leads = record { head = head; are = are; texts = texts; has = has; leads = leads }

  pub leave : {D : Type 0} (may_leave : D → List ℕ → Type 0) (files : Files D) (texts : List (List ℕ)) (pairs : List (K × V)) → LeavePair may_leave head texts files → Leads cmp seen_key seen_value read texts [] pairs → Leave cmp seen_key seen_value read kinds may_leave files pairs
  leave may_leave files texts pairs leaves leads left may = stand texts left pairs (leaves left may) leads
