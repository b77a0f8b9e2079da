-- The texts of a log, and what an append does to them.
use Rattle.std.proofs.Common.{◌≡◌, ◌⊎◌, inl, inr, ℕ, ◌^◌, ◌<◌, List, [], ◌∷◌, ◌++◌, length, drop, map, Some, refl, sym, ◌∙◌, ap, subst, arith}
use Rattle.std.proofs.lemmas.List.{append-nil, map-append}
use Rattle.sqlite_disk.specs.Disk.{Only}
use Rattle.store_frames.specs.Frame.{AreShort, Reads, frame, frames, at_rest, batches_of}
use Rattle.store_frames.specs.Seal.{sealed, text_of, AreSealed}
use Rattle.store_frames.proofs.Batches.{reads_once}
use Rattle.store_frames.proofs.Seals.{text_of-sealed, sealed_again}
use Rattle.store_frames.proofs.Spelled.{reads_own}
use Rattle.store_log.specs.Head.{head_at}
use Rattle.store_log.specs.Rest.{IsAtRest, LeavesThese, LeavesTheseOr}
use Rattle.store_log.specs.Log.{Finds, HasTexts, IsKept, LeavesTexts, texts_of}
use Rattle.store_log.specs.declared.head.Head.{Head}
use Rattle.store_log.specs.declared.frame_file.FrameFile.{FrameFile}
use Rattle.store_log.proofs.AtRest.{at_rest_are}

pub texts-sealed : (key : ℕ) (texts : List (List ℕ)) → map text_of (map (sealed key) texts) ≡ texts
texts-sealed key [] = refl
texts-sealed key (text ∷ texts) =
    ap (λ (l : List (List ℕ)). text_of (sealed key text) ∷ l) (texts-sealed key texts) ∙ ap (λ (t : List ℕ). t ∷ texts) (text_of-sealed key text)

pub all_sealed : (key : ℕ) (batches : List (List ℕ)) → AreSealed key batches → batches ≡ map (sealed key) (map text_of batches)
all_sealed key [] all = refl
all_sealed key (batch ∷ batches) all =
    ap (λ (l : List (List ℕ)). batch ∷ l) (all_sealed key batches all.1) ∙ ap (λ (b : List ℕ). b ∷ map (sealed key) (map text_of batches)) all.0

pub sealed_all : (key : ℕ) (texts : List (List ℕ)) → AreSealed key (map (sealed key) texts)
sealed_all key [] = search
sealed_all key (text ∷ texts) = (sealed_again key text, sealed_all key texts)

module _ {D : Type 0} (seen : D → List ℕ) (may_leave : D → List ℕ → Type 0) (head : Head) (file : FrameFile D) (k : IsKept seen may_leave head file) where
  -- a file with the same batches has the same texts
  pub has_these : (c : List ℕ) → Reads (batches_of (seen file.disk)) c → HasTexts head (texts_of (seen file.disk)) c
  has_these c reads = record { first = k.first; is = k.is; reads = subst (λ (b : List (List ℕ)). Reads b c) k.sealed_all reads }

  pub kept_has : HasTexts head (texts_of (seen file.disk)) (seen file.disk)
  kept_has = has_these (seen file.disk) (reads_own (seen file.disk))

  pub kept_leaves : LeavesTexts head (texts_of (seen file.disk)) (may_leave file.disk)
  kept_leaves c left = subst (HasTexts head (texts_of (seen file.disk))) (sym (k.rest.durable c left)) kept_has

  module _ (new : FrameFile D) (r : IsAtRest seen may_leave (batches_of (seen file.disk)) new) where
    same_batches : batches_of (seen new.disk) ≡ batches_of (seen file.disk)
    same_batches = at_rest_are seen may_leave (batches_of (seen file.disk)) new r

    pub same_texts : texts_of (seen new.disk) ≡ texts_of (seen file.disk)
    same_texts = ap (λ (b : List (List ℕ)). map text_of (drop 1 b)) same_batches

    pub still_kept : IsKept seen may_leave head new
    still_kept = record {
      first = k.first;
      is = k.is;
      rest = subst (λ (b : List (List ℕ)). IsAtRest seen may_leave b new) (sym same_batches) r;
      sealed_all = same_batches ∙ k.sealed_all ∙ ap (λ (t : List (List ℕ)). sealed head.key k.first ∷ map (sealed head.key) t) (sym same_texts);
    }

  -- the same over a disk that was read
  module _ (disk : D) (same : seen disk ≡ seen file.disk) (no_more : (c : List ℕ) → may_leave disk c → may_leave file.disk c) where
    read_batches : batches_of (seen disk) ≡ batches_of (seen file.disk)
    read_batches = ap batches_of same

    pub read_again : IsKept seen may_leave head (record file { disk = disk })
    read_again = record {
      first = k.first;
      is = k.is;
      rest = record {
        junk = k.rest.junk;
        is = same ∙ k.rest.is ∙ ap (λ (b : List (List ℕ)). at_rest b file.room k.rest.junk) (sym read_batches);
        end = k.rest.end ∙ ap (λ (b : List (List ℕ)). length (frames b)) (sym read_batches);
        some = k.rest.some;
        short = subst AreShort (sym read_batches) k.rest.short;
        durable = λ c left. k.rest.durable c (no_more c left) ∙ sym same;
      };
      sealed_all = read_batches ∙ k.sealed_all ∙ ap (λ (s : List ℕ). sealed head.key k.first ∷ map (sealed head.key) (texts_of s)) (sym same);
    }

  module _ (text : List ℕ) where
    more_sealed : batches_of (seen file.disk) ++ sealed head.key text ∷ [] ≡ sealed head.key k.first ∷ map (sealed head.key) (texts_of (seen file.disk) ++ text ∷ [])
    more_sealed =
        ap (λ (b : List (List ℕ)). b ++ sealed head.key text ∷ []) k.sealed_all
        ∙ ap (λ (l : List (List ℕ)). sealed head.key k.first ∷ l) (sym (map-append (sealed head.key) (texts_of (seen file.disk)) (text ∷ [])))

    -- a crash leaves the texts, with one more or without it
    pub before_or_after : (outcomes : List ℕ → Type 0) → LeavesTheseOr (batches_of (seen file.disk)) (sealed head.key text) outcomes → (c : List ℕ) → outcomes c →
        HasTexts head (texts_of (seen file.disk)) c ⊎ HasTexts head (texts_of (seen file.disk) ++ text ∷ []) c
    before_or_after outcomes leaves c left = elim (leaves c left) [
      | inl before ↦ inl (has_these c before)
      | inr after ↦ inr (record { first = k.first; is = k.is; reads = subst (λ (b : List (List ℕ)). Reads b c) more_sealed after })
    ]

    module _ (new : FrameFile D) (r : IsAtRest seen may_leave (batches_of (seen file.disk) ++ sealed head.key text ∷ []) new) where
      more_batches : batches_of (seen new.disk) ≡ batches_of (seen file.disk) ++ sealed head.key text ∷ []
      more_batches = at_rest_are seen may_leave (batches_of (seen file.disk) ++ sealed head.key text ∷ []) new r

      pub more_texts : texts_of (seen new.disk) ≡ texts_of (seen file.disk) ++ text ∷ []
      more_texts =
          ap (λ (b : List (List ℕ)). map text_of (drop 1 b)) (more_batches ∙ more_sealed)
          ∙ texts-sealed head.key (texts_of (seen file.disk) ++ text ∷ [])

      pub kept_more : IsKept seen may_leave head new
      kept_more = record {
        first = k.first;
        is = k.is;
        rest = subst (λ (b : List (List ℕ)). IsAtRest seen may_leave b new) (sym more_batches) r;
        sealed_all = more_batches ∙ more_sealed ∙ ap (λ (t : List (List ℕ)). sealed head.key k.first ∷ map (sealed head.key) t) (sym more_texts);
      }

-- a crash that leaves the batches of a file leaves its texts
pub leaves_texts : (file : List ℕ) (outcomes : List ℕ → Type 0) (head : Head) (texts : List (List ℕ)) → HasTexts head texts file → LeavesThese (batches_of file) outcomes → LeavesTexts head texts outcomes
leaves_texts file outcomes head texts h leaves c left =
    let batches = sealed head.key h.first ∷ map (sealed head.key) texts in
    let are : batches_of file ≡ batches = reads_once (batches_of file) batches file (reads_own file) h.reads in
    record { first = h.first; is = h.is; reads = subst (λ (b : List (List ℕ)). Reads b c) are (leaves c left) }

-- a file that was found sound, and then brought to rest
module _ {D : Type 0} (seen : D → List ℕ) (may_leave : D → List ℕ → Type 0) (head : Head) (end : ℕ) (found : List ℕ) (f : Finds found head end) (file : FrameFile D) (r : IsAtRest seen may_leave (batches_of found) file) where
  found_batches : batches_of (seen file.disk) ≡ batches_of found
  found_batches = at_rest_are seen may_leave (batches_of found) file r

  found_sealed : batches_of found ≡ sealed head.key f.first ∷ map (sealed head.key) (texts_of (seen file.disk))
  found_sealed = f.sealed_all ∙ ap (λ (b : List (List ℕ)). sealed head.key f.first ∷ map (sealed head.key) (map text_of (drop 1 b))) (sym found_batches)

  pub opened_kept : IsKept seen may_leave head file
  opened_kept = record {
    first = f.first;
    is = f.is;
    rest = subst (λ (b : List (List ℕ)). IsAtRest seen may_leave b file) (sym found_batches) r;
    sealed_all = found_batches ∙ found_sealed;
  }

  pub opened_has : HasTexts head (texts_of (seen file.disk)) found
  opened_has = record { first = f.first; is = f.is; reads = subst (λ (b : List (List ℕ)). Reads b found) found_sealed (reads_own found) }

-- a file with a head alone
module _ {D : Type 0} (seen : D → List ℕ) (may_leave : D → List ℕ → Type 0) (head : Head) (first : List ℕ) (is : head_at first ≡ Some head) (few : length (sealed head.key first) < 128 ^ 5) (file : FrameFile D) (room : file.room ≡ 1) (end : file.end ≡ length (frame (sealed head.key first))) (whole : seen file.disk ≡ frame (sealed head.key first) ++ 0 ∷ []) (durable : Only (seen file.disk) (may_leave file.disk)) where
  alone_rest : IsAtRest seen may_leave (sealed head.key first ∷ []) file
  alone_rest = record {
    junk = [];
    is = whole ∙ ap (λ (l : List ℕ). l ++ 0 ∷ []) (sym (append-nil (frame (sealed head.key first)))) ∙ ap (λ (n : ℕ). at_rest (sealed head.key first ∷ []) n []) (sym room);
    end = end ∙ ap length (sym (append-nil (frame (sealed head.key first))));
    some = omega (arith, room);
    short = search;
    durable = durable;
  }

  alone_batches : batches_of (seen file.disk) ≡ sealed head.key first ∷ []
  alone_batches = at_rest_are seen may_leave (sealed head.key first ∷ []) file alone_rest

  pub alone_texts : texts_of (seen file.disk) ≡ []
  alone_texts = ap (λ (b : List (List ℕ)). map text_of (drop 1 b)) alone_batches

  pub alone_kept : IsKept seen may_leave head file
  alone_kept = record {
    first = first;
    is = is;
    rest = subst (λ (b : List (List ℕ)). IsAtRest seen may_leave b file) (sym alone_batches) alone_rest;
    sealed_all = alone_batches ∙ ap (λ (t : List (List ℕ)). sealed head.key first ∷ map (sealed head.key) t) (sym alone_texts);
  }
