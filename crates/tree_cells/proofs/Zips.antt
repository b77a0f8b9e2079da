-- Keys and values that stand apart, as pairs.
use Rattle.std.proofs.Common.{◌-◌, ◌≡◌, ℕ, zero, suc, List, [], ◌∷◌, length, set, replicate, get_or, Option, None, Some, IsSome, MatchOption, is_some, refl, sym, ◌∙◌, ap, subst, arith, get_or-set_same, get_or-set_other, length-set}
use Rattle.tree_cells.proofs.Common.{⊤, cases_eq, cases_lt, get_or_past, length-replicate, set-get_or, arrival, pair_up, seen_cells, zipped, AreFilledAlike, Held}
use Rattle.std.proofs.lemmas.Simd.{length-zip2}
use Rattle.tree_cells.proofs.Moves.{none_replicated}
use Rattle.tree_cells.proofs.Picks.{some_of}
use Rattle.tree_cells.specs.declared.cells.Rows.{Rows}

module _ {K V : Type 0} where
  zipped_at : (keys : List (Option K)) (vals : List (Option V)) (p : ℕ) → length keys ≡ length vals → arrival (zipped keys vals) p ≡ pair_up (get_or keys p None) (get_or vals p None)
  zipped_at [] vals p e = refl
  zipped_at (key ∷ keys) [] p e = absurd (omega (arith, e))
  zipped_at (key ∷ keys) (val ∷ vals) p e = grind (arith, zipped_at keys vals (p - 1))

  pub length-zipped : (keys : List (Option K)) (vals : List (Option V)) → length keys ≡ length vals → length (zipped keys vals) ≡ length keys
  length-zipped keys vals e = length-zip2 pair_up keys vals e

  zipped_set : (keys : List (Option K)) (vals : List (Option V)) (p : ℕ) (key : Option K) (val : Option V) → length keys ≡ length vals → zipped (set keys p key) (set vals p val) ≡ set (zipped keys vals) p (pair_up key val)
  zipped_set [] vals p k v e = refl
  zipped_set (key ∷ keys) [] p k v e = absurd (omega (arith, e))
  zipped_set (key ∷ keys) (val ∷ vals) p k v e = grind (arith, zipped_set keys vals (p - 1) k v)

  zipped_none : (n : ℕ) → zipped {K = K} {V = V} (replicate n None) (replicate n None) ≡ replicate n None
  zipped_none zero = refl
  zipped_none (suc n) = ap (λ (q : List (Option (K × V))). None ∷ q) (zipped_none n)

  both_some : (key : Option K) (val : Option V) → IsSome (pair_up key val) → IsSome key × IsSome val
  both_some key val h = grind arith

  both_none : (key : Option K) (val : Option V) → is_some key ≡ is_some val → pair_up key val ≡ None → (key ≡ None) × (val ≡ None)
  both_none key val same h = grind arith

  -- a row of keys and one of values, as contracts see them
  pub record AreSeenAs (keys : List (Option K)) (vals : List (Option V)) (pairs : List (Option (K × V))) : Type 0 where
    pub view : zipped keys vals ≡ pairs
    pub same : length keys ≡ length vals
    pub alike : AreFilledAlike keys vals

  -- those of cells
  pub rows_seen : {len : ℕ} {cells : Option (Rows K V len)} {rows : Rows K V len} {held : Held K V} → cells ≡ Some rows → seen_cells len (λ (rows : Rows K V len). record { pairs = zipped rows.keys.slots rows.vals.slots; counts = rows.counts }) cells ≡ held
      → MatchOption cells ⊤ (λ (rows : Rows K V len). AreFilledAlike rows.keys.slots rows.vals.slots) → AreSeenAs rows.keys.slots rows.vals.slots held.pairs
  rows_seen {rows = rows} is view alike = record { view = ap (λ (held : Held K V). held.pairs) (rw is at view); same = rows.keys.whole ∙ sym rows.vals.whole; alike = rw is at alike }

  pub counts_seen : {len : ℕ} {cells : Option (Rows K V len)} {rows : Rows K V len} {held : Held K V} → cells ≡ Some rows → seen_cells len (λ (rows : Rows K V len). record { pairs = zipped rows.keys.slots rows.vals.slots; counts = rows.counts }) cells ≡ held → rows.counts ≡ held.counts
  counts_seen is view = ap (λ (held : Held K V). held.counts) (rw is at view)

  pub rows_alike : {len : ℕ} {keys : List (Option K)} {vals : List (Option V)} → length keys ≡ len → length vals ≡ len → AreFilledAlike keys vals → AreSeenAs keys vals (zipped keys vals)
  rows_alike whole whole' alike = record { view = refl; same = whole ∙ sym whole'; alike = alike }

  -- rows that hold nothing
  pub none_seen : (n : ℕ) → AreSeenAs (replicate n None) (replicate n None) (replicate n None)
  none_seen n = record {
    view = zipped_none n;
    same = length-replicate {A = Option K} n None ∙ sym (length-replicate {A = Option V} n None);
    alike = record { alike = λ p. rw (none_replicated {X = K} n p, none_replicated {X = V} n p) refl };
  }

  module _ {keys : List (Option K)} {vals : List (Option V)} {pairs : List (Option (K × V))} (rows : AreSeenAs keys vals pairs) where
    pub paired_at : (p : ℕ) → arrival pairs p ≡ pair_up (get_or keys p None) (get_or vals p None)
    paired_at p = rw (← rows.view) (zipped_at keys vals p rows.same)

    pub has_both : (p : ℕ) → IsSome (arrival pairs p) → IsSome (get_or keys p None) × IsSome (get_or vals p None)
    has_both p some = both_some (get_or keys p None) (get_or vals p None) (subst IsSome (paired_at p) some)

    pub has_none : (p : ℕ) → arrival pairs p ≡ None → (get_or keys p None ≡ None) × (get_or vals p None ≡ None)
    has_none p none = both_none (get_or keys p None) (get_or vals p None) (rows.alike.alike p) (sym (paired_at p) ∙ none)

    pub key_there : (p : ℕ) → IsSome (arrival pairs p) → (key : K) × (get_or keys p None ≡ Some key)
    key_there p some = some_of (get_or keys p None) (has_both p some).0

    pub val_there : (p : ℕ) → IsSome (arrival pairs p) → (val : V) × (get_or vals p None ≡ Some val)
    val_there p some = some_of (get_or vals p None) (has_both p some).1

    pub is_pair : (p : ℕ) (key : K) (val : V) → get_or keys p None ≡ Some key → get_or vals p None ≡ Some val → arrival pairs p ≡ Some (key, val)
    is_pair p key val k v = paired_at p ∙ rw (k, v) refl

    -- both rows are written to
    pub pair_set : (p : ℕ) (key : Option K) (val : Option V) → is_some key ≡ is_some val → AreSeenAs (set keys p key) (set vals p val) (set pairs p (pair_up key val))
    pair_set p key val same = record {
      view = zipped_set keys vals p key val rows.same ∙ ap (λ (q : List (Option (K × V))). set q p (pair_up key val)) rows.view;
      same = length-set keys p key ∙ rows.same ∙ sym (length-set vals p val);
      alike = record {
        alike = λ q. grind (arith, same, rows.same, rows.alike.alike q, get_or-set_same, get_or-set_other, get_or_past, length-set, cases_eq q p, cases_lt p (length keys));
      };
    }

    -- another value, where there is a key
    pub val_set : (p : ℕ) (key : K) (val : V) → get_or keys p None ≡ Some key → AreSeenAs keys (set vals p (Some val)) (set pairs p (Some (key, val)))
    val_set p key val h = subst (λ (q : List (Option K)). AreSeenAs q (set vals p (Some val)) (set pairs p (Some (key, val)))) (rw h at (set-get_or keys p None)) (pair_set p (Some key) (Some val) refl)
