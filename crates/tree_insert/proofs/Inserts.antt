-- An insert in a leaf, and in the child that a key belongs to.
use Rattle.tree_insert.proofs.Common.{AllByRecursion, AllLarger, Arrivals, Bool, Duplicate, Err, Full, HasChildFor, Inserts, InsertsUnder, IsPacked, IsPart, IsStore, IsStored, IsTotalOrder}
use Rattle.tree_insert.proofs.Common.{LeafOf, Less, List, New, None, Ok, Ordering, Replaced, Result, Some, StoreResult, TreeArenas, Unchanged, [], all-append, all-filter, ap, arith}
use Rattle.tree_insert.proofs.Common.{array_replaces, asks_split, back_walk_above, cases_eq, declined, edge_below, false, free, front_walk_below, get, here_now, inl, inr, length, length-append}
use Rattle.tree_insert.proofs.Common.{new_spare, new_walk, node_replaces, node_stands, none_free, old_spare, old_walk, on_err_weaker, packed_above, packed_stored, put, refl, refused}
use Rattle.tree_insert.proofs.Common.{same_node, spare_written, spend, spent_at, sub-one, suc, sym, updated, walk, with_array, zero, ℕ, ◌++◌, ◌-◌, ◌<◌, ◌∙◌, ◌∷◌, ◌≡◌}
use Rattle.std.proofs.lemmas.List.{length-map}
use Rattle.tree_insert.proofs.Restarts.{changes_nothing}
use Rattle.tree_model.proofs.Ascending.{IsAscending-put}
use Rattle.tree_model.proofs.Lengths.{length-put, without_few}
use Rattle.tree_model.proofs.LookUps.{put_beyond}
use Rattle.tree_node.proofs.Between.{found_between, put_between}
use Rattle.tree_node.proofs.Children.{walk-leaf}

-- an answer that isn't `Full` asks for no split
pub no_split : {K V : Type 0} (answer : StoreResult K V) → ((k : K) (v : V) → answer ≡ Full k v → ⊥) → asks_split {K = K} {V = V} (Ok answer) ≡ false
no_split New not = refl
no_split Replaced not = refl
no_split (Duplicate k v) not = refl
no_split (Full k v) not = absurd (not k v refl)

module _ {K V : Type 0} {LEN : ℕ} {cmp : K → K → Ordering} (o : IsTotalOrder cmp) (upsert : Bool) (a : TreeArenas K V LEN) (id : ℕ) (leaf : LeafOf K V LEN)
    (array : Arrivals K V) (key : K) (val : V) (was : get a.leaves id ≡ Some leaf) where
  abbrev new : TreeArenas K V LEN
  new = with_array a id leaf array

  walk_was : walk 0 a id ≡ leaf.array.entries
  walk_was = walk-leaf a id leaf was

  -- the array is what it was, and so is everything
  nothing_changed : array ≡ leaf.array → Unchanged a new
  nothing_changed same = record {
    leaves = λ n. elim (cases_eq n id) [
      | inl here ↦ rw here (here_now a id leaf array was ∙ ap (λ (x : Arrivals K V). Some (record leaf { array = x })) same ∙ sym was)
      | inr differs ↦ (updated a id leaf array was).others n differs
    ];
    nodes = λ n. refl;
  }

  all_put : (P : K × V → Type 0) (pairs : List (K × V)) → P (key, val) → AllByRecursion P pairs → AllByRecursion P (put cmp pairs key val)
  all_put P pairs here all = all-append P _ _ (all-filter P _ pairs all) (here, all-filter P _ pairs all)

  -- the pair was stored
  success : (result : StoreResult K V) → refused {K = K} {V = V} (Ok result) ≡ false → asks_split {K = K} {V = V} (Ok result) ≡ false
      → declined {K = K} {V = V} (Ok result) ≡ false → Inserts cmp upsert (Ok result) leaf.array.entries key val array.entries
      → IsStored cmp LEN upsert leaf.array key val array → InsertsUnder cmp upsert 0 a new id (Ok result) key val
  success result taken no_split accepted pairs ins =
      let entries : array.entries ≡ put cmp leaf.array.entries key val = rw ins.new_is refl in
      let more : length (spend cmp leaf.array.arrivals key ++ Some (key, val) ∷ []) ≡ suc (length leaf.array.arrivals) =
      omega (arith, length-append (spend cmp leaf.array.arrivals key) (Some (key, val) ∷ []), length-map leaf.array.arrivals (spent_at cmp key)) in
      record {
        pairs = let walk_is : walk 0 new id ≡ array.entries = walk-leaf new id _ (here_now a id leaf array was) in rw (walk_was, walk_is) pairs;
        stands = λ low high above up_to s.
            let is : s.leaf ≡ leaf = cc (s.here, was) in
            record {
              leaf = record leaf { array = array };
              here = here_now a id leaf array was;
              few = ins.few;
              ascending = rw entries (IsAscending-put o leaf.array.entries key val (rw is at s.ascending));
              above = rw entries (all_put _ leaf.array.entries above (rw is at s.above));
              up_to = rw entries (all_put _ leaf.array.entries up_to (rw is at s.up_to));
            };
        replaces = array_replaces a id leaf array was;
        lowers =
            let written = spare_written LEN (length leaf.array.entries) (free LEN leaf.array) (length (put cmp leaf.array.entries key val))
            (LEN - length (spend cmp leaf.array.arrivals key ++ Some (key, val) ∷ []))
            (omega (arith, length-put cmp leaf.array.entries key val, without_few cmp leaf.array.entries key)) (omega (arith, more, ins.room.0)) in
            rw (was, here_now a id leaf array was, ins.new_is, ins.room.1) (omega (arith, written));
        spent = λ so deep. absurd (cc);
        full = λ so. absurd (cc);
        divided = tt;
        unchanged = λ so. absurd (cc);
        packed = λ so e.
            let is : e.leaf ≡ leaf = cc (e.here, was) in
            let smaller : AllByRecursion (λ p. cmp p.0 key ≡ Less) leaf.array.entries = rw is at e.ends in
            let placed : IsPacked cmp None 0 new id = record {
              leaf = record leaf { array = array };
              here = here_now a id leaf array was;
              packed = rw ins.new_is (packed_stored o leaf.array key val (rw is at e.packed) smaller);
              ends = rw (entries, put_beyond cmp leaf.array.entries key val smaller) (omega (arith, length-append leaf.array.entries ((key, val) ∷ [])));
            } in
            (placed, omega arith);
      }

  -- what an array answers of an insert, of its leaf
  pub inserts_in_leaf : (result : StoreResult K V) → IsStore cmp LEN upsert leaf.array key val result array → InsertsUnder cmp upsert 0 a new id (Ok result) key val
  inserts_in_leaf New ins = success New refl refl refl (ins.1, rw ins.0.new_is refl) ins.0
  inserts_in_leaf Replaced ins = success Replaced refl refl refl (ins.1, ins.2, rw ins.0.new_is refl) ins.0
  inserts_in_leaf (Duplicate k v) ins =
      changes_nothing (nothing_changed ins.back.new_is) 0 id (Ok (Duplicate k v)) refl
      (rw walk_was (ins.only_insert, ins.present, ins.back.same_key, ins.back.same_val, refl)) (λ so deep. absurd (cc)) (λ so. absurd (cc)) tt
  inserts_in_leaf (Full k v) ins =
      changes_nothing (nothing_changed ins.back.new_is) 0 id (Ok (Full k v)) refl
      (rw walk_was (ins.absent, ins.back.same_key, ins.back.same_val, refl)) (λ so deep. absurd (omega (arith, deep refl)))
      (λ so. rw was (none_free LEN leaf.array ins.full)) tt

module _ {K V : Type 0} {cmp : K → K → Ordering} (o : IsTotalOrder cmp) (upsert : Bool) (key : K) (val : V) (front old new back : List (K × V))
    (smaller : AllByRecursion (λ p. cmp p.0 key ≡ Less) front) (larger : AllLarger cmp key back) where
  pub inserted_between : (result : Result (StoreResult K V) (K × V)) → Inserts cmp upsert result old key val new
      → Inserts cmp upsert result (front ++ (old ++ back)) key val (front ++ (new ++ back))
  inserted_between (Ok New) ins =
      (found_between o key front old back smaller larger ∙ ins.0, rw (put_between o key front old back smaller larger val, ins.1) refl)
  inserted_between (Ok Replaced) ins =
      (ins.0, rw (found_between o key front old back smaller larger) ins.1, rw (put_between o key front old back smaller larger val, ins.2) refl)
  inserted_between (Ok (Duplicate k v)) ins =
      (ins.0, rw (found_between o key front old back smaller larger) ins.1, ins.2, ins.3, rw ins.4 refl)
  inserted_between (Ok (Full k v)) ins =
      (λ first. found_between o key front old back smaller larger ∙ ins.0 first, ins.1, ins.2, rw ins.3 refl)
  inserted_between (Err pair) ins =
      (λ first. found_between o key front old back smaller larger ∙ ins.0 first, ins.1, ins.2, rw ins.3 refl)

-- an insert in the child is one of the node's pairs
pub inserts_above : {K V : Type 0} {LEN : ℕ} {cmp : K → K → Ordering} (o : IsTotalOrder cmp) {upsert : Bool} {level : ℕ} {old new : TreeArenas K V LEN}
    {id child : ℕ} {key : K} {val : V} {result : Result (StoreResult K V) (K × V)} → IsPart cmp (suc level) old id → HasChildFor cmp key (get old.nodes id) child
    → InsertsUnder cmp upsert level old new child result key val → Inserts cmp upsert result (walk (suc level) old id) key val (walk (suc level) new id)
inserts_above o {upsert} {level} {old} {new} {id} {child} {key} {val} {result} part which ins =
    let s = part.stands in
    rw (old_walk o level old id child key part which None None s new ins.replaces, new_walk o level old id child key part which None None s new ins.replaces)
    (inserted_between o upsert key val _ _ _ _ (front_walk_below o level old None id None s key) (back_walk_above o level old None id None s key) result ins.pairs)

-- and, if it asks for no split, one in the node
pub inserts_in_node : {K V : Type 0} {LEN : ℕ} {cmp : K → K → Ordering} (o : IsTotalOrder cmp) {upsert : Bool} (level : ℕ) → 0 < level
    → {old new : TreeArenas K V LEN} {id child : ℕ} {key : K} {val : V} (result : Result (StoreResult K V) (K × V)) → IsPart cmp level old id
    → HasChildFor cmp key (get old.nodes id) child → InsertsUnder cmp upsert (level - 1) old new child result key val → asks_split result ≡ false
    → InsertsUnder cmp upsert level old new id result key val
inserts_in_node o zero deep result part which ins no_split = absurd (omega (arith, deep))
inserts_in_node o (suc level) deep {old} {new} {id} {child} {key} {val} result part which ins' no_split =
    let ins = rw sub-one at ins' in
    let whole = old_spare o level old id child key part which None None part.stands new ins.replaces in
    let rest = new_spare o level old id child key part which None None part.stands new ins.replaces in
    record {
      pairs = inserts_above o part which ins;
      stands = λ low high above up_to s. node_stands o level old id child key part which low high s new ins.replaces ins.stands above up_to;
      replaces = node_replaces o level old id child key part which None None part.stands new ins.replaces;
      lowers = omega (arith, whole, rest, ins.lowers);
      spent = λ so deep. omega (arith, whole, ins.spent so (λ asks. absurd (cc)));
      full = λ so. absurd (cc);
      divided = on_err_weaker result (λ below. (child, which, inr below)) ins.divided;
      unchanged = λ so. ins.unchanged so;
      packed = λ so e. (
        packed_above o level old id child key part which e new ins.replaces None (λ s less. tt) (ins.packed so (edge_below o level old id child key part which e)).0,
        rw (same_node o level old id child key part which None None part.stands new ins.replaces) (omega arith),
      );
    }
