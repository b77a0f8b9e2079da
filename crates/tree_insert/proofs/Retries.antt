-- An insert that met a full child: what it answers where no room is made, and where it is tried again.
use Rattle.tree_insert.proofs.Common.{Bool, Duplicate, Err, Full, HasChildFor, HasLast, HasMadeRoom, Inserts, InsertsUnder, IsCrowded, IsNew, IsPart, IsTotalOrder, LacksRoom, List, New, NodeOf}
use Rattle.tree_insert.proofs.Common.{None, Ok, Option, Ordering, Replaced, Result, Some, SplitsChild, StoreResult, TreeArenas, Unchanged, [], ap, arith, asks_split, child_of, declined, false}
use Rattle.tree_insert.proofs.Common.{found_keyed, get, held, keyed, last_for, leaf_spent, limit, old_spare, on_err_weaker, one_last, part_after, refl, replaces_trans, room, same_spare}
use Rattle.tree_insert.proofs.Common.{some_child, spare, sub-one, suc, sym, unbounded, unchanged_agrees, unchanged_held, unchanged_part, unchanged_room, unwrap_or, walk, zero, ℕ, ◌+◌, ◌-◌, ◌<◌}
use Rattle.tree_insert.proofs.Common.{◌∙◌, ◌∷◌, ◌≡◌}
use Rattle.std.proofs.lemmas.Bool.{false_from_ne_true}
use Rattle.tree_insert.proofs.Crowded.{child_divides, crowded_above, crowded_room, crowded_still, divides_before, not_crowded}
use Rattle.tree_insert.proofs.Inserts.{inserts_above, no_split}
use Rattle.tree_insert.proofs.Restarts.{changes_nothing, inserts_before}

-- how often an insert is attempted under a number: once where the key's child has room, and else a second time, once room was made
module _ {K : Type 0} (cmp : K → K → Ordering) (key : K) where
  -- the child of a node that the key belongs to
  abbrev key_child : {LEN : ℕ} → Option (NodeOf K LEN) → ℕ
  key_child None = 0
  key_child (Some node) = unwrap_or (child_of cmp key (keyed node).entries (unbounded node)) 0

  key_child_is : {LEN : ℕ} (slot : Option (NodeOf K LEN)) (child : ℕ) → HasChildFor cmp key slot child → key_child slot ≡ child
  key_child_is None child which = absurd which
  key_child_is (Some node) child which = ap (λ (found : Option ℕ). unwrap_or found 0) which

module _ {K V : Type 0} {LEN : ℕ} (cmp : K → K → Ordering) where
  -- one for each level of nodes, and as many second ones; and one more where the child has no room
  abbrev pub attempts : ℕ → TreeArenas K V LEN → ℕ → K → ℕ
  attempts level a id key = level + level + (1 - room (level - 1) a (key_child cmp key (get a.nodes id)))

  -- once room was made for the child, there are fewer to go
  pub fewer_then : (level : ℕ) (old made : TreeArenas K V LEN) (id child home : ℕ) (key k : K) → HasChildFor cmp key (get old.nodes id) child
      → room (level - 1) old child ≡ 0 → HasChildFor cmp k (get made.nodes id) home → 0 < room (level - 1) made home
      → attempts level made id k < attempts level old id key
  fewer_then level old made id child home key k which none which' some =
      let before = ap (room (level - 1) old) (key_child_is cmp key (get old.nodes id) child which) in
      let after = ap (room (level - 1) made) (key_child_is cmp k (get made.nodes id) home which') in
      omega (arith, before, after, none, some)

module _ {K V : Type 0} {LEN : ℕ} (cmp : K → K → Ordering) (upsert : Bool) where
  -- the child for the key is full: the part is what it was, and the pair is the caller's
  pub record IsFullBelow (level : ℕ) (old mid : TreeArenas K V LEN) (id child : ℕ) (key : K) (val : V) (k : K) (v : V) : Type 0 where
    pub which : HasChildFor cmp key (get mid.nodes id) child
    pub crowded : IsCrowded cmp (level - 1) mid child key
    pub same : Unchanged old mid
    pub absent : IsNew cmp upsert (walk level mid id) key
    pub same_key : k ≡ key
    pub same_val : v ≡ val
    -- nothing is spare, unless the child will be built anew
    pub spent : limit LEN < held (level - 1) mid child → spare level mid id ≡ 0
    pub part : IsPart cmp level mid id

-- a new pair that asks for no split is taken, or refused for want of memory
accepted : {K V : Type 0} (cmp : K → K → Ordering) (upsert : Bool) (pairs left : List (K × V)) (key : K) (val : V) → IsNew cmp upsert pairs key
    → (result : Result (StoreResult K V) (K × V)) → Inserts cmp upsert result pairs key val left → asks_split result ≡ false → declined result ≡ false
accepted cmp upsert pairs left key val absent (Ok New) ins no_split = refl
accepted cmp upsert pairs left key val absent (Ok Replaced) ins no_split = refl
accepted cmp upsert pairs left key val absent (Ok (Duplicate k v)) ins no_split = absurd (let present = rw (absent ins.0) at ins.1 in cc)
accepted cmp upsert pairs left key val absent (Ok (Full k v)) ins no_split = absurd (cc)
accepted cmp upsert pairs left key val absent (Err pair) ins no_split = refl

module _ {K V : Type 0} {LEN : ℕ} {cmp : K → K → Ordering} {upsert : Bool} {level : ℕ} {old mid : TreeArenas K V LEN} {id child : ℕ} {key : K} {val : V}
    {k : K} {v : V} (below : IsFullBelow cmp upsert level old mid id child key val k v) where
  no_room : room (level - 1) mid child ≡ 0
  no_room = crowded_room cmp (level - 1) mid child key below.crowded

  -- the child is there still, for the key that came back
  pub which_still : HasChildFor cmp k (get mid.nodes id) child
  which_still = rw below.same_key below.which

  module _ (deep : 0 < level) {new : TreeArenas K V LEN} where
    -- memory was refused
    pub refused_room : Unchanged mid new → limit LEN < held (level - 1) mid child → InsertsUnder cmp upsert level old new id (Err (k, v)) key val
    refused_room still many =
        inserts_before below.same level id (Err (k, v))
        (changes_nothing still level id (Err (k, v)) refl (below.absent, below.same_key, below.same_val, refl) (λ so deep. below.spent many) (λ so. absurd (cc))
        (child_divides cmp level deep mid id child key below.which no_room many))

    -- the node takes no child more itself
    pub no_room_either : LacksRoom level mid new id child → InsertsUnder cmp upsert level old new id (Ok (Full k v)) key val
    no_room_either lacks =
        inserts_before below.same level id (Ok (Full k v))
        (changes_nothing lacks.unchanged level id (Ok (Full k v)) refl (below.absent, below.same_key, below.same_val, refl) (λ so deep. below.spent lacks.many)
        (λ so. crowded_above cmp level deep mid id child key lacks.full below.which lacks.many below.crowded) tt)

    -- a split of the child makes room for the key
    pub room_by_split : SplitsChild cmp level mid new id child → HasMadeRoom cmp level mid new id k
    room_by_split split = record {
      pairs = split.pairs;
      stands = λ low high above up_to s. split.keeps low high s;
      replaces = split.replaces;
      spares = split.spares;
      spends = split.spends;
      child = split.routed k which_still;
      packed = λ other last none e.
          let at_child : HasLast (get mid.nodes id) child = last_for cmp level deep mid id child k which_still e in
          let same : other ≡ child = one_last (get mid.nodes id) other child last at_child in
          split.packed (Some k) at_child (rw same at none) e;
    }

  module _ (deep : 0 < level) {made : TreeArenas K V LEN} (made_room : HasMadeRoom cmp level mid made id k) where
    -- the part is one still where room was made
    pub part_with_room : IsPart cmp level made id
    part_with_room = part_after cmp level mid made id below.part (made_room.stands None None tt tt below.part.stands) made_room.replaces

    -- and the pair is inserted there, by an insert that asks for no split
    pub retried : {new : TreeArenas K V LEN} (result : Result (StoreResult K V) (K × V)) → InsertsUnder cmp upsert level made new id result k v
        → InsertsUnder cmp upsert level old new id result key val
    retried {new} result inserts =
        let ins : InsertsUnder cmp upsert level made new id result key val = rw (below.same_key, below.same_val) at inserts in
        let roomy : HasMadeRoom cmp level mid made id key = rw below.same_key at made_room in
        let no_split = false_from_ne_true (asks_split result) (λ asks. not_crowded cmp level deep made id key roomy.child (ins.full asks)) in
        let pairs : Inserts cmp upsert result (walk level mid id) key val (walk level new id) = rw roomy.pairs at ins.pairs in
        let taken = accepted cmp upsert (walk level mid id) (walk level new id) key val below.absent result pairs no_split in
        inserts_before below.same level id result (record {
          pairs = pairs;
          stands = λ low high above up_to s. ins.stands low high above up_to (roomy.stands low high above up_to s);
          replaces = replaces_trans level mid made new (id ∷ []) (id ∷ []) (id ∷ []) roomy.replaces ins.replaces;
          lowers = omega (arith, roomy.spares, ins.lowers);
          spent = λ so deep. omega (arith, roomy.spares, ins.spent so deep);
          full = λ so. absurd (cc);
          divided = on_err_weaker result (divides_before cmp level deep mid made id child key below.which below.crowded roomy.child) ins.divided;
          unchanged = λ so. absurd (cc);
          packed = λ so e.
              let more = roomy.packed child (last_for cmp level deep mid id child key below.which e) no_room e in
              let done = ins.packed so more.0 in
              (done.0, omega (arith, more.1, done.1));
        })

    -- this insert needs no second attempt
    pub last_attempt : attempts cmp level made id k < attempts cmp level old id key
    last_attempt =
        let home = some_child level deep made id part_with_room k in
        let none = sym (unchanged_room (level - 1) old mid below.same child) ∙ no_room in
        fewer_then cmp level old made id child home.0 key k (rw (sym (below.same.nodes id)) below.which) none home.1 (made_room.child home.0 home.1)

-- what a node holds are its keyed children
pub held_above : {K V : Type 0} {LEN : ℕ} (a : TreeArenas K V LEN) (id level : ℕ) → 1 < level → held (level - 1) a id ≡ found_keyed (get a.nodes id)
held_above a id zero deep = absurd (omega (arith, deep))
held_above a id (suc zero) deep = absurd (omega (arith, deep))
held_above a id (suc (suc level)) deep = rw sub-one refl

-- the child answered that it is full
pub full_below : {K V : Type 0} {LEN : ℕ} {cmp : K → K → Ordering} (o : IsTotalOrder cmp) {upsert : Bool} (level : ℕ) → 0 < level
    → {old new : TreeArenas K V LEN} {id child : ℕ} {key : K} {val : V} {k : K} {v : V} → IsPart cmp level old id → HasChildFor cmp key (get old.nodes id) child
    → InsertsUnder cmp upsert (level - 1) old new child (Ok (Full k v)) key val → IsFullBelow cmp upsert level old new id child key val k v
full_below o zero deep part which ins = absurd (omega (arith, deep))
full_below {LEN = LEN} {cmp = cmp} o {upsert} (suc level) deep {old} {new} {id} {child} {key} {val} {k} {v} part which ins' =
    let ins = rw sub-one at ins' in
    let same = ins.unchanged refl in
    let back : Unchanged new old = record { leaves = λ n. sym (same.leaves n); nodes = λ n. sym (same.nodes n) } in
    let pairs = inserts_above o part which ins in
    record {
      which = rw (same.nodes id) which;
      crowded = rw sub-one (crowded_still cmp new old back level child key (ins.full refl));
      same = same;
      absent = rw pairs.3 pairs.0;
      same_key = pairs.1;
      same_val = pairs.2;
      spent = λ many. omega (
        arith,
        same_spare (suc level) old new id (unchanged_agrees (suc level) old new same id),
        old_spare o level old id child key part which None None part.stands new ins.replaces,
        spent_below level ins (rw (sub-one, unchanged_held level old new same child) at many),
      );
      part = unchanged_part (suc level) old new same cmp id part;
    }
  where
    spent_below : (level : ℕ) → InsertsUnder cmp upsert level old new child (Ok (Full k v)) key val → limit LEN < held level old child
        → spare level old child ≡ 0
    spent_below zero ins many = leaf_spent old child (ins.full refl) many
    spent_below (suc level) ins many = ins.spent refl (λ asks. omega arith)
