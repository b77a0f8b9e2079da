-- Pairs that are appended one after another, and a run behind a tree.
use Rattle.std.proofs.Common.{◌≡◌, ℕ, true, List, [], ◌∷◌, ◌++◌, slice_get, Option, Some, None, Ok, refl, sym, ap, ◌∙◌, append_assoc, append-nil}
use Rattle.std.specs.declared.cmp.Ordering.{Ordering}
use Rattle.std.specs.Cmp.{IsTotalOrder}
use Rattle.tree_insert.specs.Appends.{AppendsEach}
use Rattle.tree_array.specs.declared.answers.StoreResult.TheVariants.{New}
use Rattle.tree_model.specs.Pairs.{IsAscending, without}
use Rattle.tree_model.proofs.Ascending.{without_first}
use Rattle.tree_model.proofs.LookUps.{put_beyond}
use Rattle.tree_node.specs.Arenas.{TreeArenas}
use Rattle.tree_node.specs.Whole.{root_at}
use Rattle.tree_node.proofs.Cuts.{ascending_behind, ascending_front, smaller_front}
use Rattle.tree_root.specs.Lasts.{IsLast}
use Rattle.tree_root.specs.declared.tree.Tree.{Tree}
use Rattle.tree_root.specs.Runs.{Gathers}
use Rattle.tree_root.specs.Trees.{IsWhole, Stores, pairs_of}
use Rattle.tree_root.proofs.Appended.{last_for_root, last_still, stored_last}

-- the first entry of an array is taken, and the others are left
pub first_taken : {K V : Type 0} {cmp : K → K → Ordering} → IsTotalOrder cmp → (front entries : List (K × V)) (found : Option (K × V)) (pair taken : K × V) → IsAscending cmp (front ++ entries) → slice_get entries 0 ≡ Some pair → found ≡ Some pair → found ≡ Some taken
    → (rest : List (K × V)) × (entries ≡ taken ∷ rest) × (without cmp entries taken.0 ≡ rest)
first_taken o front [] found pair taken ascending first is read = absurd (cc)
first_taken {K = K} {V = V} {cmp = cmp} o front (entry ∷ rest) found pair taken ascending first is read =
    let same : entry ≡ taken = cc in
    (rest, rw same refl, ap (λ (p : K × V). without cmp (entry ∷ rest) p.0) (sym same) ∙ without_first o entry rest (ascending_behind cmp front (entry ∷ rest) ascending))

pub none_first : {X : Type 0} (xs : List X) → slice_get xs 0 ≡ None → xs ≡ []
none_first [] none = refl
none_first (x ∷ xs) none = absurd (cc)

module _ {K V : Type 0} {LEN : ℕ} {cmp : K → K → Ordering} (old : Tree K V LEN) (run : List (K × V)) where
  -- nothing was appended yet
  pub none_gathered : IsWhole cmp old → Gathers cmp old old run run []
  none_gathered whole = record { whole = whole; pairs = sym (append-nil (pairs_of old ++ run)); packed = λ was. was }

  -- what is in the tree and left of the run ascends, where it did before
  pub still_ascends : (new : Tree K V LEN) (left : List (K × V)) → Gathers cmp old new run left [] → IsAscending cmp (pairs_of old ++ run) → IsAscending cmp (pairs_of new ++ left)
  still_ascends new left gathers ascending = rw (gathers.pairs, append-nil (pairs_of old ++ run)) ascending

  -- more is gathered behind what was
  pub gathers_on : {mid new : Tree K V LEN} {left last more next : List (K × V)} → Gathers cmp old mid run left more → Gathers cmp mid new left last next → Gathers cmp old new run last (more ++ next)
  gathers_on {more = more} {next = next} first then = record {
    whole = then.whole;
    pairs = then.pairs ∙ ap (λ (pairs : List (K × V)). pairs ++ next) first.pairs ∙ append_assoc (pairs_of old ++ run) more next;
    packed = λ was. then.packed (first.packed was);
  }

  -- the next pair goes behind what was gathered
  pub next_ascends : {mid : Tree K V LEN} {left more : List (K × V)} → Gathers cmp old mid run left more → (pair : K × V) (rest : List (K × V)) → IsAscending cmp ((pairs_of old ++ run) ++ (more ++ pair ∷ rest)) → IsAscending cmp ((pairs_of mid ++ left) ++ pair ∷ [])
  next_ascends {more = more} gathers pair rest ascending =
      rw gathers.pairs (ascending_front cmp (((pairs_of old ++ run) ++ more) ++ pair ∷ []) rest (rw (append_assoc ((pairs_of old ++ run) ++ more) (pair ∷ []) rest, append_assoc (pairs_of old ++ run) more (pair ∷ rest)) ascending))

  -- the first pair that was left is stored
  pub one_gathered : (mid new : Tree K V LEN) (pair : K × V) (left : List (K × V)) → Gathers cmp old mid run (pair ∷ left) [] → IsAscending cmp (pairs_of mid ++ pair ∷ left) → Stores cmp true mid new pair.0 pair.1 (Ok New) → Gathers cmp old new run left []
  one_gathered mid new pair left gathers ascending stores =
      let smaller = smaller_front cmp (pairs_of mid) pair left ascending in
      record {
        whole = stores.whole;
        pairs = ap (λ (pairs : List (K × V)). pairs ++ left) (stores.pairs.1 ∙ put_beyond cmp (pairs_of mid) pair.0 pair.1 smaller) ∙ append_assoc (pairs_of mid) (pair ∷ []) left ∙ gathers.pairs;
        packed = λ was. stores.packed refl smaller (gathers.packed was);
      }

  -- a pair is pushed behind what is left
  pub one_pushed : (mid : Tree K V LEN) (pair : K × V) (left : List (K × V)) → Gathers cmp old mid run left [] → Gathers cmp old mid run (left ++ pair ∷ []) (pair ∷ [])
  one_pushed mid pair left gathers = record {
    whole = gathers.whole;
    pairs = sym (append_assoc (pairs_of mid) left (pair ∷ [])) ∙ ap (λ (pairs : List (K × V)). pairs ++ pair ∷ []) (gathers.pairs ∙ append-nil (pairs_of old ++ run));
    packed = gathers.packed;
  }

  module _ (o : IsTotalOrder cmp) (id level leaf : ℕ) where
    -- and so are all of them that are appended under the root
    pub each_gathered : (pairs : List (K × V)) (mid : Tree K V LEN) (a : TreeArenas K V LEN) → mid.root ≡ Some (root_at id level) → IsWhole cmp mid → IsLast mid leaf → IsAscending cmp (pairs_of mid ++ pairs) → Gathers cmp old mid run pairs []
        → AppendsEach cmp level mid.arenas a id leaf pairs → Gathers cmp old (record mid { arenas = a }) run [] []
    each_gathered [] mid a root whole last ascending gathers appends = absurd appends
    each_gathered (pair ∷ []) mid a root whole last ascending gathers appends =
        let for = last_for_root cmp mid leaf pair.0 id level root whole last (smaller_front cmp (pairs_of mid) pair [] ascending) in
        one_gathered mid (record mid { arenas = a }) pair [] gathers ascending (stored_last cmp mid leaf pair.0 o (record mid { arenas = a }) pair.1 id level root whole for refl (Ok New) refl appends.inserts)
    each_gathered (pair ∷ (next ∷ rest)) mid a root whole last ascending gathers appends =
        let for = last_for_root cmp mid leaf pair.0 id level root whole last (smaller_front cmp (pairs_of mid) pair (next ∷ rest) ascending) in
        let tree : Tree K V LEN = record mid { arenas = appends.0 } in
        let stores = stored_last cmp mid leaf pair.0 o tree pair.1 id level root whole for refl (Ok New) refl appends.1.inserts in
        let one = one_gathered mid tree pair (next ∷ rest) gathers ascending stores in
        let ascends : IsAscending cmp (pairs_of tree ++ next ∷ rest) = rw (one.pairs, ← gathers.pairs) ascending in
        each_gathered (next ∷ rest) tree a root stores.whole (last_still cmp mid leaf pair.0 appends.0 pair.1 id level root appends.1) ascends one appends.2
