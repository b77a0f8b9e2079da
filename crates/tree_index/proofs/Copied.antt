-- A walk over the pairs of a tree, and clones that are appended in ascending order.
use Rattle.std.proofs.Common.{◌≡◌, ℕ, List, [], ◌∷◌, ◌++◌, Option, Some, None, MatchOption, refl, sym, ◌∙◌, append_assoc, append-nil, IfOk, MatchResult, Result, Ok, Err, Ordering, Less, Equal, Bor}
use Rattle.std.specs.List.{AllZip}
use Rattle.tree_model.proofs.Common.{IsTotalOrder, AllByRecursion, AllLarger, IsAscending, flat_map-append, lent_entry}
use Rattle.tree_model.proofs.Ascending.{IsAscending-append}
use Rattle.tree_model.specs.declared.way.Way.TheVariants.{On}
use Rattle.tree_array.proofs.Common.{all-append, all_map, alike_after}
use Rattle.tree_leaf.specs.Rest.{Takes, left_of}
use Rattle.tree_leaf.specs.Walks.{LeafWalk}
use Rattle.tree_node.proofs.Common.{TreeArenas, IsTree, leaf_entries, leaves_at, root_at, walk}
use Rattle.tree_parts.specs.Ends.{BeginsPart, IsLinked}
use Rattle.tree_index.specs.Copies.{AllSmaller, HasLeft}

-- all is behind nothing
behind_nothing : {K V : Type 0} (cmp : K → K → Ordering) (rest : List (K × V)) → AllByRecursion (λ pair. AllSmaller {V = V} cmp [] pair.0) rest
behind_nothing cmp [] = tt
behind_nothing cmp (pair ∷ rest) = (tt, behind_nothing cmp rest)

module _ {K V : Type 0} {cmp : K → K → Ordering} (o : IsTotalOrder cmp) where
  -- a clone of the key is behind it too
  clone_behind : (l : List (K × V)) (k clone : K) → cmp k clone ≡ Equal → AllSmaller cmp l k → AllSmaller cmp l clone
  clone_behind l k clone same smaller = all_map (λ pair less. alike_after o k clone pair.0 Less same less) l smaller

  -- what is copied stays smaller than the pairs that follow
  behind_copied : (copied : List (K × V)) (k : K) (clone : K × V) → cmp k clone.0 ≡ Equal → (rest : List (K × V)) → AllLarger cmp k rest → AllByRecursion (λ pair. AllSmaller cmp copied pair.0) rest
      → AllByRecursion (λ pair. AllSmaller cmp (copied ++ clone ∷ []) pair.0) rest
  behind_copied copied k clone same [] larger smaller = tt
  behind_copied copied k clone same (pair ∷ rest) larger smaller =
      (all-append (λ earlier. cmp earlier.0 pair.0 ≡ Less) copied (clone ∷ []) smaller.0 (sym (o.congr k clone.0 pair.0 same) ∙ larger.0, tt), behind_copied copied k clone same rest larger.1 smaller.1)

module _ {K V : Type 0} {LEN : ℕ} where
  -- a walk that gives an entry gives the first of those that it had left, and has the others left
  left_after : (old new : LeafWalk K V LEN) (entry : Bor K × Bor V) (left : List (K × V)) → HasLeft old left → Takes On old (Some entry) new → (rest : List (K × V)) × (left ≡ lent_entry entry ∷ rest) × HasLeft new rest
  left_after old new entry left has takes =
      let taken = takes has.front has.back has.chain in
      let to = taken.stand in
      (left_of On new to.front to.back, sym has.are ∙ taken.takes, record { front = to.front; back = to.back; chain = rw (to.same, to.stands) has.chain; are = refl })

  -- and one that gives none has none
  none_after : (old new : LeafWalk K V LEN) (left : List (K × V)) → HasLeft old left → Takes On old None new → left ≡ []
  none_after old new left has takes = sym has.are ∙ (takes has.front has.back has.chain).takes.0

  module _ (cmp : K → K → Ordering) (a : TreeArenas K V LEN) (id level : ℕ) (tree : IsTree cmp a (Some (root_at id level))) where
    -- the leaves of a tree are one chain
    pub chain_linked : IsLinked level a id
    chain_linked = ([], [], rw (append-nil (leaves_at level a.nodes id)) tree.chain)

    -- a walk that begins a tree has all its pairs left, and there is none where no walk begins
    pub begins_tree : (begun : Option (LeafWalk K V LEN)) → MatchOption begun (walk level a id ≡ []) (BeginsPart On level a id) → MatchOption begun (walk level a id ≡ []) (λ pairs. HasLeft pairs (walk level a id))
    begins_tree None empty = empty
    begins_tree (Some begun) begins =
        let first = begins.leaf in
        record {
          front = first.front;
          back = first.back;
          chain = rw (begins.unopened, ← first.parts) tree.chain;
          are = rw (begins.unopened, first.parts, flat_map-append (leaf_entries a.leaves) first.front (begun.leaf ∷ first.back), first.none_passed) refl;
        }

-- What a copy comes to: of the pairs of a walk these are left, clones of which complete it, and go behind it.
pub record IsCopying {K V : Type 0} {LEN : ℕ} (cmp : K → K → Ordering) (IsClone : K × V → K × V → Type 0) (all : List (K × V)) (walk : LeafWalk K V LEN) (copied : List (K × V)) : Type 0 where
  pub rest : List (K × V)
  pub left : HasLeft walk rest
  pub ascending : IsAscending cmp rest
  pub copied_ascends : IsAscending cmp copied
  pub completes : (more : List (K × V)) → AllZip IsClone rest more → AllZip IsClone all (copied ++ more)
  pub behind : AllByRecursion (λ pair. AllSmaller cmp copied pair.0) rest

module _ {K V : Type 0} {LEN : ℕ} {cmp : K → K → Ordering} (o : IsTotalOrder cmp) (IsClone : K × V → K × V → Type 0) (all : List (K × V)) where
  pub starts : (walk : LeafWalk K V LEN) (copied : List (K × V)) → copied ≡ [] → HasLeft walk all → IsAscending cmp all → IsCopying cmp IsClone all walk copied
  starts walk copied none left ascending = record {
    rest = all;
    left = left;
    ascending = ascending;
    copied_ascends = rw none tt;
    completes = λ more clones. rw none clones;
    behind = rw none (behind_nothing cmp all);
  }

  module _ (old new : LeafWalk K V LEN) (copied : List (K × V)) (copying : IsCopying cmp IsClone all old copied) where
    module _ (entry : Bor K × Bor V) (takes : Takes On old (Some entry) new) (clone : K × V) (same : cmp entry.0.now clone.0 ≡ Equal) where
      after : (rest : List (K × V)) × (copying.rest ≡ lent_entry entry ∷ rest) × HasLeft new rest
      after = left_after old new entry copying.rest copying.left takes

      -- the clone comes behind what was copied
      pub ascends_on : IsAscending cmp (copied ++ clone ∷ [])
      ascends_on =
          let behind = rw after.1 at copying.behind in
          IsAscending-append cmp copied (clone ∷ []) copying.copied_ascends (tt, tt) (all_map (λ pair less. (less, tt)) copied (clone_behind o copied entry.0.now clone.0 same behind.0))

      pub copies_on : IsClone (lent_entry entry) clone → (now : List (K × V)) → now ≡ copied ++ clone ∷ [] → IsCopying cmp IsClone all new now
      copies_on is_clone now is =
          let behind = rw after.1 at copying.behind in
          let ascending = rw after.1 at copying.ascending in
          record {
            rest = after.0;
            left = after.2;
            ascending = ascending.1;
            copied_ascends = rw is ascends_on;
            completes = λ more clones. rw (is, append_assoc copied (clone ∷ []) more) (copying.completes (clone ∷ more) (rw after.1 (is_clone, clones)));
            behind = rw is (behind_copied o copied entry.0.now clone same after.0 ascending.0 behind.1);
          }

    -- all were copied
    pub copied_all : Takes On old None new → AllZip IsClone all copied
    copied_all takes = rw append-nil at (copying.completes [] (rw (none_after old new copying.rest copying.left takes) tt))

-- a copy that was made, or a refusal, is what a clone says
pub clone_cases : {A E : Type 0} (P : A → Type 0) (r : Result A E) → IfOk r P → MatchResult r P (λ _. ¬ ⊥)
clone_cases P (Ok copy) made = made
clone_cases P (Err error) made = λ never. never
