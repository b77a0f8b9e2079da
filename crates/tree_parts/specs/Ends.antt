-- The first leaf of a part that has an entry, on a walk either way, and where a walk of the part begins.
use Rattle.std.specs.Prelude.{◌≡◌, ℕ, ◌<◌, List, [], ◌∷◌, ◌++◌, length, Option, None, MatchOption}
use Rattle.slab.specs.Slab.{Slab}
use Rattle.tree_leaf.specs.declared.leaf.LeafOf.{LeafOf}
use Rattle.tree_model.specs.declared.way.Way.{Way}
use Rattle.tree_model.specs.declared.way.Way.TheVariants.{On, Back}
use Rattle.tree_leaf.specs.Chain.{IsChain}
use Rattle.tree_leaf.specs.Entries.{leaf_entries, entries_of}
use Rattle.tree_leaf.specs.Walks.{LeafWalk, first_on, here, standing}
use Rattle.tree_node.specs.Arenas.{TreeArenas}
use Rattle.tree_node.specs.Tree.{leaves_at, walk}

-- of the leaves before one and behind it, those that a walk this way has passed
abbrev pub passed : Way → List ℕ → List ℕ → List ℕ
passed On front back = front
passed Back front back = back

module _ {K V : Type 0} {LEN : ℕ} where
  -- the leaf has an entry, and those of these leaves that a walk this way passes before it have none
  pub record IsFirstOn (way : Way) (leaves : Slab (LeafOf K V LEN)) (ids : List ℕ) (id : ℕ) : Type 0 where
    pub front : List ℕ
    pub back : List ℕ
    pub parts : ids ≡ front ++ id ∷ back
    pub none_passed : entries_of leaves (passed way front back) ≡ []
    pub entry : 0 < length (leaf_entries leaves id)

  -- it is found, or none of these leaves has an entry
  abbrev pub FindsFirst : Way → Slab (LeafOf K V LEN) → List ℕ → Option ℕ → Type 0
  FindsFirst way leaves ids result = MatchOption result (entries_of leaves ids ≡ []) (IsFirstOn way leaves ids)

  -- a chain of links runs through the leaves of the part
  abbrev pub IsLinked : ℕ → TreeArenas K V LEN → ℕ → Type 0
  IsLinked level arenas id = (front back : List ℕ) × IsChain arenas.leaves (front ++ (leaves_at level arenas.nodes id ++ back))

  -- the walk stands unopened in that leaf of the part, so that it comes first to the entry that is the first of the part on its way
  pub record BeginsPart (way : Way) (level : ℕ) (arenas : TreeArenas K V LEN) (id : ℕ) (begun : LeafWalk K V LEN) : Type 0 where
    pub unopened : begun ≡ standing arenas.leaves begun.leaf None
    pub leaf : IsFirstOn way arenas.leaves (leaves_at level arenas.nodes id) begun.leaf
    pub entry : first_on way (here begun) ≡ first_on way (walk level arenas id)
