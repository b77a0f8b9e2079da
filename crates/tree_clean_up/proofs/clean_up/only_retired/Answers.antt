use Rattle.tree_clean_up.proofs.Common.{[], fits, refl, sym, ◌∙◌, ◌≡◌}
use Rattle.tree_clean_up.proofs.EmptyNodes.{only_one, only_stands}
use Rattle.tree_node.specs.declared.node.NodeOf.TheVariants.{Leaf}
use Rattle.tree_clean_up.proofs.clean_up.only_retired.Goals.{then-not-is_retired-via-then-not-is_retired, then-not-is_retired-via-else-not-is_retired+then-not-is_empty-2}
use Rattle.tree_clean_up.proofs.clean_up.only_retired.Goals as goal

pub node-requires : goal.node-requires
node-requires g c = (search fits, rw c.requires.here refl)

pub returns-then-not-is_empty : goal.returns-then-not-is_empty
returns-then-not-is_empty g c = λ only.
    let one = only_one c.args.arenas.now c.args.id (Leaf c.in-Leaf.node) (rw c.in-Leaf.is at c.node.ensures) c.in_ok-last.last c.in_ok-last.was only in
    cc (c.is_empty.ensures.1 one.0)

pub leaf-requires : goal.leaf-requires
leaf-requires g c =
    let none : c.in-Leaf.node.children.entries ≡ [] = c.is_empty.ensures.0 c.if-not-is_empty.false in
    let here = rw c.in-Leaf.is at c.node.ensures in
    let last = only_stands c.args.arenas.now c.args.id (Leaf c.in-Leaf.node) here c.in_ok-last.last c.in_ok-last.was g.K.Ord.cmp 0 c.requires none in
    (search fits, (search fits, rw last.here refl))

pub returns-then-not-is_retired : goal.returns-then-not-is_retired
returns-then-not-is_retired g c = λ only.
    let one = only_one c.args.arenas.now c.args.id (Leaf c.in-Leaf.node) (rw c.in-Leaf.is at c.node.ensures) c.in_ok-last.last c.in_ok-last.was only in
    let retired = rw (one.1, c.leaf.ensures, ← c.array-array.ensures) at only.1.1 in
    elim c.then-not-is_retired.branch [
      | then-not-is_retired-via-then-not-is_retired w ↦ cc (w.if-not-is_retired.true, c.is_retired.ensures, retired.0)
      | then-not-is_retired-via-else-not-is_retired+then-not-is_empty-2 w ↦ cc (w.if-not-is_empty-2.true, w.is_empty-else-not-is_retired.ensures.1 retired.1)
    ]

pub returns : goal.returns
returns g c =
    let retired = sym c.is_retired.ensures ∙ c.if-not-is_retired.false in
    let empty = c.is_empty-else-not-is_retired.ensures.0 c.if-not-is_empty-2.false in
    let here = rw c.in-Leaf.is at c.node.ensures in
    (rw (here, c.is_empty.ensures.0 c.if-not-is_empty.false, c.in_ok-last.was) refl, rw (c.leaf.ensures, ← c.array-array.ensures) (retired, empty))
