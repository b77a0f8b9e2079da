use Rattle.std.proofs.Common.{◌∷◌, []}
use Rattle.tree_node.proofs.Common.{fits}
use Rattle.tree_index.proofs.Puts.{gave_before}
use Rattle.tree_set.proofs.collects.TreeSetOfExtend.extend.Goals.{in-Ok, in-Err}
use Rattle.tree_set.proofs.collects.TreeSetOfExtend.extend.Goals as goal

pub try_extend-requires : goal.try_extend-requires
try_extend-requires g c = (search fits, λ it gives. let asked = c.requires it gives in (asked.0, asked.1))

pub returns : goal.returns
returns g c = elim c.match-try_extend.branch [
  | in-Ok w ↦ let told = w.in-Ok.ensures in rw w.result-is (record { ran = (told.from, told.elements, told.became, told.added, told.all) })
  | in-Err w ↦
      let told = w.in-Err.ensures in
      rw w.result-is (record { ran = (told.from, told.elements, told.became, told.added, gave_before g.U.IntoIter.Iterator.next_gives told.from told.elements (w.in-Err.field-0 ∷ []) told.all.0 told.all.1) })
]
