use Rattle.std.proofs.Common.{◌∷◌, []}
use Rattle.tree_node.proofs.Common.{fits}
use Rattle.tree_index.proofs.Puts.{gave_before}
use Rattle.tree_index.proofs.collects.TreeIndexOfExtendTuple2.extend.Goals.{in-Ok, in-Err}
use Rattle.tree_index.proofs.collects.TreeIndexOfExtendTuple2.extend.Goals as goal

pub try_extend-requires : goal.try_extend-requires
try_extend-requires g c = (search fits, λ it gives. let asked = c.requires it gives in (asked.0, asked.1))

pub returns : goal.returns
returns g c = elim c.match-try_extend.branch [
  | in-Ok w ↦ let put = w.in-Ok.ensures in rw w.result-is (record { ran = (put.from, put.pairs, put.became, put.put, put.all) })
  | in-Err w ↦
      let put = w.in-Err.ensures in
      rw w.result-is (record { ran = (put.from, put.pairs, put.became, put.put, gave_before g.U.IntoIter.Iterator.next_gives put.from put.pairs (w.in-Err.field-0 ∷ []) put.all.0 put.all.1) })
]
