use Rattle.tree_leaf.proofs.ChainCommon.{rules, IfOk-weaker, Back}
use Rattle.tree_leaf.proofs.Rests.{fresh_gives}
use Rattle.tree_leaf.proofs.laws.entries_back.Goals as goal

pub entries_left-requires : goal.entries_left-requires
entries_left-requires g c = (search rules, rw c.new.ensures c.requires)

pub returns : goal.returns
returns g c = IfOk-weaker c.entries_left.result _ _ (λ entries. fresh_gives c.args.arenas.now.leaves c.args.id Back c.new.result entries.items c.new.ensures) c.entries_left.ensures
