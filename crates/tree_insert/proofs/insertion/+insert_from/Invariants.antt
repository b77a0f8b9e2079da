use Rattle.tree_insert.proofs.Retries.{attempts}
use Rattle.tree_insert.proofs.insertion.+insert_from.Given as goal

abbrev pub decreases-insert_from : goal.decreases-insert_from
decreases-insert_from g l = attempts g.K.Ord.cmp l.level l.arenas.now l.id l.key
