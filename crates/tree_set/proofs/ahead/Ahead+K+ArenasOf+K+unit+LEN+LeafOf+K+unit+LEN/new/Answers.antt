use Rattle.tree_node.proofs.Common.{fits}
use Rattle.tree_set.proofs.Firsts.{ends_with, is_whole}
use Rattle.tree_set.proofs.ahead.Ahead+K+ArenasOf+K+unit+LEN+LeafOf+K+unit+LEN.new.Goals as goal

pub invariant_of-result : goal.invariant_of-result
invariant_of-result g c = ends_with _ _ c.next-first.result c.next-first.ensures.steps

pub returns : goal.returns
returns g c = is_whole _ _ c.next-first.result c.next-first.ensures.steps

pub next-first-requires : goal.next-first-requires
next-first-requires g c = search fits
