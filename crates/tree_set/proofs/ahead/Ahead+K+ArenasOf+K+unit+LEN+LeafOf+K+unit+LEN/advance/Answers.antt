use Rattle.tree_node.proofs.Common.{fits}
use Rattle.tree_set.proofs.Firsts.{advances, ends_with}
use Rattle.tree_set.proofs.ahead.Ahead+K+ArenasOf+K+unit+LEN+LeafOf+K+unit+LEN.advance.Goals as goal

pub invariant_of-self : goal.invariant_of-self
invariant_of-self g c = ends_with _ _ c.next-self-inside.result c.next-self-inside.ensures.steps

pub returns : goal.returns
returns g c = rw (← c.self.view_is) (advances _ _ c.self.inside.first _ c.self.invariant c.next-self-inside.ensures.steps)

pub next-self-inside-requires : goal.next-self-inside-requires
next-self-inside-requires g c = search fits
