use Rattle.std.proofs.Common.{None, Some}
use Rattle.tree_node.proofs.Common.{fits}
use Rattle.tree_set.proofs.Keys.{found_key, keys_ascend}
use Rattle.tree_set.proofs.set.TreeSetOf.get.Goals as goal

pub peek_entry-requires : goal.peek_entry-requires
peek_entry-requires g c = search fits

pub returns-in_err-found-clause-found : goal.returns-in_err-found-clause-found
returns-in_err-found-clause-found g c = rw (c.from_residual.ensures, ← c.self.view_is) (found_key g.K.Ord.cmp c.self.inside.index.pairs c.args.element.now None c.in_err-found.ensures.found)

pub returns-in_err-found-clause-ascending : goal.returns-in_err-found-clause-ascending
returns-in_err-found-clause-ascending g c = rw (← c.self.view_is) (keys_ascend g.K.Ord.cmp c.self.inside.index.pairs c.in_err-found.ensures.ascending)

pub returns-clause-found : goal.returns-clause-found
returns-clause-found g c = rw (← c.self.view_is) (found_key g.K.Ord.cmp c.self.inside.index.pairs c.args.element.now (Some (c.in_ok-found.found, c.in_ok-found.field-0-1)) c.in_ok-found.ensures.found)

pub returns-clause-ascending : goal.returns-clause-ascending
returns-clause-ascending g c = rw (← c.self.view_is) (keys_ascend g.K.Ord.cmp c.self.inside.index.pairs c.in_ok-found.ensures.ascending)
