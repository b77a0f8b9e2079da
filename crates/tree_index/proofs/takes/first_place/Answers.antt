use Rattle.std.proofs.Common.{◌≡◌, [], Some, sym}
use Rattle.tree_node.proofs.Common.{fits}
use Rattle.tree_leaf.proofs.ChainCommon.{first_of}
use Rattle.tree_root.specs.Trees.{pairs_of}
use Rattle.tree_index.proofs.Beside.{begins}
use Rattle.tree_index.proofs.Ended.{stored_where, first_found, none_first_of}
use Rattle.tree_index.proofs.takes.first_place.Goals as goal

pub new-requires : goal.new-requires
new-requires g c = (search fits, (search fits, (search fits, c.requires)))

pub next-requires : goal.next-requires
next-requires g c = search fits

pub entry_for-requires : goal.entry_for-requires
entry_for-requires g c = (search fits, c.requires)

pub returns-in_err-key : goal.returns-in_err-key
returns-in_err-key g c =
    rw c.from_residual.ensures (none_first_of (pairs_of c.args.tree.now) (sym (rw (c.in_err-key.ensures.steps.moves, c.new.ensures, begins g.K.Ord.cmp _) at c.in_err-key.ensures.steps.answers)))

pub returns : goal.returns
returns g c =
    let is : first_of (pairs_of c.args.tree.now) ≡ Some (c.in_ok-key.key.now, c.in_ok-key.field-0-1.now) = sym (rw (c.in_ok-key.ensures.steps.moves, c.new.ensures, begins g.K.Ord.cmp _) at c.in_ok-key.ensures.steps.answers) in
    stored_where g.met.K.Ord.total c.args.tree.now c.entry_for.result (c.in_ok-key.key.now, c.in_ok-key.field-0-1.now) (pairs_of c.args.tree.now ≡ []) (λ pair. first_of (pairs_of c.args.tree.now) ≡ Some pair) is (first_found g.met.K.Ord.total (pairs_of c.args.tree.now) _ is) c.entry_for.ensures
