use Rattle.std.proofs.Common.{◌≡◌, Ok, refl, sym, ◌∙◌}
use Rattle.tree_array.specs.declared.answers.StoreResult.TheVariants.{New}
use Rattle.tree_node.proofs.Sizes.{fits}
use Rattle.tree_root.proofs.Appended.{last_still, last_under, stored_last}
use Rattle.tree_root.proofs.tree.Tree.append.Goals as goal

pub append_below-requires : goal.append_below-requires
append_below-requires g c = (search fits, (c.requires.len, (c.requires.whole, c.requires.beyond)))

pub append_to-requires : goal.append_to-requires
append_to-requires g c =
    let under = last_under g.K.Ord.cmp c.args.self.now c.in-Some.leaf c.args.key c.requires.whole (c.requires.last c.in-Some.leaf c.in-Some.is) c.requires.beyond in
    (search fits, (search fits, (under.level, under.id, under.for)))

pub returns-in-Ok-clause-stores : goal.returns-in-Ok-clause-stores
returns-in-Ok-clause-stores g c =
    let under = last_under g.K.Ord.cmp c.args.self.now c.in-Some.leaf c.args.key c.requires.whole (c.requires.last c.in-Some.leaf c.in-Some.is) c.requires.beyond in
    stored_last g.K.Ord.cmp c.args.self.now c.in-Some.leaf c.args.key g.met.K.Ord.total _ c.args.val under.id under.level under.root c.requires.whole under.for refl (Ok New) refl (c.in-Ok.ensures under.level under.id under.for).inserts

pub returns-in-Ok-clause-last : goal.returns-in-Ok-clause-last
returns-in-Ok-clause-last g c leaf is =
    let under = last_under g.K.Ord.cmp c.args.self.now c.in-Some.leaf c.args.key c.requires.whole (c.requires.last c.in-Some.leaf c.in-Some.is) c.requires.beyond in
    let both = sym c.in-Some.is ∙ is in
    let same : c.in-Some.leaf ≡ leaf = cc in
    rw (← same) (last_still g.K.Ord.cmp c.args.self.now c.in-Some.leaf c.args.key c.append_to.new.arenas c.args.val under.id under.level under.root (c.in-Ok.ensures under.level under.id under.for))

pub append_below-requires-in-Err : goal.append_below-requires-in-Err
append_below-requires-in-Err g c =
    let under = last_under g.K.Ord.cmp c.args.self.now c.in-Some.leaf c.args.key c.requires.whole (c.requires.last c.in-Some.leaf c.in-Some.is) c.requires.beyond in
    let back = c.in-Err.ensures under.level under.id under.for in
    (search fits, (c.requires.len, (rw back.0 c.requires.whole, rw (back.0, back.1) c.requires.beyond)))

pub returns-in-Err-clause-stores : goal.returns-in-Err-clause-stores
returns-in-Err-clause-stores g c =
    let under = last_under g.K.Ord.cmp c.args.self.now c.in-Some.leaf c.args.key c.requires.whole (c.requires.last c.in-Some.leaf c.in-Some.is) c.requires.beyond in
    let back = c.in-Err.ensures under.level under.id under.for in
    rw (back.0, back.1, back.2) at c.append_below-in-Err.ensures.stores
