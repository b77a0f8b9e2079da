use Rattle.std.proofs.Common.{◌∙◌, ap, sym, rules, is_some, true, false}
use Rattle.tree_cursors.proofs.RangesCommon.{Kept}
use Rattle.tree_cursors.proofs.Nearest.{beside_is, past_is}
use Rattle.tree_cursors.proofs.Shown.{absent_in, element_is, located_in}
use Rattle.tree_cursors.proofs.locate.locate.Goals as goal

pub returns-then-stands_at : goal.returns-then-stands_at
returns-then-stands_at g c =
    let first = c.stepped-first.ensures in
    rw c.standing.ensures (rw (sym c.stands_at.ensures ∙ c.if-stands_at.true) at (located_in _ _ c.requires g.met.K.Ord.total _ _ first.stands first.place))

pub returns-then-not-has_pair-2 : goal.returns-then-not-has_pair-2
returns-then-not-has_pair-2 g c =
    let first = c.stepped-first.ensures in
    let last = c.stepped-last.ensures in
    let none = ap is_some (element_is _ _ c.requires _ last.stands) ∙ sym c.has_pair-then-not-has_pair.ensures ∙ c.if-not-has_pair-2.true in
    past_is g.K.Ord.cmp _ _ last.place _ none ∙ absent_in _ _ c.requires g.met.K.Ord.total _ _ first.stands first.place (cc) false (cc)

pub returns-then-not-has_pair : goal.returns-then-not-has_pair
returns-then-not-has_pair g c =
    let first = c.stepped-first.ensures in
    let last = c.stepped-last.ensures in
    let some = ap is_some (element_is _ _ c.requires _ last.stands) ∙ sym c.has_pair-then-not-has_pair.ensures ∙ c.if-not-has_pair-2.false in
    rw c.standing-then-not-has_pair.ensures (past_is g.K.Ord.cmp _ _ last.place _ some ∙ absent_in _ _ c.requires g.met.K.Ord.total _ _ first.stands first.place (cc) false (cc))

pub standing-requires-then-has_pair : goal.standing-requires-then-has_pair
standing-requires-then-has_pair g c =
    let kept : Kept c.args.arenas.now c.args.root g.K.Ord.cmp c.turned-then-has_pair.result c.turned-then-has_pair-2.result =
    rw (c.turned-then-has_pair.ensures, c.turned-then-has_pair-2.ensures) (record { tree = c.requires; forward_stands = c.stepped-before.ensures.stands; backward_stands = c.stepped-first.ensures.stands }) in
    search rules

pub returns-then-has_pair : goal.returns-then-has_pair
returns-then-has_pair g c =
    let first = c.stepped-first.ensures in
    let before = c.stepped-before.ensures in
    let some = ap is_some (element_is _ _ c.requires _ before.stands) ∙ sym c.has_pair-2.ensures ∙ c.if-has_pair.true in
    rw (c.standing-then-has_pair.ensures, c.turned-then-has_pair.ensures, c.turned-then-has_pair-2.ensures) (beside_is g.K.Ord.cmp _ _ _ (rw (c.turned.ensures, c.again.ensures) at before.place) _ some
    ∙ absent_in _ _ c.requires g.met.K.Ord.total _ _ first.stands first.place (cc) true (cc))

pub returns-else-has_pair : goal.returns-else-has_pair
returns-else-has_pair g c =
    let first = c.stepped-first.ensures in
    let before = c.stepped-before.ensures in
    let none = ap is_some (element_is _ _ c.requires _ before.stands) ∙ sym c.has_pair-2.ensures ∙ c.if-has_pair.false in
    rw c.standing-else-has_pair.ensures (beside_is g.K.Ord.cmp _ _ _ (rw (c.turned.ensures, c.again.ensures) at before.place) _ none
    ∙ absent_in _ _ c.requires g.met.K.Ord.total _ _ first.stands first.place (cc) true (cc))
