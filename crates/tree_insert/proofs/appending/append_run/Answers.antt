use Rattle.tree_insert.proofs.Common.{fits, inl, inr, refl}
use Rattle.tree_insert.proofs.Stored.{at_end}
use Rattle.tree_insert.proofs.Lasts.{some_found}
use Rattle.tree_insert.proofs.Runs.{emptied_there, run_appended, takes_larger}
use Rattle.tree_insert.proofs.appending.append_run.Goals as goal

pub edge_at-requires : goal.edge_at-requires
edge_at-requires g c = (search fits, (search fits, (c.requires.node, elim c.requires.part [ inl part ↦ inl part.stands | inr retired ↦ inr retired ])))

pub leaf-requires : goal.leaf-requires
leaf-requires g c = (search fits, (search fits, c.in-Some.ensures.there))

pub empty_last-requires : goal.empty_last-requires
empty_last-requires g c =
    let first = c.in-Some-first_key.ensures.first in
    let some = some_found c.leaf.ensures (λ none. cc (c.if-is_empty.false, c.is_empty.ensures.1 (rw c.array-last.ensures none))) in
    let for = takes_larger (c.in-Some-first_key.key.now, first.0) first.1 c.in-Some.ensures (rw first.2 at c.requires.ascending) c.requires.node c.requires.part some in
    let at = at_end g.met.K.Ord.total for c.in-Some.ensures in
    (search fits, (search fits, (at.part, (at.which, c.in-Some.ensures.last))))

pub close-requires : goal.close-requires
close-requires g c = search fits

pub leaf_mut-requires : goal.leaf_mut-requires
leaf_mut-requires g c =
    let first = c.in-Some-first_key.ensures.first in
    let some = some_found c.leaf.ensures (λ none. cc (c.if-is_empty.false, c.is_empty.ensures.1 (rw c.array-last.ensures none))) in
    let ascending = rw first.2 at c.requires.ascending in
    let for = takes_larger (c.in-Some-first_key.key.now, first.0) first.1 c.in-Some.ensures ascending c.requires.node c.requires.part some in
    let emptied = rw c.if-not-branch.false at c.in_ok-empty_last.ensures.done in
    (search fits, (search fits, emptied_there _ first.1 c.in-Some.ensures ascending g.met.K.Ord.total for c.empty_last.new.arenas emptied))

pub array_mut-requires : goal.array_mut-requires
array_mut-requires g c = search fits

pub returns-clause-done : goal.returns-clause-done
returns-clause-done g c =
    let first = c.in-Some-first_key.ensures.first in
    let some = some_found c.leaf.ensures (λ none. cc (c.if-is_empty.false, c.is_empty.ensures.1 (rw c.array-last.ensures none))) in
    let ascending = rw first.2 at c.requires.ascending in
    let for = takes_larger (c.in-Some-first_key.key.now, first.0) first.1 c.in-Some.ensures ascending c.requires.node c.requires.part some in
    let emptied = rw c.if-not-branch.false at c.in_ok-empty_last.ensures.done in
    let each = run_appended _ first.1 c.in-Some.ensures ascending g.met.K.Ord.total for c.empty_last.new.arenas emptied _ c.leaf_mut.result.now
    c.leaf_mut.ensures.value (rw (c.close.ensures.array, first.2) refl) (rw first.2 at c.in-Some-first_key.ensures.few) in
    (c.in-Some.end.leaf, for.last, rw first.2 each, c.close.ensures.left)
