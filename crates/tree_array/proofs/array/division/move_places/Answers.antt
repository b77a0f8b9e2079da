use Rattle.tree_array.proofs.Lemmas.{◌-◌, refl, arith, rules, emptied_run, in_turn_run, left_stands, fields, none_new, places_apart, length-names}
use Rattle.tree_array.proofs.Moved.{moved_fields}
use Rattle.tree_array.proofs.array.division.move_places.Goals as goal

pub take_places-requires : goal.take_places-requires
take_places-requires g c =
    let o = g.met.K.Ord.total in
    let t = c.requires.tabled in
    let it = t.3 in
    let none = none_new (fields refl refl refl c.to.invariant c.to.view_is) c.requires.new in
    let names = length-names c.args.order t.2 in
    (search rules, (c.requires.ends, (omega (arith, t.4, it.few, it.few_made, names), (omega (arith, t.4, it.few, it.few_made, names, c.to.invariant.order.small), ((λ i le lt. left_stands o it t.5 i le (omega (arith, lt, t.4))), ((λ i j le lt less. places_apart _ _ it.in_order o i j (omega (arith, t.4)) (omega (arith, t.4)) (λ e. omega arith)), (none.2, (c.to.invariant.table.whole, (none.1, none.0)))))))))

pub in_turn-requires : goal.in_turn-requires
in_turn-requires g c =
    let t = c.requires.tabled in
    (search rules, (c.to.invariant.order.small, omega (arith, t.4, t.3.few, t.3.few_made, length-names c.args.order t.2)))

pub invariant_of-to : goal.invariant_of-to
invariant_of-to g c =
    let t = c.requires.tabled in
    let moved = c.take_places.ensures in
    let turn = in_turn_run g.met.K.Ord.total t.3 t.5 t.4 moved.turn in
    rw (moved.entries, moved.arrivals) (moved_fields _ _ t.3 c.args.from (c.args.end - c.args.from) c.args.end (omega (arith, c.requires.ends)) t.4 turn moved.whole c.in_turn.ensures.names (rw c.in_turn.ensures.count at c.in_turn.result.whole) c.in_turn.ensures.live).it

pub returns-clause-moved : goal.returns-clause-moved
returns-clause-moved g c = λ old made count it few left.
    let o = g.met.K.Ord.total in
    let moved = c.take_places.ensures in
    let turn = in_turn_run o it left few moved.turn in
    (emptied_run o it left few c.requires.ends moved.left, rw (moved.entries, moved.arrivals) (moved_fields _ _ it c.args.from (c.args.end - c.args.from) c.args.end (omega (arith, c.requires.ends)) few turn moved.whole c.in_turn.ensures.names (rw c.in_turn.ensures.count at c.in_turn.result.whole) c.in_turn.ensures.live).view)
