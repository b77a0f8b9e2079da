use Rattle.tree_cells.proofs.Lemmas.{length, sym, ◌∙◌, ap, arith, rules, false≢true, same_Some, none_replicated, steps, length-zipped, rows_seen}
use Rattle.tree_cells.proofs.cells.Cells.take_places.Goals as goal

pub gather-requires : goal.gather-requires
gather-requires g c =
    let rows = rows_seen c.in-Some.is c.self.view_is c.self.invariant in
    let to = same_Some _ _ (sym c.replace-old.ensures.after ∙ c.in-Some-rows.is) in
    (search steps, (search steps, (omega (arith, c.if-from-end.false), (c.requires.few, (c.requires.places, (rw (c.spare.ensures.same, c.spare-in-Some.ensures.same) rows.alike, (rw (c.spare.ensures.same, c.spare-in-Some.ensures.same, rows.view) c.requires.stands, (c.requires.apart, (λ p. rw (← to, c.spare.ensures.empty) (none_replicated g.row.LEN p), λ p. rw (← to, c.spare-in-Some.ensures.empty) (none_replicated g.row.LEN p))))))))))

pub unreachable-requires-in-None : goal.unreachable-requires-in-None
unreachable-requires-in-None g c =
    let stands = c.requires.stands c.args.from (omega arith) (omega (arith, c.requires.ends, c.if-from-end.false)) in
    false≢true (rw (← c.self.view_is, c.in-None.is, none_replicated) at stands)

pub returns : goal.returns
returns g c =
    let rows = rows_seen c.in-Some.is c.self.view_is c.self.invariant in
    let moved = c.gather.ensures in
    let whole = length-zipped _ _ (c.gather.new.to_keys.whole ∙ sym c.gather.new.to_vals.whole) ∙ c.gather.new.to_keys.whole in
    let before = length-zipped _ _ rows.same ∙ c.in-Some.rows.keys.whole in
    let after = length-zipped _ _ (c.gather.new.keys.whole ∙ sym c.gather.new.vals.whole) ∙ c.gather.new.keys.whole in
    record {
      turn = rw (c.spare.ensures.same, c.spare-in-Some.ensures.same, rows.view) at moved.turn;
      left = rw (c.spare.ensures.same, c.spare-in-Some.ensures.same, rows.view) at moved.left;
      same = after ∙ sym before ∙ ap length rows.view;
      whole = whole;
      counts = search rules;
      entries = search rules;
      arrivals = search rules;
    }
