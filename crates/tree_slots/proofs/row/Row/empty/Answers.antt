use Rattle.tree_slots.proofs.Common.{None, arith, get_or, rules, sym, ◌<◌, ◌∙◌, ◌≡◌}
use Rattle.std.proofs.lemmas.List.{same_lists, length-replicate, get_or-replicate}
use Rattle.tree_slots.proofs.row.Row.empty.Goals as goal

pub returns : goal.returns
returns g c =
    let made = c.from_fn-slots.ensures.items in
    same_lists _ _ (made.long ∙ sym (length-replicate g.row.LEN None)) (λ k d lt.
    let within : k < g.row.LEN = omega (arith, made.long) in
    let at = made.at k d within in
    let none : get_or c.from_fn-slots.result k d ≡ None = (let called = at.2 in search rules) in
    none ∙ sym (get_or-replicate g.row.LEN k None d within))
