use Rattle.tree_cells.proofs.OrderCommon.{◌≡◌, ◌-◌, ℕ, Some, sym, ◌∙◌, ap, arith, cases_lt, named, named_tail, slice_get-names}
use Rattle.tree_cells.proofs.order.Order.last.Goals as goal

pub returns : goal.returns
returns g c =
    let last = c.args.self.count - 1 in
    let same : named c.args.self.word last ≡ named c.args.self.word (g.row.LEN - 1) = grind (arith, named_tail c.args.self.whole c.requires (g.row.LEN - 1), c.args.self.whole.few, c.requires, cases_lt (g.row.LEN - 1) c.args.self.count) in
    slice_get-names c.args.self.word c.args.self.count last (omega (arith, c.requires)) ∙ ap (λ (slot : ℕ). Some slot) (same ∙ sym c.slot_at.ensures)
