use Rattle.tree_cells.proofs.OrderCommon.{List, ℕ, get_or, sym, ◌∙◌, ap, arith, eqb-true, turn, get_or-names, same_names}
use Rattle.tree_cells.proofs.order.is_in_turn.Goals as goal

pub returns : goal.returns
returns c = λ same i lt.
    let equal = eqb-true c.first.result c.first-2.result same in
    let names = same_names c.args.word 1070935975390360080 c.args.count (sym c.first.ensures ∙ equal ∙ c.first-2.ensures) in
    sym (get_or-names c.args.word c.args.count i 0 lt) ∙ ap (λ (slots : List ℕ). get_or slots i 0) names ∙ get_or-names 1070935975390360080 c.args.count i 0 lt ∙ turn i (omega (arith, lt, c.requires))
