use Rattle.tree_model.proofs.LookUps.{pair_at-put, pair_at-without, pair_at-cut}
use Rattle.tree_model.proofs.laws.edits_are_found.Goals as goal

pub returns : goal.returns
returns g c =
    let order = g.met.K.Ord.total in
    record { put = λ l k v key. pair_at-put order key l k v; without = λ l k key. pair_at-without order key l k; cut = λ l low high key. pair_at-cut order key l low high }
