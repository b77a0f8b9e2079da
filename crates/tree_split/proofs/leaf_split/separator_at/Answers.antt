use Rattle.std.proofs.Common.{◌≡◌}
use Rattle.std.proofs.lemmas.Result.{MatchResult-weaker}
use Rattle.tree_split.proofs.leaf_split.separator_at.Goals as goal

pub returns : goal.returns
returns g c =
    let found = c.in-Some.ensures in
    let same : found.0 ≡ (c.key.result.now, c.key.ensures.0) = cc (found.1, c.key.ensures.1) in
    MatchResult-weaker c.clone.result c.clone.ensures.cases
    (λ key cloned. (found.0, found.2, rw same (g.met.K.IndexKey.clone_equal c.key.result.now key cloned))) (λ error refused. tt)
