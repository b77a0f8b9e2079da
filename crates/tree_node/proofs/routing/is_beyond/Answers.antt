use Rattle.std.proofs.Common.{◌≡◌, sym, ◌∙◌, ap, is_gt}
use Rattle.tree_node.proofs.Common.{same_Some, greater_from_test}
use Rattle.tree_node.proofs.Routes.{beyond_last, last_exceeded}
use Rattle.tree_node.proofs.routing.is_beyond.Goals as goal

pub returns-in-Some : goal.returns-in-Some
returns-in-Some g c =
    let last = c.in-Some.ensures in
    let same : last.0 ≡ (c.key.result.now, c.key.ensures.0) = same_Some _ _ (sym last.1 ∙ c.key.ensures.1) in
    let asked : g.K.Ord.cmp c.args.key.now last.0.0 ≡ c.cmp.result = ap (λ pair. g.K.Ord.cmp c.args.key.now pair.0) same ∙ sym c.cmp.ensures in (
      (λ h. rw last.3 (beyond_last g.met.K.Ord.total c.args.key.now last.2 last.0 (rw last.3 at c.free.ensures.sound.ascending) (asked ∙ greater_from_test c.cmp.result (rw c.is_gt.ensures at h)))),
      (λ h. rw c.is_gt.ensures (ap is_gt (sym asked ∙ last_exceeded g.met.K.Ord.total c.args.key.now last.2 last.0 (rw last.3 at h)))),
    )
