use Rattle.std.proofs.Common.{length, min, ◌-◌, ◌^◌, ◌∙◌, ap}
use Rattle.storetool.proofs.Figures.{figures_put}
use Rattle.storetool.proofs.stat.push_figures.Goals as goal

pub returns : goal.returns
returns g c = figures_put c.push_figure-5.result _ _ _ _ _ _ c.len-pairs.result _ c.size-bytes.result c.saturating_sub-waste.result c.depth.result c.head.result.generation _ (c.len-pairs.ensures ∙ ap (λ pairs. min (length pairs) (2 ^ 64 - 1)) c.index.ensures) (ap (λ head. head.generation) c.head.ensures) c.in_ok-push_figure.ensures c.in_ok-push_figure-2.ensures c.in_ok-push_figure-3.ensures c.in_ok-push_figure-4.ensures c.push_figure-5.ensures
