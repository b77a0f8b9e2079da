use Rattle.std.proofs.Common.{sym, ap, ◌∙◌, arith}
use Rattle.tree_node.proofs.Common.{fits}
use Rattle.tree_state.specs.Tallies.{tally}
use Rattle.tree_state.proofs.Tallied.{fits_tally}
use Rattle.tree_shared.proofs.shared.SharedOver.close.Goals as goal

pub take_all-tally-requires-clause-fits : goal.take_all-tally-requires-clause-fits
take_all-tally-requires-clause-fits g c =
    rw (c.books.view_is ∙ c.into_parts-state.ensures.tallied ∙ ap (λ h. tally h) (sym c.into_parts-index.ensures.calls)) (fits_tally c.into_parts-index.result.1.items (omega (arith, c.into_parts-index.result.1.ok.0)))

pub into_parts-state-requires : goal.into_parts-state-requires
into_parts-state-requires g c = search fits

pub into_parts-index-requires : goal.into_parts-index-requires
into_parts-index-requires g c = (search fits, search fits)
