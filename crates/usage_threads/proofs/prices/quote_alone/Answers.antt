use Rattle.std.proofs.Common.{◌++◌}
use Rattle.usage_threads.proofs.Shown.{shown_last}
use Rattle.usage_threads.proofs.prices.quote_alone.Goals as goal

-- the list that ends with the price is what the reader was told
pub returns : goal.returns
returns g c =
    let old = c.args.writer.now in
    (old.published ++ old.pending, shown_last old.published old.pending _ _ _ _ _ c.in_ok-upsert.ensures.0 c.in_ok-upsert.ensures.1 c.in_ok-publish.ensures.0 c.in_ok-receipt.ensures.reader)
