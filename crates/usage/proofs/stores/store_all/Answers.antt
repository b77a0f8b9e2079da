use Rattle.std.proofs.Common.{sym, ap, ◌∙◌, nat_cmp, map-id}
use Rattle.std.proofs.lemmas.Iterator.Adapters.{YieldsList-from_vec, fact_from_extend}
use Rattle.tree_index.specs.Collects.{puts}
use Rattle.usage.proofs.stores.store_all.Goals as goal

-- the vector gives its items
pub returns : goal.returns
returns c =
    fact_from_extend (λ pair. pair) c.extend.result c.extend.ensures.ran (λ it gave. YieldsList-from_vec {s = it} _ gave.0 (gave.1 ∙ c.args.batch.ok.0))
    (λ pairs given put. put ∙ ap (puts nat_cmp c.args.samples.now.pairs) (sym (map-id pairs) ∙ given))
