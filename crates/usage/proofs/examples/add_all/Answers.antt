use Rattle.std.proofs.Common.{sym, ap, ◌∙◌, nat_cmp, map-id}
use Rattle.std.proofs.lemmas.Iterator.Adapters.{YieldsList-from_vec, fact_from_extend}
use Rattle.tree_set.specs.Collects.{added_each}
use Rattle.usage.proofs.examples.add_all.Goals as goal

-- the vector gives its items
pub returns : goal.returns
returns c =
    fact_from_extend (λ number. number) c.extend.result c.extend.ensures.ran (λ it gave. YieldsList-from_vec {s = it} _ gave.0 (gave.1 ∙ c.args.more.ok.0))
    (λ numbers given added. added ∙ ap (added_each nat_cmp c.args.numbers.now) (sym (map-id numbers) ∙ given))
