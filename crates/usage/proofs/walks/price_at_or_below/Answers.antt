use Rattle.std.proofs.Common.{ℕ, Option, ap, ◌∙◌, option_map}
use Rattle.tree_model.proofs.Common.{nat_cmp_total}
use Rattle.tree_index.proofs.Beside.{between_below, exact_below, smaller_below}
use Rattle.usage.proofs.walks.price_at_or_below.Goals as goal

pub returns-in-Exact : goal.returns-in-Exact
returns-in-Exact c =
    c.price_of.ensures ∙ ap (λ (offer : Option (ℕ × ℕ)). option_map (λ pair. pair.1) offer) (c.get.ensures.pair ∙ exact_below nat_cmp_total c.args.prices.now.pairs c.args.item c.in-Exact.at c.get.ensures.ascending c.in-Exact.ensures)

pub returns-in-Between : goal.returns-in-Between
returns-in-Between c =
    c.price_of-in-Between.ensures
    ∙ ap (λ (offer : Option (ℕ × ℕ)). option_map (λ pair. pair.1) offer) (c.get-in-Between.ensures.pair ∙ between_below nat_cmp_total c.args.prices.now.pairs c.args.item c.in-Between.at c.get-in-Between.ensures.ascending c.in-Between.ensures)

pub returns-in-Smaller : goal.returns-in-Smaller
returns-in-Smaller c =
    c.price_of-in-Smaller.ensures
    ∙ ap (λ (offer : Option (ℕ × ℕ)). option_map (λ pair. pair.1) offer) (c.get_back.ensures.pair ∙ smaller_below nat_cmp_total c.args.prices.now.pairs c.args.item c.in-Smaller.at c.get_back.ensures.ascending c.in-Smaller.ensures)
