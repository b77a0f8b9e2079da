use Rattle.std.proofs.Common.{◌≡◌, rules}
use Rattle.tree_leaf.proofs.Chains.{chain_used, prev_used, same_array_used}
use Rattle.tree_leaf.proofs.Additions.{gains_before, still_used, new_used}
use Rattle.tree_leaf.proofs.leaf.links.add_before.Goals as goal

pub leaf-requires : goal.leaf-requires
leaf-requires g c = (search rules, (search rules, chain_used _ _ _ _ c.requires.2))

pub splice_link-requires : goal.splice_link-requires
splice_link-requires g c = (search rules, (λ n is. still_used _ _ _ _ c.in_ok-id.ensures.leaves n (prev_used _ _ _ _ c.requires.2 _ c.leaf.ensures n is), λ n is. new_used _ _ _ _ c.in_ok-id.ensures.leaves n is))

pub splice_link-requires-2 : goal.splice_link-requires-2
splice_link-requires-2 g c = (
  search rules,
  (
    λ n is. same_array_used _ _ (c.splice_link.ensures.kept n) (new_used _ _ _ _ c.in_ok-id.ensures.leaves n is),
    λ n is. same_array_used _ _ (c.splice_link.ensures.kept n) (still_used _ _ _ _ c.in_ok-id.ensures.leaves n (let same : n ≡ c.args.at = cc in rw same (chain_used _ _ _ _ c.requires.2))),
  ),
)

pub returns : goal.returns
returns g c = gains_before _ _ _ _ _ _ _ _ c.leaf.ensures c.in_ok-id.ensures.leaves c.splice_link.ensures c.splice_link-2.ensures (prev_used _ _ _ _ c.requires.2 _ c.leaf.ensures) c.in_ok-id.ensures.nodes
