use Rattle.std.proofs.Common.{rules, [], ◌∷◌}
use Rattle.tree_leaf.proofs.Chains.{chain_used, neighbours, prev_used, next_used}
use Rattle.tree_leaf.proofs.leaf.links.unlink.Goals as goal

pub leaf-leaf-requires : goal.leaf-leaf-requires
leaf-leaf-requires g c = (search rules, (search rules, chain_used _ _ _ _ c.requires.2))

pub splice_link-requires : goal.splice_link-requires
splice_link-requires g c = (search rules, (prev_used _ _ _ _ c.requires.2 _ c.leaf-leaf.ensures, next_used _ _ _ _ c.requires.2 _ c.leaf-leaf.ensures))

pub returns : goal.returns
returns g c = record {
  leaf = _;
  here = c.leaf-leaf.ensures;
  splices = c.splice_link.ensures;
  chained = λ front back chain.
      let beside = neighbours _ front c.args.id back chain _ c.leaf-leaf.ensures in
      c.splice_link.ensures.chained front (c.args.id ∷ []) back beside.0 beside.1 chain;
}
