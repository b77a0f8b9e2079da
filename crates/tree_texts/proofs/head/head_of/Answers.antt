use Rattle.std.proofs.Common.{◌∙◌, arith}
use Rattle.tree_texts.proofs.Heads.{head_whole}
use Rattle.tree_texts.proofs.head.head_of.Goals as goal

pub returns : goal.returns
returns c = record {
  is = c.from_be_bytes.ensures ∙ head_whole c.args.bytes.now;
  all = λ i. omega (arith, c.type_inv.bytes i);
}
