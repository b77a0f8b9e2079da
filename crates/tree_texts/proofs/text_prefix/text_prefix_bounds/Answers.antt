use Rattle.std.proofs.Common.{ap, refl}
use Rattle.std.specs.declared.ops.Bound.TheVariants.{Included}
use Rattle.tree_texts.proofs.TextPrefixes.{text_all, text_within}
use Rattle.tree_texts.proofs.text_prefix.text_prefix_bounds.Goals as goal

pub returns : goal.returns
returns c = record {
  low = ap Included (rw (c.from.ensures, c.in_ok-low.ensures.ok) refl);
  all = λ key is. rw (c.from.ensures, c.in_ok-high.ensures, c.in_ok-clone.ensures.cases, c.in_ok-low.ensures.ok) (text_all c.args.prefix.now key c.utf8.prefix is);
  exact = λ key are. rw (c.from.ensures, c.in_ok-high.ensures, c.in_ok-clone.ensures.cases, c.in_ok-low.ensures.ok) (text_within c.args.prefix.now key c.utf8.prefix are);
}
