use Rattle.std.proofs.Common.{◌≡◌, ◌∙◌, ap, refl}
use Rattle.tree_texts.specs.Prefix.{end_of}
use Rattle.tree_texts.proofs.Prefixes.{prefix_all, prefix_within}
use Rattle.tree_model.proofs.Common.{Included}
use Rattle.tree_texts.proofs.MappedBounds.{mapped}
use Rattle.tree_texts.proofs.prefix.prefix_bounds.Goals as goal

pub returns : goal.returns
returns c =
    let high : c.map.result ≡ end_of c.args.prefix.now = mapped (λ bytes. bytes.items) _ (λ bytes key is. is) c.in_ok-high.high c.map.result c.map.ensures ∙ c.in_ok-high.ensures in
    record {
      low = ap Included (rw (c.from.ensures, c.in_ok-low.ensures.items) refl);
      all = λ key is. rw (c.from.ensures, c.in_ok-low.ensures.items, high) (prefix_all c.args.prefix.now key is);
      exact = λ key bytes. rw (c.from.ensures, c.in_ok-low.ensures.items, high) (prefix_within c.args.prefix.now key bytes);
    }
