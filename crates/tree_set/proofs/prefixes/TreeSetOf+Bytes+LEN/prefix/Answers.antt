use Rattle.std.proofs.Common.{refl, ap, ◌∙◌, nat_cmp}
use Rattle.std.specs.Cmp.Lexicographic.{slice_cmp}
use Rattle.std.specs.List.{starts_with}
use Rattle.std.specs.Prelude.{nat_eq}
use Rattle.tree_model.proofs.Common.{within}
use Rattle.tree_node.proofs.Common.{fits}
use Rattle.tree_set.proofs.Keys.{keys-filter}
use Rattle.tree_set.specs.Sets.{keys_of}
use Rattle.tree_set.proofs.prefixes.TreeSetOf+Bytes+LEN.prefix.Goals as goal

pub new-requires : goal.new-requires
new-requires g c = (search fits, (search fits, (search fits, rw c.prefix_range.ensures.range (record { forward = refl; backward = refl }))))

pub returns-clause-range : goal.returns-clause-range
returns-clause-range g c = rw (c.new.ensures, c.prefix_range.ensures.range, ← c.self.view_is) (keys-filter (within (slice_cmp nat_cmp) c.args.bounds.now.0 c.args.bounds.now.1) c.self.inside.index.pairs)

pub returns-clause-prefix : goal.returns-clause-prefix
returns-clause-prefix g c = λ prefix b. rw (c.new.ensures, ← c.self.view_is) (ap keys_of (c.prefix_range.ensures.prefix prefix b) ∙ keys-filter (λ key. starts_with nat_eq key prefix) c.self.inside.index.pairs)

pub prefix_range-requires : goal.prefix_range-requires
prefix_range-requires g c = search fits
