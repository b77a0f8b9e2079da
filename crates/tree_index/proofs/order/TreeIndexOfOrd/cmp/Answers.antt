use Rattle.tree_node.proofs.Common.{fits}
use Rattle.std.proofs.Common.{◌∙◌, sym}
use Rattle.std.specs.Cmp.{then_agrees}
use Rattle.std.specs.Cmp.Lexicographic.{lists_agrees}
use Rattle.tree_index.proofs.order.TreeIndexOfOrd.cmp.Goals as goal

pub unreachable-requires : goal.unreachable-requires
unreachable-requires g c =
    let agree = lists_agrees (then_agrees (λ p q. g.met.K.Ord.matches_partial_cmp p.0 q.0) (λ p q. g.met.V.Ord.matches_partial_cmp p.1 q.1)) c.args.self.now.pairs c.args.other.now.pairs in
    let none = sym c.in-None.is ∙ c.partial_cmp.ensures ∙ agree in
    cc

pub returns : goal.returns
returns g c =
    let agree = lists_agrees (then_agrees (λ p q. g.met.K.Ord.matches_partial_cmp p.0 q.0) (λ p q. g.met.V.Ord.matches_partial_cmp p.1 q.1)) c.args.self.now.pairs c.args.other.now.pairs in
    let same = sym c.in-Some.is ∙ c.partial_cmp.ensures ∙ agree in
    cc

pub partial_cmp-requires : goal.partial_cmp-requires
partial_cmp-requires g c = search fits
