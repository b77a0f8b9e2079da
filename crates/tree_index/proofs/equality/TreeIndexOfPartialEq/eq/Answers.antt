use Rattle.std.proofs.Common.{◌≡◌, ℕ, false, nat_eq, min, sym, ap, ◌∙◌, arith}
use Rattle.tree_model.proofs.Common.{nat_tests}
use Rattle.tree_node.proofs.Common.{fits}
use Rattle.std.specs.Cmp.Lexicographic.{unequal}
use Rattle.tree_views.proofs.Walked.{all_left}
use Rattle.tree_index.proofs.equality.TreeIndexOfPartialEq.eq.Goals as goal

unequal_test : (a b : ℕ) → (a ≡ b → ⊥) → nat_eq a b ≡ false
unequal_test a b differ = grind (arith, nat_tests)

pub iter-requires : goal.iter-requires
iter-requires g c = (search fits, (search fits, (search fits, search fits)))

pub iter-requires-then-len : goal.iter-requires-then-len
iter-requires-then-len g c = (search fits, (search fits, (search fits, search fits)))

pub are_same-requires : goal.are_same-requires
are_same-requires g c = (search fits, (search fits, (search fits, (rw c.iter.ensures tt, rw c.iter-then-len.ensures tt))))

pub returns-then-len : goal.returns-then-len
returns-then-len g c = rw (c.iter.ensures, c.iter-then-len.ensures, all_left g.K.Ord.cmp c.args.self.now.pairs, all_left g.K.Ord.cmp c.args.other.now.pairs) at c.are_same.ensures

pub returns-else-len : goal.returns-else-len
returns-else-len g c =
    let differ : nat_eq c.len.result c.len-2.result ≡ false = unequal_test _ _ c.if-len.false in
    rw differ (sym (unequal _ _ _ (λ same. c.if-len.false (c.len.ensures ∙ ap (λ n. min n 18446744073709551615) same ∙ sym c.len-2.ensures))))

pub len-requires : goal.len-requires
len-requires g c = search fits

pub len-requires-2 : goal.len-requires-2
len-requires-2 g c = search fits
