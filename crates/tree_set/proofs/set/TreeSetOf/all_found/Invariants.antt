use Rattle.std.proofs.Common.{◌≡◌}
use Rattle.std.specs.List.{AllByRecursion}
use Rattle.tree_set.specs.Sets.{has}
use Rattle.tree_set.proofs.set.TreeSetOf.all_found.Given as goal

-- what was looked up was found, or was not
abbrev pub invariant-loop-element : goal.invariant-loop-element
invariant-loop-element g l = record {
  whole : AllByRecursion (λ x. has g.K.Ord.cmp l.fn.other x ≡ l.fn.found) l.element-iterator → AllByRecursion (λ x. has g.K.Ord.cmp l.fn.other x ≡ l.fn.found) l.fn.self;
  rest : AllByRecursion (λ x. has g.K.Ord.cmp l.fn.other x ≡ l.fn.found) l.fn.self → AllByRecursion (λ x. has g.K.Ord.cmp l.fn.other x ≡ l.fn.found) l.element-iterator;
}
