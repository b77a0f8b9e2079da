-- What the first move back of a cursor gives: the last pair within its bounds.
use Rattle.std.proofs.Common.{◌≡◌, ◌∙◌, List, [], ◌∷◌, Option, Some, None, Bor, Ordering, ap, refl, reverse, sym}
use Rattle.std.proofs.lemmas.Grind.{reverse_onto}
use Rattle.std.proofs.lemmas.List.{reverse-reverse}
use Rattle.std.specs.Map.Iter.{TakesLast}
use Rattle.tree_model.proofs.Common.{Cursor, IsTotalOrder, Moves, lent_entry, rest}
use Rattle.tree_model.specs.declared.way.Way.TheVariants.{Back}
use Rattle.tree_cursors.specs.Ranged.{IsFresh, pairs_within}
use Rattle.tree_cursors.proofs.Yields.{fresh_begun, rest_fresh, takes_first}

pub last_moved : {K V : Type 0} {cmp : K → K → Ordering} (o : IsTotalOrder cmp) (c t : Cursor K V) (r : Option (Bor K × Bor V)) → IsFresh c → Moves cmp Back c r t
    → (front : List (K × V)) × TakesLast lent_entry (pairs_within cmp c) r front
last_moved {cmp = cmp} o c t None new moves =
    let takes = takes_first o Back c t None moves (fresh_begun cmp c new Back) in
    let none : reverse (pairs_within cmp c) ≡ [] = sym (rest_fresh cmp c new Back) ∙ takes.1.0 in
    ([], (sym (reverse-reverse (pairs_within cmp c)) ∙ ap reverse none, refl))
last_moved {cmp = cmp} o c t (Some x) new moves =
    let takes = takes_first o Back c t (Some x) moves (fresh_begun cmp c new Back) in
    let all : reverse (pairs_within cmp c) ≡ lent_entry x ∷ rest cmp Back t = sym (rest_fresh cmp c new Back) ∙ takes.1 in
    (reverse (rest cmp Back t), sym (reverse-reverse (pairs_within cmp c)) ∙ ap reverse all ∙ reverse_onto (rest cmp Back t) (lent_entry x) [])
