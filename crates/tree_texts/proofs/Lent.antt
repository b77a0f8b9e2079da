-- What a look-up lends is the pair that it found.
use Rattle.std.proofs.Common.{◌≡◌, List, Option, Some, None, Bor, sym, MatchOption, Ordering}
use Rattle.tree_model.proofs.Common.{lent, IsAbsent, pair_at}

pub lent_found : {K V : Type 0} (cmp : K → K → Ordering) (pairs : List (K × V)) (key : K) (found : Option (Bor K × Bor V)) → MatchOption found (IsAbsent cmp pairs key) (λ pair. pair_at cmp pairs key ≡ Some (pair.0.now, pair.1.now)) → lent found ≡ pair_at cmp pairs key
lent_found cmp pairs key None absent = sym absent
lent_found cmp pairs key (Some pair) is = sym is
