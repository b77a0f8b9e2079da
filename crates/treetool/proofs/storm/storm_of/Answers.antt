use Rattle.std.proofs.Common.{rules, ◌≡◌, map, ℕ, ◌<◌, ◌≤◌, length, List, [], ◌∷◌, get_or, refl, sym, ap, ◌∙◌, arith, string_bytes, decimal}
use Rattle.std.proofs.lemmas.Fmt.{decimal_injective}
use Rattle.treetool.proofs.storm.storm_of.Goals as goal

-- a list of three, told by its places
listed : {X : Type 0} (f : X → List ℕ) (xs : List X) (a b c : X) → 3 ≤ length xs → length xs < 4 → a ≡ get_or xs 0 a → b ≡ get_or xs 1 b → c ≡ get_or xs 2 c → map f xs ≡ f a ∷ f b ∷ f c ∷ []
listed f [] a b c least below ia ib ic = absurd (omega (arith, least))
listed f (x ∷ []) a b c least below ia ib ic = absurd (omega (arith, least))
listed f (x ∷ y ∷ []) a b c least below ia ib ic = absurd (omega (arith, least))
listed f (x ∷ y ∷ z ∷ []) a b c least below ia ib ic = rw (ia, ib, ic) refl
listed f (x ∷ y ∷ z ∷ w ∷ xs) a b c least below ia ib ic = absurd (omega (arith, below))

-- too few workers, too many or too many pairs
pub returns-then-workers-lt1 : goal.returns-then-workers-lt1
returns-then-workers-lt1 c = λ storm fits e.
    let list = listed string_bytes c.args.arguments.now c.name-item.result c.workers-item.result c.pairs-item.result c.in-len3.len_at_least c.in-len3.len_below c.name-item.is c.workers-item.is c.pairs-item.is in
    let first = ap (λ l. get_or l 1 []) (sym list ∙ e) in
    let second = ap (λ l. get_or l 2 []) (sym list ∙ e) in
    let workers = decimal_injective c.in_ok-workers.workers storm.0 c.in_ok-workers.ensures.0 (omega (arith, fits.1)) (sym c.in_ok-workers.ensures.1 ∙ c.as_bytes.ensures.value ∙ first) in
    let pairs = decimal_injective c.in_ok-pairs.pairs storm.1 c.in_ok-pairs.ensures.0 (omega (arith, fits.2)) (sym c.in_ok-pairs.ensures.1 ∙ c.as_bytes-2.ensures.value ∙ second) in
    grind (arith, c.then-workers-lt1.either, workers, pairs, fits.0, fits.1, fits.2)

pub returns : goal.returns
returns c =
    let list = listed string_bytes c.args.arguments.now c.name-item.result c.workers-item.result c.pairs-item.result c.in-len3.len_at_least c.in-len3.len_below c.name-item.is c.workers-item.is c.pairs-item.is in
    (search rules, rw list (search rules))
