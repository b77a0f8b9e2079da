-- What arguments ask for, and that it is one task at most.
use Rattle.std.proofs.Common.{◌≡◌, ℕ, ◌<◌, ◌≤◌, ◌==◌, false, List, [], ◌∷◌, get_or, length, map, Option, Some, None, refl, sym, ap, ◌∙◌, arith}
use Rattle.tree_model.proofs.Common.{false≢true}
use Rattle.std.proofs.lemmas.Fmt.{decimal_injective}
use Rattle.treetool.specs.declared.task.Task.{Task}
use Rattle.treetool.specs.declared.task.Task.TheVariants.{Lines, SmallLines, Storm}
use Rattle.treetool.specs.Storm.{AsksForStorm}
use Rattle.treetool.specs.Tasks.{AsksFor, IsTask, small_words, task_words}

-- two tasks with the same words are the same
same_task : (a b : Task) → IsTask a → IsTask b → task_words a ≡ task_words b → a ≡ b
same_task Lines Lines fits others same = refl
same_task SmallLines SmallLines fits others same = refl
same_task (Storm workers pairs) (Storm more later) fits others same =
    let first = decimal_injective workers more (omega arith) (omega arith) (ap (λ l. get_or l 1 []) same) in
    let second = decimal_injective pairs later (omega arith) (omega arith) (ap (λ l. get_or l 2 []) same) in
    rw (first, second) refl
same_task a b fits others same = absurd (cc)

pub asked_once : (words : List (List ℕ)) (a b : Option Task) → AsksFor words a → AsksFor words b → a ≡ b
asked_once words (Some a) (Some b) h k = ap Some (same_task a b h.0 k.0 (sym h.1 ∙ k.1))
asked_once words (Some a) None h k = absurd (k a h.0 h.1)
asked_once words None (Some b) h k = absurd (h b k.0 k.1)
asked_once words None None h k = refl

-- arguments ask for one storm at most
pub same_storm : (words : List (List ℕ)) (workers pairs more later : ℕ) → AsksFor words (Some (Storm workers pairs)) → AsksFor words (Some (Storm more later)) → (workers ≡ more) × (pairs ≡ later)
same_storm words workers pairs more later h k =
    let same = sym h.1 ∙ k.1 in (
      decimal_injective workers more (omega (arith, h.0)) (omega (arith, k.0)) (ap (λ l. get_or l 1 []) same),
      decimal_injective pairs later (omega (arith, h.0)) (omega (arith, k.0)) (ap (λ l. get_or l 2 []) same),
    )

-- arguments that are none of these ask for nothing
pub asks_nothing : (words : List (List ℕ)) → (words ≡ [] → ⊥) → (words ≡ small_words → ⊥) → AsksForStorm words None → AsksFor words None
asks_nothing words some other calm Lines fits e = some e
asks_nothing words some other calm SmallLines fits e = other e
asks_nothing words some other calm (Storm workers pairs) fits e = calm (workers, pairs) fits e

-- where there are arguments, there are words
pub some_words : {X : Type 0} (f : X → List ℕ) (xs : List X) → false ≡ (length xs == 0) → map f xs ≡ [] → ⊥
some_words f [] some e = false≢true some
some_words f (x ∷ xs) some e = absurd (cc)

-- the word of one argument
pub one_word : {X : Type 0} (f : X → List ℕ) (xs : List X) (a : X) → 1 ≤ length xs → length xs < 2 → a ≡ get_or xs 0 a → map f xs ≡ f a ∷ []
one_word f [] a least below is = absurd (omega (arith, least))
one_word f (x ∷ []) a least below is = rw is refl
one_word f (x ∷ y ∷ xs) a least below is = absurd (omega (arith, below))

-- arguments that ask for one task ask for no other
pub asks_no_other : {X : Type 0} (words : List (List ℕ)) (a b : Option Task) → AsksFor words a → AsksFor words b → (a ≡ b → ⊥) → X
asks_no_other words a b h k apart = absurd (apart (asked_once words a b h k))
