-- The lines of a store's figures.
use Rattle.std.proofs.Common.{◌≡◌, ℕ, List, ◌++◌, Option, Result, Ok, Err, OnOk, codes, ap, subst, ◌∙◌, append_assoc}
use Rattle.storetool.specs.Printing.{Prints, figure, figures}

five_pieces : (t a b c d e : List ℕ) → ((((t ++ a) ++ b) ++ c) ++ d) ++ e ≡ t ++ (a ++ (b ++ (c ++ (d ++ e))))
five_pieces t a b c d e =
    append_assoc (((t ++ a) ++ b) ++ c) d e
    ∙ append_assoc ((t ++ a) ++ b) c (d ++ e)
    ∙ append_assoc (t ++ a) b (c ++ (d ++ e))
    ∙ append_assoc t a (b ++ (c ++ (d ++ e)))

-- each line was appended behind those before
pub figures_put : {T E : Type 0} (result : Result T E) (t t1 t2 t3 t4 t5 : List ℕ) (count pairs bytes waste depth stamp generation : ℕ) → count ≡ pairs → stamp ≡ generation
    → t1 ≡ t ++ figure (codes "pairs") count → t2 ≡ t1 ++ figure (codes "bytes") bytes → t3 ≡ t2 ++ figure (codes "waste") waste → t4 ≡ t3 ++ figure (codes "depth") depth
    → OnOk result (t5 ≡ t4 ++ figure (codes "generation") stamp)
    → OnOk result ((x y z : ℕ) × (t5 ≡ t ++ figures pairs x y z generation))
figures_put (Err e) t t1 t2 t3 t4 t5 count pairs bytes waste depth stamp generation counted stamped first second third fourth last = tt
figures_put (Ok v) t t1 t2 t3 t4 t5 count pairs bytes waste depth stamp generation counted stamped first second third fourth last = (
  bytes,
  waste,
  depth,
  last
      ∙ ap (λ l. l ++ figure (codes "generation") stamp) (fourth ∙ ap (λ l. l ++ figure (codes "depth") depth) (third ∙ ap (λ l. l ++ figure (codes "waste") waste) (second ∙ ap (λ l. l ++ figure (codes "bytes") bytes) first)))
      ∙ five_pieces t (figure (codes "pairs") count) (figure (codes "bytes") bytes) (figure (codes "waste") waste) (figure (codes "depth") depth) (figure (codes "generation") stamp)
      ∙ ap (λ n. t ++ figures n bytes waste depth stamp) counted
      ∙ ap (λ n. t ++ figures pairs bytes waste depth n) stamped,
)

-- a text that is printed is any that equals it
pub prints_same : {T E : Type 0} (result : Result T E) (text text' : List ℕ) (x y : Option (List ℕ)) → text ≡ text' → Prints text x y result → Prints text' x y result
prints_same result text text' x y same = subst (λ t. Prints t x y result) same
