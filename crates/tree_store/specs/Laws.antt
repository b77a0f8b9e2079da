-- Laws of the definitions.
use Rattle.std.specs.Prelude.{◌≡◌, ℕ, List, [], ◌∷◌, Option}
use Rattle.std.specs.declared.cmp.Ordering.{Ordering}
use Rattle.store_codec.specs.declared.records.Record.{Record}
use Rattle.store_pair.specs.Pair.{Held}
use Rattle.tree_store.specs.Store.{StandFor}

-- the pairs are seen alike
abbrev pub AreAlike : {K V A B : Type 0} → (K → A) → (V → B) → List (K × V) → List (K × V) → Type 0
AreAlike seen_key seen_value [] [] = Unit {0}
AreAlike seen_key seen_value (p ∷ ps) (q ∷ qs) = (seen_key p.0 ≡ seen_key q.0) × (seen_value p.1 ≡ seen_value q.1) × AreAlike seen_key seen_value ps qs
AreAlike seen_key seen_value [] (q ∷ qs) = ⊥
AreAlike seen_key seen_value (p ∷ ps) [] = ⊥

-- files stand for one list of pairs, as these are seen
abbrev pub StandOnce : {K V A B : Type 0} → (K → K → Ordering) → (K → A) → (V → B) → (List ℕ → Option (Record A B × List ℕ)) → Type 0
StandOnce {K} {V} cmp seen_key seen_value read =
    (kinds : ℕ × ℕ) (held : Held) (one other : List (K × V)) → StandFor cmp seen_key seen_value read kinds held one → StandFor cmp seen_key seen_value read kinds held other → AreAlike seen_key seen_value one other
