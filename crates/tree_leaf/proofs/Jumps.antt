-- Where a jump over leaves ends, and which entry it finds.
use Rattle.std.proofs.Common.{◌≡◌, ℕ, ◌==◌, Bool, true, false, cond, List, [], ◌∷◌, ◌++◌, length, reverse, Option, Some, None, option_map, refl, sym, ap, ◌∙◌, arith, append_assoc, eqb-true, inl, inr, ◌⊎◌, Bor, flat_map}
use Rattle.tree_model.proofs.Common.{AllByRecursion, nil_from_length, reverse_onto, reverse-append, reverse-reverse, lent_entry, along}
use Rattle.tree_leaf.proofs.ChainCommon.{Back, LeafOf, LeafWalk, On, Slab, Steps, Way, ahead, beyond, entries_of, first_of, first_on, jumped, landing, leaf_entries, leaves_on, standing}
use Rattle.tree_leaf.proofs.Along.{all_ahead, along-flat_map, along-nil, along_empty, first_along, first_at, first_place, first_step, first_taken, not_none, step_takes}
use Rattle.std.specs.Map.Iter.{TakesFirst}

-- a number on the way of a walk parts the chain anew
pub record Onward (way : Way) (chain : List ℕ) (next : ℕ) (ids : List ℕ) : Type 0 where
  pub front : List ℕ
  pub back : List ℕ
  pub stands : front ++ next ∷ back ≡ chain
  pub rest : leaves_on way front back ≡ ids

pub onward : (way : Way) (front : List ℕ) (id : ℕ) (back passed : List ℕ) (next : ℕ) (ids : List ℕ) → leaves_on way front back ≡ passed ++ next ∷ ids
    → Onward way (front ++ id ∷ back) next ids
onward On front id back passed next ids is = record {
  front = front ++ id ∷ passed;
  back = ids;
  stands = rw is (append_assoc front (id ∷ passed) (next ∷ ids));
  rest = refl;
}
onward Back front id back passed next ids is =
    let turned = ap (λ xs. xs ++ reverse passed) (reverse_onto ids next []) ∙ append_assoc (reverse ids) (next ∷ []) (reverse passed) in
    let whole : front ≡ reverse ids ++ next ∷ reverse passed = sym (reverse-reverse front) ∙ ap reverse is ∙ reverse-append passed (next ∷ ids) ∙ turned in
    record {
      front = reverse ids;
      back = reverse passed ++ id ∷ back;
      stands =
          rw whole (sym (append_assoc (reverse ids) (next ∷ reverse passed) (id ∷ back)));
      rest = reverse-reverse ids;
    }

-- what is taken first is the first
pub first_is : {X : Type 0} (left : List X) (first : Option X) (rest : List X) → TakesFirst (λ x. x) left first rest → first ≡ first_of left
first_is left None rest takes = rw takes.0 refl
first_is left (Some x) rest takes = rw takes refl

module _ {K V : Type 0} {LEN : ℕ} (leaves : Slab (LeafOf K V LEN)) where
  abbrev pub IsEmpty : ℕ → Type 0
  IsEmpty id = (length (leaf_entries leaves id) == 0) ≡ true

  pub none_there : (id : ℕ) → IsEmpty id → leaf_entries leaves id ≡ []
  none_there id empty = nil_from_length _ (eqb-true _ 0 empty)

  -- a jump over these leaves lands in one of them, before which none has an entry, nor behind if it has none itself
  pub record Lands (ids : List ℕ) (id : ℕ) : Type 0 where
    pub front : List ℕ
    pub back : List ℕ
    pub parts : ids ≡ front ++ id ∷ back
    pub empty : AllByRecursion IsEmpty front
    pub last : IsEmpty id → back ≡ []

  lands : (before : Option ℕ) (ids : List ℕ) (id : ℕ) → landing leaves before ids ≡ Some id → ((before ≡ Some id) × (ids ≡ [])) ⊎ Lands ids id
  lands before [] id is = inl (is, refl)
  lands before (x ∷ ids) id is = inr (by_test (length (leaf_entries leaves x) == 0) refl (lands (Some x) ids id) is)
    where
      first : x ≡ id → (IsEmpty x → ids ≡ []) → Lands (x ∷ ids) id
      first same last = record { front = []; back = ids; parts = ap (λ n. n ∷ ids) same; empty = tt; last = rw same at last }

      by_test : (empty : Bool) → (length (leaf_entries leaves x) == 0) ≡ empty
          → (landing leaves (Some x) ids ≡ Some id → ((Some x ≡ Some id) × (ids ≡ [])) ⊎ Lands ids id)
          → cond empty (landing leaves (Some x) ids) (Some x) ≡ Some id → Lands (x ∷ ids) id
      by_test true e again is = elim (again is) [
        | inl here ↦ first (let same = here.0 in cc) (λ none. here.1)
        | inr l ↦ record { front = x ∷ l.front; back = l.back; parts = ap (λ ns. x ∷ ns) l.parts; empty = (e, l.empty); last = l.last }
      ]
      by_test false e again is = first (cc) (λ none. absurd (cc))

  pub lands_in : (ids : List ℕ) (id : ℕ) → landing leaves None ids ≡ Some id → Lands ids id
  lands_in ids id is = elim (lands None ids id is) [ inl none ↦ absurd (let bad = none.0 in cc) | inr l ↦ l ]

  -- or nowhere, where no leaf follows
  pub lands_nowhere : (before : Option ℕ) (ids : List ℕ) → landing leaves before ids ≡ None → (before ≡ None) × (ids ≡ [])
  lands_nowhere before [] is = (is, refl)
  lands_nowhere before (x ∷ ids) is = let again = lands_nowhere (Some x) ids in absurd (grind arith)

  module _ (way : Way) where
    -- the entries of these leaves in the order of the way, the nearest leaf first
    abbrev pub met : List ℕ → List (K × V)
    met ids = flat_map (λ id. along way (leaf_entries leaves id)) ids

    pub met_beyond : (front back : List ℕ) → along way (entries_of leaves (beyond way front back)) ≡ met (leaves_on way front back)
    met_beyond front back = along-flat_map way (leaf_entries leaves) (beyond way front back)

    -- leaves without an entry are passed
    pub met_over : (front ids : List ℕ) → AllByRecursion IsEmpty front → met (front ++ ids) ≡ met ids
    met_over [] ids empty = refl
    met_over (x ∷ front) ids empty = rw (none_there x empty.0, along-nil (K × V) way) (met_over front ids empty.1)

    -- the first entry of the leaf in which a jump lands is that of all these leaves, and the others are left
    pub landed : (ids : List ℕ) (id : ℕ) (l : Lands ids id)
        → TakesFirst (λ x. x) (met ids) (first_on way (leaf_entries leaves id)) (ahead way (leaf_entries leaves id) (first_at way (leaf_entries leaves id)) ++ met l.back)
    landed ids id l = rw (l.parts, met_over l.front (id ∷ l.back) l.empty) (by_entries (leaf_entries leaves id) refl)
      where
        by_entries : (e : List (K × V)) → leaf_entries leaves id ≡ e → TakesFirst (λ x. x) (along way e ++ met l.back) (first_on way e) (ahead way e (first_at way e) ++ met l.back)
        by_entries [] is = rw (l.last (rw is refl), first_place way [], all_ahead way [], along-nil (K × V) way) (refl, refl)
        by_entries (x ∷ e) is =
            let first = first_step way x e in
            let taken = sym (all_ahead way (x ∷ e)) ∙ step_takes way (x ∷ e) None _ first.first first.steps in
            rw (first_place way (x ∷ e), first.steps.1, not_none x e, taken) refl

    -- a jump that lands in a leaf, and there takes a step
    pub jumps : (here : ℕ) (at : Option ℕ) (begun new : LeafWalk K V LEN) (front back : List ℕ) (id : ℕ) (result : Option (Bor K × Bor V)) → landing leaves None (leaves_on way front back) ≡ Some id → begun ≡ standing leaves id None → Steps way begun result new
        → (new ≡ jumped way (standing leaves here at) (landing leaves None (leaves_on way front back))) × (option_map lent_entry result ≡ first_on way (entries_of leaves (beyond way front back)))
    jumps here at begun new front back id result is fresh steps =
        let step = rw fresh at steps in
        let first = first_taken way (leaf_entries leaves id) (option_map lent_entry result) new.at step.1 in
        rw (is, ← first.1, first_along way (entries_of leaves (beyond way front back)), met_beyond front back)
        (step.0, first.0 ∙ first_is _ _ _ (landed _ id (lands_in (leaves_on way front back) id is)))

    -- a walk with no leaf on its way stays
    pub stays : (here : ℕ) (at : Option ℕ) (front back : List ℕ) → landing leaves None (leaves_on way front back) ≡ None
        → (standing leaves here at ≡ jumped way (standing leaves here at) (landing leaves None (leaves_on way front back))) × (None ≡ first_on way (entries_of leaves (beyond way front back)))
    stays here at front back is = rw (is, along_empty way (beyond way front back) (lands_nowhere None (leaves_on way front back) is).1) (refl, sym (first_place way []))
