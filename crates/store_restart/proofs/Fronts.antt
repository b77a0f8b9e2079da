-- Fronts of batches, and lists that are seen alike.
use Rattle.std.specs.Prelude.{Result, Ok, Err, IfErr, IfOk, IsErrOf, OnOk, OnErr, is_ok}
use Rattle.std.proofs.Common.{◌≡◌, ◌≤◌, true, false, List, [], ◌∷◌, ◌++◌, length, refl, sym, ◌∙◌, ap, arith, append_assoc, append-nil, Ordering}
use Rattle.std.specs.declared.cmp.Ordering.TheVariants.{Equal}
use Rattle.store_codec.specs.declared.records.Record.{Record}
use Rattle.store_restart.specs.declared.batch.Batch.{Batch}
use Rattle.store_restart.specs.declared.run.Reached.{Reached}
use Rattle.store_restart.specs.Fronts.{IsAfterFront, IsFront, made_by}
use Rattle.tree_model.proofs.Common.{IsTotalOrder}
use Rattle.tree_store.specs.Changes.{changed, changed_by}
use Rattle.tree_store.specs.Laws.{AreAlike}
use Rattle.tree_store.proofs.Alike.{alike_changed_by}

pub of_ok : {T E P : Type 0} (r : Result T E) → is_ok r ≡ true → OnOk r P → P
of_ok (Ok x) ok p = p
of_ok (Err e) ok p = let z : ⊥ = cc ok in absurd z

pub of_err : {T E P : Type 0} (r : Result T E) → is_ok r ≡ false → OnErr r P → P
of_err (Ok x) ok p = let z : ⊥ = cc ok in absurd z
of_err (Err e) ok p = p

pub not_ok : {T E : Type 0} (r : Result T E) (e : E) → IsErrOf r e → is_ok r ≡ false
not_ok (Ok x) e h = let z : ⊥ = cc h in absurd z
not_ok (Err x) e h = refl

pub err_so : {T E : Type 0} {P Q : E → Type 0} (r : Result T E) → IfErr r P → ((e : E) → P e → Q e) → IfErr r Q
err_so (Ok x) p f = search
err_so (Err e) p f = f e p

pub err_both : {T E : Type 0} {P P' Q : E → Type 0} (r : Result T E) → IfErr r P → IfErr r P' → ((e : E) → P e → P' e → Q e) → IfErr r Q
err_both (Ok x) p q f = search
err_both (Err e) p q f = f e p q

pub ok_so : {T E : Type 0} {P Q : T → Type 0} (r : Result T E) → IfOk r P → ((x : T) → P x → Q x) → IfOk r Q
ok_so (Ok x) p f = f x p
ok_so (Err e) p f = search

pub ok_both : {T E : Type 0} {P P' Q : T → Type 0} (r : Result T E) → IfOk r P → IfOk r P' → ((x : T) → P x → P' x → Q x) → IfOk r Q
ok_both (Ok x) p q f = f x p q
ok_both (Err e) p q f = search

module _ {B : Type 0} (reached : Reached) where
  pub none_yet : (batches : List B) → reached.durable ≡ 0 → IsFront reached [] batches
  none_yet batches none = record { rest = batches; is = refl; least = omega (arith, none); most = omega arith }

  -- all that were made
  pub front_all : (made : List B) → reached.made ≡ length made → reached.durable ≤ reached.made → IsFront reached made made
  front_all made count least = record { rest = []; is = append-nil made; least = omega (arith, count, least); most = omega (arith, count) }

  -- a front of some batches is one of more
  pub front_of : (front made rest batches : List B) → IsFront reached front made → made ++ rest ≡ batches → IsFront reached front batches
  front_of front made rest batches f is = record {
    rest = f.rest ++ rest;
    is = sym (append_assoc front f.rest rest) ∙ ap (λ xs. xs ++ rest) f.is ∙ is;
    least = f.least;
    most = f.most;
  }

  -- and after one more was made
  pub front_more : (next : Reached) (front made : List B) (batch : B) → next.durable ≡ reached.durable → reached.made ≤ next.made → IsFront reached front made → IsFront next front (made ++ batch ∷ [])
  front_more next front made batch same more f = record {
    rest = f.rest ++ batch ∷ [];
    is = sym (append_assoc front f.rest (batch ∷ [])) ∙ ap (λ xs. xs ++ batch ∷ []) f.is;
    least = let l = f.least in omega (arith, same, l);
    most = let m = f.most in omega (arith, more, m);
  }

module _ {K V : Type 0} (cmp : K → K → Ordering) where
  pub changed_by-push : (records : List (Record K V)) (one : Record K V) (old : List (K × V)) → changed_by cmp (records ++ one ∷ []) old ≡ changed cmp one (changed_by cmp records old)
  changed_by-push [] one old = refl
  changed_by-push (first ∷ records) one old = changed_by-push records one (changed cmp first old)

  pub made_by-push : (front : List (Batch K V)) (batch : Batch K V) (old : List (K × V)) → made_by cmp (front ++ batch ∷ []) old ≡ changed_by cmp batch.changes.items (made_by cmp front old)
  made_by-push [] batch old = refl
  made_by-push (first ∷ front) batch old = made_by-push front batch (changed_by cmp first.changes.items old)

module _ {K V A B : Type 0} (seen_key : K → A) (seen_value : V → B) where
  pub alike_self : (a : List (K × V)) → AreAlike seen_key seen_value a a
  alike_self [] = tt
  alike_self (p ∷ a) = (refl, refl, alike_self a)

  pub alike_then : (a b c : List (K × V)) → AreAlike seen_key seen_value a b → AreAlike seen_key seen_value b c → AreAlike seen_key seen_value a c
  alike_then [] [] [] one two = tt
  alike_then (p ∷ a) (q ∷ b) (r ∷ c) one two = (one.0 ∙ two.0, one.1 ∙ two.1, alike_then a b c one.2 two.2)
  alike_then [] (q ∷ b) c one two = absurd one
  alike_then (p ∷ a) [] c one two = absurd one
  alike_then [] [] (r ∷ c) one two = absurd two
  alike_then (p ∷ a) (q ∷ b) [] one two = absurd two

  -- a list after a front, as it is seen
  pub after_alike : (cmp : K → K → Ordering) (reached : Reached) (batches : List (Batch K V)) (old found new : List (K × V)) → IsAfterFront cmp seen_key seen_value reached batches old found → AreAlike seen_key seen_value new found → IsAfterFront cmp seen_key seen_value reached batches old new
  after_alike cmp reached batches old found new after alike = record { front = after.front; is = after.is; alike = alike_then new found (made_by cmp after.front old) alike after.alike }

module _ {K V A B : Type 0} {cmp : K → K → Ordering} (o : IsTotalOrder cmp) (seen_key : K → A) (seen_value : V → B) (law : (x y : K) → seen_key x ≡ seen_key y → cmp x y ≡ Equal) where
  alike_made : (front : List (Batch K V)) (old other : List (K × V)) → AreAlike seen_key seen_value old other → AreAlike seen_key seen_value (made_by cmp front old) (made_by cmp front other)
  alike_made [] old other h = h
  alike_made (batch ∷ front) old other h = alike_made front (changed_by cmp batch.changes.items old) (changed_by cmp batch.changes.items other) (alike_changed_by o seen_key seen_value law batch.changes.items batch.changes.items refl old other h)

  -- a list after a front, from a list that is seen as another
  pub after_other : (reached : Reached) (batches : List (Batch K V)) (old other new : List (K × V)) → IsAfterFront cmp seen_key seen_value reached batches old new → AreAlike seen_key seen_value old other → IsAfterFront cmp seen_key seen_value reached batches other new
  after_other reached batches old other new after alike = record { front = after.front; is = after.is; alike = alike_then seen_key seen_value new (made_by cmp after.front old) (made_by cmp after.front other) after.alike (alike_made after.front old other alike) }
