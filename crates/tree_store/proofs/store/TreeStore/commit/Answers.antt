use Rattle.std.proofs.Common.{◌≡◌, ◌⊎◌, ◌==◌, inl, inr, ℕ, List, [], ◌∷◌, ◌++◌, refl, sym, ◌∙◌, ap}
use Rattle.store_pair.proofs.Pairs.{caused_so}
use Rattle.tree_store.specs.Store.{store_of}
use Rattle.tree_store.proofs.Replayed.{is_nil}
use Rattle.tree_store.proofs.Settled.{as_it_was, batch_led, empty_saved, kinds_kept, led_by, refused_clause, refused_store, settled_leaves, settled_store, turns}
use Rattle.tree_store.proofs.store.TreeStore.commit.Goals as goal

pub returns-then-is_stopped-clause-refused : goal.returns-then-is_stopped-clause-refused
returns-then-is_stopped-clause-refused g c = inl (rw (← c.self.view_is) (sym c.is_stopped.ensures ∙ c.if-is_stopped.true))

pub returns-then-is_empty-clause-saved : goal.returns-then-is_empty-clause-saved
returns-then-is_empty-clause-saved g c =
    rw (← c.self.view_is) (λ clean.
    let runs = sym c.is_stopped.ensures ∙ c.if-is_stopped.false in
    empty_saved c.self.invariant runs clean (is_nil c.self.inside.batch.items c.is_empty.result (c.is_empty.ensures ∙ ap (λ (n : ℕ). n == 0) c.self.inside.batch.ok.0) c.if-is_empty.true) refl)

pub returns-then-is_empty-clause-leaves : goal.returns-then-is_empty-clause-leaves
returns-then-is_empty-clause-leaves g c =
    rw (← c.self.view_is) (λ clean.
    let runs = sym c.is_stopped.ensures ∙ c.if-is_stopped.false in
    as_it_was c.self.invariant runs clean c.self.inside.index.pairs (empty_saved c.self.invariant runs clean (is_nil c.self.inside.batch.items c.is_empty.result (c.is_empty.ensures ∙ ap (λ (n : ℕ). n == 0) c.self.inside.batch.ok.0) c.if-is_empty.true) refl))

pub returns-then-is_empty-clause-crash : goal.returns-then-is_empty-clause-crash
returns-then-is_empty-clause-crash g c = rw (← c.self.view_is) (λ clean runs durable saved left may. inl (as_it_was c.self.invariant runs clean durable saved left may))

-- the batch became a text
pub invariant_of-self : goal.invariant_of-self
invariant_of-self g c =
    let runs = sym c.is_stopped.ensures ∙ c.if-is_stopped.false in
    let new = c.append.new.self in
    let text = c.deref.result.now in
    let texts = c.self.inside.log.texts ++ text ∷ [] in
    settled_store c.self.invariant runs new (kinds_kept c.self.invariant runs new c.append.ensures.head) c.in-Ok.ensures.kept
    (λ clean. led_by c.self.invariant runs new texts (c.in-Ok.ensures.appended clean) (batch_led c.self.invariant runs text c.deref.ensures.value (c.append.ensures.clean clean)))
    c.clear.new.self.items c.clear.ensures.items

pub returns-in-Ok-clause-saved : goal.returns-in-Ok-clause-saved
returns-in-Ok-clause-saved g c =
    rw (← c.self.view_is) (λ clean.
    let runs = sym c.is_stopped.ensures ∙ c.if-is_stopped.false in
    let text = c.deref.result.now in
    led_by c.self.invariant runs c.append.new.self (c.self.inside.log.texts ++ text ∷ []) (c.in-Ok.ensures.appended clean) (batch_led c.self.invariant runs text c.deref.ensures.value (c.append.ensures.clean clean)))

pub returns-in-Ok-clause-leaves : goal.returns-in-Ok-clause-leaves
returns-in-Ok-clause-leaves g c =
    rw (← c.self.view_is) (
    let runs = sym c.is_stopped.ensures ∙ c.if-is_stopped.false in
    let new = c.append.new.self in
    let text = c.deref.result.now in
    let texts = c.self.inside.log.texts ++ text ∷ [] in
    settled_leaves c.self.invariant runs new (kinds_kept c.self.invariant runs new c.append.ensures.head) c.in-Ok.ensures.kept
    (λ clean. led_by c.self.invariant runs new texts (c.in-Ok.ensures.appended clean) (batch_led c.self.invariant runs text c.deref.ensures.value (c.append.ensures.clean clean))))

pub returns-in-Ok-clause-crash : goal.returns-in-Ok-clause-crash
returns-in-Ok-clause-crash g c =
    rw (← c.self.view_is) (λ clean runs durable saved left may.
    let text = c.deref.result.now in
    let log = c.self.inside.log in
    turns c.self.invariant runs log.head (log.texts ++ text ∷ []) c.self.invariant.are (batch_led c.self.invariant runs text c.deref.ensures.value (c.append.ensures.clean clean)) left durable (c.append.ensures.crash clean runs left may) saved)

-- or the log refused it
pub invariant_of-self-in-Err : goal.invariant_of-self-in-Err
invariant_of-self-in-Err g c = refused_store c.self.invariant (sym c.is_stopped.ensures ∙ c.if-is_stopped.false) c.append.new.self c.append.ensures.head c.in-Err.ensures.refused c.append.ensures.clean

pub returns-in-Err-clause-crash : goal.returns-in-Err-clause-crash
returns-in-Err-clause-crash g c =
    rw (← c.self.view_is) (λ clean runs durable saved left may.
    let text = c.deref.result.now in
    let log = c.self.inside.log in
    turns c.self.invariant runs log.head (log.texts ++ text ∷ []) c.self.invariant.are (batch_led c.self.invariant runs text c.deref.ensures.value (c.append.ensures.clean clean)) left durable (c.append.ensures.crash clean runs left may) saved)

pub returns-in-Err-clause-refused : goal.returns-in-Err-clause-refused
returns-in-Err-clause-refused g c = rw (← c.self.view_is) (refused_clause c.self.invariant (sym c.is_stopped.ensures ∙ c.if-is_stopped.false) c.append.new.self c.append.ensures.head c.in-Err.ensures.refused)

pub returns-in-Err-clause-cause : goal.returns-in-Err-clause-cause
returns-in-Err-clause-cause g c = rw (← c.self.view_is) (caused_so _ c.in-Err.error (λ same. ap (store_of c.self.inside.index.pairs) same) c.in-Err.ensures.cause)

pub returns-in-Ok-clause-clean : goal.returns-in-Ok-clause-clean
returns-in-Ok-clause-clean g c = rw (← c.self.view_is) c.append.ensures.clean

pub returns-in-Err-clause-clean : goal.returns-in-Err-clause-clean
returns-in-Err-clause-clean g c = rw (← c.self.view_is) c.append.ensures.clean
