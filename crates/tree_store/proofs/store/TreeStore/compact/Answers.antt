use Rattle.std.proofs.Common.{◌≡◌, ◌⊎◌, inl, inr, ℕ, List, [], ◌∷◌, refl, sym, ◌∙◌, ap}
use Rattle.store_log.specs.Spare.{next_head}
use Rattle.store_log.proofs.Returned.{given_err}
use Rattle.store_pair.proofs.Pairs.{caused_so, now_left}
use Rattle.tree_store.specs.Store.{store_of}
use Rattle.tree_node.proofs.Common.{fits}
use Rattle.tree_store.proofs.Settled.{as_it_was, kinds_next, led_by, records_led, refused_clause, refused_store, settled_leaves, settled_store, turns}
use Rattle.tree_store.proofs.store.TreeStore.compact.Goals as goal

pub all_records-requires : goal.all_records-requires
all_records-requires g c = search fits

pub returns-then-is_stopped-clause-refused : goal.returns-then-is_stopped-clause-refused
returns-then-is_stopped-clause-refused g c = inl (rw (← c.self.view_is) (sym c.is_stopped.ensures ∙ c.if-is_stopped.true))

-- there was no memory for the records
pub returns-in_err-text-clause-crash : goal.returns-in_err-text-clause-crash
returns-in_err-text-clause-crash g c = rw (← c.self.view_is) (λ clean runs durable saved left may. inl (as_it_was c.self.invariant runs clean durable saved left may))

pub returns-in_err-text-clause-refused : goal.returns-in_err-text-clause-refused
returns-in_err-text-clause-refused g c =
    rw (← c.self.view_is) (given_err c.from_residual.result (inr (λ clean durable saved. (saved, as_it_was c.self.invariant (sym c.is_stopped.ensures ∙ c.if-is_stopped.false) clean durable saved))))

-- the records became the one text
pub invariant_of-self : goal.invariant_of-self
invariant_of-self g c =
    let runs = sym c.is_stopped.ensures ∙ c.if-is_stopped.false in
    let new = c.rewrite.new.self in
    let text = c.deref.result.now in
    let led = records_led c.self.invariant runs g.met.K.Ord.total text c.in_ok-text.text.items c.deref.ensures.value c.in_ok-text.ensures.noted in
    settled_store c.self.invariant runs new (kinds_next c.self.invariant runs new c.in-Ok.ensures.turned) (λ clean. now_left g.D.Disk.may_leave new (text ∷ []) (c.in-Ok.ensures.rewritten clean))
    (λ clean. led_by c.self.invariant runs new (text ∷ []) (c.in-Ok.ensures.rewritten clean).0 (led (c.rewrite.ensures.clean clean)))
    c.clear.new.self.items c.clear.ensures.items

pub returns-in-Ok-clause-saved : goal.returns-in-Ok-clause-saved
returns-in-Ok-clause-saved g c =
    rw (← c.self.view_is) (λ clean.
    let runs = sym c.is_stopped.ensures ∙ c.if-is_stopped.false in
    let text = c.deref.result.now in
    let led = records_led c.self.invariant runs g.met.K.Ord.total text c.in_ok-text.text.items c.deref.ensures.value c.in_ok-text.ensures.noted in
    led_by c.self.invariant runs c.rewrite.new.self (text ∷ []) (c.in-Ok.ensures.rewritten clean).0 (led (c.rewrite.ensures.clean clean)))

pub returns-in-Ok-clause-leaves : goal.returns-in-Ok-clause-leaves
returns-in-Ok-clause-leaves g c =
    rw (← c.self.view_is) (
    let runs = sym c.is_stopped.ensures ∙ c.if-is_stopped.false in
    let new = c.rewrite.new.self in
    let text = c.deref.result.now in
    let led = records_led c.self.invariant runs g.met.K.Ord.total text c.in_ok-text.text.items c.deref.ensures.value c.in_ok-text.ensures.noted in
    settled_leaves c.self.invariant runs new (kinds_next c.self.invariant runs new c.in-Ok.ensures.turned) (λ clean. now_left g.D.Disk.may_leave new (text ∷ []) (c.in-Ok.ensures.rewritten clean))
    (λ clean. led_by c.self.invariant runs new (text ∷ []) (c.in-Ok.ensures.rewritten clean).0 (led (c.rewrite.ensures.clean clean))))

pub returns-in-Ok-clause-crash : goal.returns-in-Ok-clause-crash
returns-in-Ok-clause-crash g c =
    rw (← c.self.view_is) (λ clean runs durable saved left may.
    let text = c.deref.result.now in
    let log = c.self.inside.log in
    let led = records_led c.self.invariant runs g.met.K.Ord.total text c.in_ok-text.text.items c.deref.ensures.value c.in_ok-text.ensures.noted in
    turns c.self.invariant runs (next_head log.head) (text ∷ []) c.self.invariant.are (led (c.rewrite.ensures.clean clean)) left durable (c.rewrite.ensures.crash clean runs left may) saved)

-- or the log refused it
pub invariant_of-self-in-Err : goal.invariant_of-self-in-Err
invariant_of-self-in-Err g c = refused_store c.self.invariant (sym c.is_stopped.ensures ∙ c.if-is_stopped.false) c.rewrite.new.self c.in-Err.ensures.same c.in-Err.ensures.refused c.rewrite.ensures.clean

pub returns-clause-crash : goal.returns-clause-crash
returns-clause-crash g c =
    rw (← c.self.view_is) (λ clean runs durable saved left may.
    let text = c.deref.result.now in
    let log = c.self.inside.log in
    let led = records_led c.self.invariant runs g.met.K.Ord.total text c.in_ok-text.text.items c.deref.ensures.value c.in_ok-text.ensures.noted in
    turns c.self.invariant runs (next_head log.head) (text ∷ []) c.self.invariant.are (led (c.rewrite.ensures.clean clean)) left durable (c.rewrite.ensures.crash clean runs left may) saved)

pub returns-clause-refused : goal.returns-clause-refused
returns-clause-refused g c = rw (← c.self.view_is) (refused_clause c.self.invariant (sym c.is_stopped.ensures ∙ c.if-is_stopped.false) c.rewrite.new.self c.in-Err.ensures.same c.in-Err.ensures.refused)

pub returns-clause-cause : goal.returns-clause-cause
returns-clause-cause g c = rw (← c.self.view_is) (caused_so _ c.in-Err.error (λ same. ap (store_of c.self.inside.index.pairs) same) c.in-Err.ensures.cause)

pub returns-in-Ok-clause-turned : goal.returns-in-Ok-clause-turned
returns-in-Ok-clause-turned g c = rw (← c.self.view_is) c.in-Ok.ensures.turned

pub returns-clause-same : goal.returns-clause-same
returns-clause-same g c = rw (← c.self.view_is) c.in-Err.ensures.same

pub returns-in-Ok-clause-clean : goal.returns-in-Ok-clause-clean
returns-in-Ok-clause-clean g c = rw (← c.self.view_is) c.rewrite.ensures.clean

pub returns-clause-clean : goal.returns-clause-clean
returns-clause-clean g c = rw (← c.self.view_is) c.rewrite.ensures.clean
