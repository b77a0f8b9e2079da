use Rattle.std.proofs.Common.{◌≡◌, inl, true, false, sym, ◌∙◌, ap}
use Rattle.store_log.specs.Log.{Contents}
use Rattle.store_pair.specs.Pair.{pair_of}
use Rattle.store_pair.proofs.Pairs.{caused_so, not_stopped}
use Rattle.store_pair.proofs.Turned.{refused_clean, refused_crash, refused_pair, refused_texts, turned_clean, turned_crash, turned_pair, turned_texts}
use Rattle.store_pair.proofs.pair.LogPair.rewrite.Goals as goal

pub rewrite-requires : goal.rewrite-requires
rewrite-requires g c = record { older = c.self.invariant.older (sym c.is_stopped.ensures ∙ c.if-is_stopped.false) }

pub returns-then-is_stopped-clause-refused : goal.returns-then-is_stopped-clause-refused
returns-then-is_stopped-clause-refused g c = inl (rw (← c.self.view_is) (sym c.is_stopped.ensures ∙ c.if-is_stopped.true))

pub returns-then-is_stopped-clause-crash : goal.returns-then-is_stopped-clause-crash
returns-then-is_stopped-clause-crash g c =
    rw (← c.self.view_is) (λ clean off left may.
    let on : c.self.inside.log.stopped ≡ true = sym c.is_stopped.ensures ∙ c.if-is_stopped.true in
    let z : ⊥ = cc (on, off) in
    absurd z)

-- the other file counts
pub invariant_of-self : goal.invariant_of-self
invariant_of-self g c = turned_pair c.self.invariant (sym c.is_stopped.ensures ∙ c.if-is_stopped.false) c.self.inside.swapped c.args.text.now c.rewrite.new.self c.rewrite.new.spare c.close.new.spare c.in-Ok.ensures.turned.0 c.in-Ok.ensures.turned.2 c.in-Ok.ensures.rewritten c.close.ensures.older c.close.ensures.clean

pub returns-in-Ok-clause-rewritten : goal.returns-in-Ok-clause-rewritten
returns-in-Ok-clause-rewritten g c = turned_texts c.self.invariant (sym c.is_stopped.ensures ∙ c.if-is_stopped.false) c.self.inside.swapped c.args.text.now c.rewrite.new.self c.rewrite.new.spare c.close.new.spare c.in-Ok.ensures.turned.0 c.in-Ok.ensures.turned.2 c.in-Ok.ensures.rewritten c.close.ensures.older c.close.ensures.clean

pub returns-in-Ok-clause-runs : goal.returns-in-Ok-clause-runs
returns-in-Ok-clause-runs g c = c.in-Ok.ensures.turned.1

pub returns-in-Ok-clause-turned : goal.returns-in-Ok-clause-turned
returns-in-Ok-clause-turned g c = rw (← c.self.view_is) c.in-Ok.ensures.turned.0

pub returns-in-Ok-clause-crash : goal.returns-in-Ok-clause-crash
returns-in-Ok-clause-crash g c =
    rw (← c.self.view_is) (λ clean _. turned_crash c.self.invariant (sym c.is_stopped.ensures ∙ c.if-is_stopped.false) c.self.inside.swapped c.args.text.now c.rewrite.new.self c.rewrite.new.spare c.close.new.spare c.in-Ok.ensures.turned.0 c.in-Ok.ensures.turned.2 c.in-Ok.ensures.rewritten c.close.ensures.older c.close.ensures.clean clean)

pub returns-in-Ok-clause-clean : goal.returns-in-Ok-clause-clean
returns-in-Ok-clause-clean g c =
    rw (← c.self.view_is) (λ clean. turned_clean c.self.invariant (sym c.is_stopped.ensures ∙ c.if-is_stopped.false) c.self.inside.swapped c.args.text.now c.rewrite.new.self c.rewrite.new.spare c.close.new.spare c.in-Ok.ensures.turned.0 c.in-Ok.ensures.turned.2 c.in-Ok.ensures.rewritten c.close.ensures.older c.close.ensures.clean clean c.in-Ok.ensures.clean_ok)

pub returns-in-Ok-clause-stopped : goal.returns-in-Ok-clause-stopped
returns-in-Ok-clause-stopped g c = rw (← c.self.view_is) (not_stopped c.self.inside.log.stopped (sym c.is_stopped.ensures ∙ c.if-is_stopped.false))

-- or the log refused it
pub invariant_of-self-in-Err : goal.invariant_of-self-in-Err
invariant_of-self-in-Err g c = refused_pair c.self.invariant (sym c.is_stopped.ensures ∙ c.if-is_stopped.false) c.self.inside.swapped c.args.text.now c.rewrite.new.self c.rewrite.new.spare c.in-Err.ensures.same.0 c.in-Err.ensures.refused

pub returns-in-Err-clause-same : goal.returns-in-Err-clause-same
returns-in-Err-clause-same g c = rw (← c.self.view_is) c.in-Err.ensures.same.1

pub returns-in-Err-clause-crash : goal.returns-in-Err-clause-crash
returns-in-Err-clause-crash g c =
    rw (← c.self.view_is) (λ clean _. refused_crash c.self.invariant (sym c.is_stopped.ensures ∙ c.if-is_stopped.false) c.self.inside.swapped c.args.text.now c.rewrite.new.self c.rewrite.new.spare c.in-Err.ensures.same.0 clean c.in-Err.ensures.crash)

pub returns-in-Err-clause-refused : goal.returns-in-Err-clause-refused
returns-in-Err-clause-refused g c =
    rw (← c.self.view_is) (refused_texts c.self.invariant (sym c.is_stopped.ensures ∙ c.if-is_stopped.false) c.self.inside.swapped c.args.text.now c.rewrite.new.self c.rewrite.new.spare c.in-Err.ensures.same.0 c.in-Err.ensures.refused c.in-Err.ensures.same.2)

pub returns-in-Err-clause-cause : goal.returns-in-Err-clause-cause
returns-in-Err-clause-cause g c =
    rw (← c.self.view_is) (
    let inside = c.self.inside in
    let new = c.rewrite.new.self in
    let last = c.rewrite.new.spare in
    caused_so _ c.in-Err.error (λ (both : (new ≡ inside.log) × (last ≡ inside.spare)). ap (λ (l : Contents g.row.D.Denot). pair_of inside.swapped l last) both.0 ∙ ap (λ d. pair_of inside.swapped inside.log d) both.1) c.in-Err.ensures.cause)

pub returns-in-Err-clause-clean : goal.returns-in-Err-clause-clean
returns-in-Err-clause-clean g c =
    rw (← c.self.view_is) (λ clean. refused_clean c.self.invariant (sym c.is_stopped.ensures ∙ c.if-is_stopped.false) c.self.inside.swapped c.args.text.now c.rewrite.new.self c.rewrite.new.spare c.in-Err.ensures.same.0 clean c.in-Err.ensures.clean_err)

pub returns-in-Err-clause-stopped : goal.returns-in-Err-clause-stopped
returns-in-Err-clause-stopped g c = rw (← c.self.view_is) (not_stopped c.self.inside.log.stopped (sym c.is_stopped.ensures ∙ c.if-is_stopped.false))
