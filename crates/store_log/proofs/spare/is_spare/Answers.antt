use Rattle.std.proofs.Common.{◌≡◌, inl, inr, List, ℕ, length, length-drop, take, drop, sym, ◌∙◌, ap, subst, arith}
use Rattle.std.proofs.lemmas.List.{take_all}
use Rattle.store_log.specs.Log.{IsHeadBatch}
use Rattle.store_log.proofs.Examined.{head_absent, head_found}
use Rattle.store_log.proofs.Spares.{head_batch_long}
use Rattle.store_log.proofs.spare.is_spare.Goals as goal

pub returns-then-bytes-lt-HEAD_FRAME : goal.returns-then-bytes-lt-HEAD_FRAME
returns-then-bytes-lt-HEAD_FRAME c = (
  λ e. let z : ⊥ = cc e in absurd z,
  λ s. elim s [
    | inl few ↦ absurd (omega (arith, few, c.if-bytes-le2.false))
    | inr (inl shut) ↦ absurd (c.if-bytes-eq0.false shut)
    | inr (inr has) ↦
        let behind = drop 11 c.args.bytes.now in
        let long : length (take 44 behind) ≡ 44 = head_batch_long (take 44 behind) has.0 has.1 in
        let all : take 44 behind ≡ behind = take_all 44 behind (omega (arith, length-drop 11 c.args.bytes.now, c.if-bytes-lt-HEAD_FRAME.true)) in
        absurd (omega (arith, sym (ap length all) ∙ long, length-drop 11 c.args.bytes.now, c.if-bytes-lt-HEAD_FRAME.true))
  ],
)

pub returns : goal.returns
returns c =
    let batch = c.split_at-2.result.0.now in
    let is : batch ≡ take 44 (drop 11 c.args.bytes.now) = c.split_at-2.ensures.front ∙ ap (λ (l : List ℕ). take 44 l) c.split_at.ensures.back in (
      λ e.
          let found = head_found c.sealed_head.result batch c.sealed_head.ensures.found (sym c.is_some.ensures ∙ e) in
          inr (inr (found.0, subst (λ (b : List ℕ). IsHeadBatch b found.0) is found.1)),
      λ s. elim s [
        | inl few ↦ absurd (omega (arith, few, c.if-bytes-le2.false))
        | inr (inl shut) ↦ absurd (c.if-bytes-eq0.false shut)
        | inr (inr has) ↦ c.is_some.ensures ∙ head_absent c.sealed_head.result batch c.sealed_head.ensures.none has.0 (subst (λ (b : List ℕ). IsHeadBatch b has.0) (sym is) has.1)
      ],
    )
