use Rattle.std.proofs.Common.{◌≡◌, ◌+◌, ◌-◌, ◌++◌, ◌∷◌, List, ℕ, drop, length, take, arith, refl, sym, ap, ◌∙◌}
use Rattle.std.proofs.Math.ListN.{get_or}
use Rattle.std.proofs.Math.Seq.{append_snoc}
use Rattle.tree_index_c.specs.Sorted.{parted}
use Rattle.tree_index_c.proofs.Parted.{all_parted, all_used, next_parted, next_size}
use Rattle.tree_index_c.proofs.bytes.sorted.pairs_of.Goals as goal

pub loop-at-preserved : goal.loop-at-preserved
loop-at-preserved c =
    let entry = get_or c.args.entries.now c.loop-at.at (record { length = 0; value = 0 }) in
    let behind = parted (drop (c.loop-at.used + entry.length) c.args.keys.now) (drop (c.loop-at.at + 1) c.args.entries.now) in
    let size : c.loop-at.used + entry.length - c.loop-at.used ≡ entry.length = omega arith in
    let key : c.in_ok-key.key ≡ take entry.length (drop c.loop-at.used c.args.keys.now) = c.in_ok-key.ensures ∙ ap (λ n. take n (drop c.loop-at.used c.args.keys.now)) size in
    let next = next_parted c.args.keys.now c.args.entries.now c.loop-at.used c.loop-at.at (record { length = 0; value = 0 }) c.loop-at-test.true in
    let all = next_size c.args.keys.now c.args.entries.now c.loop-at.used c.loop-at.at (record { length = 0; value = 0 }) c.loop-at-test.true in (
      ap (λ (ps : List (List ℕ × ℕ)). ps ++ behind) c.in_ok-push.ensures.items
          ∙ append_snoc c.loop-at.pairs.items (c.in_ok-key.key, entry.value) behind
          ∙ ap (λ (bytes : List ℕ). c.loop-at.pairs.items ++ (bytes, entry.value) ∷ behind) key
          ∙ ap (λ (ps : List (List ℕ × ℕ)). c.loop-at.pairs.items ++ ps) (sym next)
          ∙ c.loop-at.invariant.0,
      omega (arith, c.if-length-keys.false, c.loop-at.invariant.1),
      omega (arith, all, c.loop-at.invariant.2),
      refl,
      omega (arith, c.loop-at-test.true),
    )

pub returns : goal.returns
returns c =
    let end : c.loop-at.at ≡ length c.args.entries.now = omega (arith, c.loop-at-test.false, c.loop-at.invariant.4) in
    let used = all_used c.args.keys.now c.args.entries.now c.loop-at.used c.loop-at.at end c.loop-at.invariant.2 in
    (omega (arith, used, c.loop-at.invariant.1), all_parted c.args.keys.now c.args.entries.now c.loop-at.used c.loop-at.at end c.loop-at.pairs.items c.loop-at.invariant.0)
