use Rattle.std.proofs.Common.{◌<◌, ◌∷◌, MatchResult, ap, arith, refl, sym, ◌∙◌}
use Rattle.std.specs.VecDeque.{deque_capacity, deque_len}
use Rattle.tree_batches.proofs.Writing.{all_stored, begins, one_stored, stops}
use Rattle.tree_batches.specs.Writes.{StopsAt, StoresAll}
use Rattle.tree_index.proofs.Puts.{same_error}
use Rattle.tree_model.proofs.Common.{nil_from_length}
use Rattle.tree_batches.proofs.writes.upsert_all.Goals as goal

pub loop-pair-init : goal.loop-pair-init
loop-pair-init g c = begins g.K.Ord.cmp c.args.index.now c.args.left.now.items

pub loop-pair-preserved : goal.loop-pair-preserved
loop-pair-preserved g c =
    let stored = c.in_ok-upsert_sync.ensures in
    one_stored g.K.Ord.cmp c.args.index.now c.args.left.now.items c.loop-pair.left.items c.loop-pair.index c.upsert_sync.new.self c.loop-pair.invariant
    _ c.in-Some.pair c.pop_front.new.self.items c.in-Some.ensures.items stored.pairs stored.spare stored.packed

pub loop-pair-preserved-then-len-eq0 : goal.loop-pair-preserved-then-len-eq0
loop-pair-preserved-then-len-eq0 g c =
    let stored = c.in_ok-upsert_sync.ensures in
    one_stored g.K.Ord.cmp c.args.index.now c.args.left.now.items c.loop-pair.left.items c.loop-pair.index c.upsert_sync.new.self c.loop-pair.invariant
    _ c.in-Some.pair c.pop_front.new.self.items c.in-Some.ensures.items stored.pairs stored.spare stored.packed

pub returns-in_err-upsert_sync : goal.returns-in_err-upsert_sync
returns-in_err-upsert_sync g c =
    let refused = c.in_err-upsert_sync.ensures in
    let room : deque_len c.pop_front.new.self < deque_capacity c.pop_front.new.self = omega (arith, c.in-Some.ensures.cases, c.in-Some.ensures.capacity, c.loop-pair.left.small.1) in
    same_error (λ r. MatchResult r (λ _. StoresAll g.K.Ord.cmp c.args.index.now c.args.left.now.items c.upsert_sync.new.self)
    (λ pair. StopsAt g.K.Ord.cmp c.args.index.now c.args.left.now.items (pair ∷ c.pop_front.new.self.items) c.upsert_sync.new.self.pairs × (deque_len c.pop_front.new.self < deque_capacity c.pop_front.new.self)))
    c.from_residual.result c.in_err-upsert_sync.field-0.0 c.from_residual.ensures.1 (
      stops g.K.Ord.cmp c.args.index.now c.args.left.now.items c.loop-pair.left.items c.loop-pair.index c.upsert_sync.new.self c.loop-pair.invariant c.args.left.now.items refl
          c.in-Some.pair c.pop_front.new.self.items _ c.in-Some.ensures.items (ap (λ pair. pair ∷ c.pop_front.new.self.items) refused.pairs.0) refused.pairs.1 refused.spare,
      room,
    )

pub returns : goal.returns
returns g c =
    all_stored g.K.Ord.cmp c.args.index.now c.args.left.now.items c.loop-pair.left.items c.loop-pair.index c.loop-pair.index c.loop-pair.invariant c.args.left.now.items refl
    (nil_from_length c.loop-pair.left.items (sym c.loop-pair.left.ok.0 ∙ c.in_default.ensures.cases.0))
