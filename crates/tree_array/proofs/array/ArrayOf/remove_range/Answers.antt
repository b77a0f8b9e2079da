use Rattle.tree_array.proofs.Lemmas.{◌≡◌, ◌<◌, IsSome, None, refl, subst, sym, ◌∙◌, ap, rules, arith, arrival, len_small, same_Some, arrival_seen, fields, kept, made_seen, named_few}
use Rattle.tree_array.proofs.Lemmas.{cut_none, cut_kept, cut_taken, cut_all, kept_outside, live_some, live_none}
use Rattle.tree_array.proofs.array.ArrayOf.remove_range.Goals.{then-ordinals-slot-gt0+then-range_contains, else-ordinals-slot-gt0, else-ordinals-slot-gt0-via-then-ordinals-slot-gt0+else-range_contains, else-ordinals-slot-gt0-via-else-ordinals-slot-gt0}
use Rattle.tree_array.proofs.array.ArrayOf.remove_range.Goals as goal

pub ordinals-ordinals-requires : goal.ordinals-ordinals-requires
ordinals-ordinals-requires g c = (search rules, named_few (fields c.order_of.ensures.word c.order_of.ensures.count refl c.self.invariant c.self.view_is))

pub loop-slot-init : goal.loop-slot-init
loop-slot-init g c = cut_none g.met.K.Ord.total _ _ (kept (fields refl refl refl c.self.invariant c.self.view_is) g.met.K.Ord.total)

pub key-requires : goal.key-requires
key-requires g c =
    let a = fields c.order_of.ensures.word c.order_of.ensures.count c.counts-arrivals.ensures.arrivals c.self.invariant c.self.view_is in
    let it = a.it.table in
    let slot = c.loop-slot.slot in
    let within : slot < 15 = omega (arith, c.loop-slot-test.true, it.few_made, len_small g.row.LEN it.is_len) in
    let there = live_some g.met.K.Ord.total _ _ it slot (omega (arith, c.ordinals-ordinals.ensures.ordinals slot within, c.if-ordinals-slot-gt0.true)) in
    (search rules, subst IsSome (sym (c.loop-slot.invariant.rest slot (omega arith) ∙ arrival_seen a slot ∙ there.1)) refl)

pub loop-slot-preserved : goal.loop-slot-preserved
loop-slot-preserved g c =
    let a = fields c.order_of.ensures.word c.order_of.ensures.count c.counts-arrivals.ensures.arrivals c.self.invariant c.self.view_is in
    let o = g.met.K.Ord.total in
    let it = a.it.table in
    let sound = kept a o in
    let so_far = c.loop-slot.invariant in
    let slot = c.loop-slot.slot in
    let within : slot < 15 = omega (arith, c.loop-slot-test.true, it.few_made, len_small g.row.LEN it.is_len) in
    let ordinal = c.ordinals-ordinals.ensures.ordinals slot within in
    elim c.if-ordinals-slot-gt0.branch [
      | then-ordinals-slot-gt0+then-range_contains w ↦
          let taken = w.take.ensures in
          let pair = same_Some _ _ (sym taken.pair ∙ w.key.ensures.1) in
          let same : w.take.result.0 ≡ w.key.result.now = ap (λ (pair : _ × _). pair.0) pair in
          rw w.self-is (cut_taken o _ _ sound so_far w.take.result.0 w.take.result.1 taken.pair (rw same (sym w.if-range_contains.ensures)) taken.left)
      | else-ordinals-slot-gt0 w ↦ elim w.else-ordinals-slot-gt0.branch [
        | else-ordinals-slot-gt0-via-then-ordinals-slot-gt0+else-range_contains w' ↦ rw w.self-is (cut_kept o _ _ sound so_far (rw w'.key.ensures.1 (kept_outside g.K.Ord.cmp _ _ _ _ (sym w'.if-range_contains.ensures))))
        | else-ordinals-slot-gt0-via-else-ordinals-slot-gt0 w' ↦
            let none : arrival c.loop-slot.self.arrivals slot ≡ None = so_far.rest slot (omega arith) ∙ arrival_seen a slot ∙ live_none o _ _ it slot (omega (arith, ordinal, w'.if-ordinals-slot-gt0.false)) in
            rw w.self-is (cut_kept o _ _ sound so_far (rw none refl))
      ]
    ]

pub returns : goal.returns
returns g c =
    let a = fields refl refl c.counts-arrivals.ensures.arrivals c.self.invariant c.self.view_is in
    cut_all g.met.K.Ord.total _ _ (kept a g.met.K.Ord.total) c.loop-slot.invariant (omega (arith, made_seen a, c.loop-slot-test.false))
