use Rattle.std.proofs.Common.{◌≡◌, ℕ, ◌<◌, List, [], length, Some, refl, sym, ◌∙◌, arith}
use Rattle.std.proofs.lemmas.Bool.Decides.{nat_tests}
use Rattle.store_codec.specs.Records.{record_at, record_map}
use Rattle.tree_store.proofs.Replayed.{all_applied, has_none, is_nil, none_applied, not_nil, one_applied}
use Rattle.tree_store.proofs.replay.apply_text.Goals as goal

pub loop-turn-init : goal.loop-turn-init
loop-turn-init g c = none_applied g.K.Ord.cmp g.K.Encode.seen g.V.Encode.seen (record_at g.K.Encode.value_at g.V.Encode.value_at) c.args.text.now c.args.index.now.pairs

pub loop-turn-preserved : goal.loop-turn-preserved
loop-turn-preserved g c =
    let read = record_at g.K.Encode.value_at g.V.Encode.value_at in
    let some : 0 < length c.loop-turn.rest.now = not_nil c.loop-turn.rest.now _ c.is_empty.ensures c.if-is_empty.false in
    let found : read c.loop-turn.rest.now ≡ Some (record_map g.K.Encode.seen g.V.Encode.seen c.in-Some.change, c.in-Some.behind.now) = sym c.in_ok-change.ensures ∙ rw c.in-Some.is refl in
    one_applied g.K.Ord.cmp g.K.Encode.seen g.V.Encode.seen read c.args.text.now c.loop-turn.rest.now c.in-Some.behind.now c.args.index.now.pairs c.loop-turn.index.pairs c.apply.new.index.pairs c.in-Some.change some found c.in_ok-apply.ensures c.loop-turn.invariant

pub returns-then-is_empty-clause-led : goal.returns-then-is_empty-clause-led
returns-then-is_empty-clause-led g c =
    let read = record_at g.K.Encode.value_at g.V.Encode.value_at in
    let a = c.loop-turn.invariant in
    let empty : c.loop-turn.rest.now ≡ [] = is_nil c.loop-turn.rest.now _ c.is_empty.ensures c.if-is_empty.true in
    (a.done, all_applied g.K.Ord.cmp g.K.Encode.seen g.V.Encode.seen read c.args.text.now c.loop-turn.rest.now c.args.index.now.pairs c.loop-turn.index.pairs a empty, a.are)

pub returns-in_default-clause-sound : goal.returns-in_default-clause-sound
returns-in_default-clause-sound g c is records reads =
    let read = record_at g.K.Encode.value_at g.V.Encode.value_at in
    let some : 0 < length c.loop-turn.rest.now = not_nil c.loop-turn.rest.now _ c.is_empty.ensures c.if-is_empty.false in
    has_none read c.loop-turn.rest.now some (sym c.in_ok-change.ensures ∙ rw c.in_default.is refl) (c.loop-turn.invariant.has records reads)
