use Rattle.std.proofs.Common.{◌<◌, ◌∷◌, ◌++◌, [], ℕ, length, length-append, vec_len, arith, not, append_assoc, ap, refl, sym, ◌∙◌, subst, rules}
use Rattle.store_codec.specs.Records.{record_at}
use Rattle.store_pair.specs.Pair.{AreClean, MayHold, Pair}
use Rattle.store_restart.proofs.Fronts.{front_of, of_ok}
use Rattle.store_restart.proofs.Runs.{run_durable, run_refused, run_starts, stand_more}
use Rattle.store_restart.proofs.run.leaves_a_front.Goals as goal

pub overflow_add-reached : goal.overflow_add-reached
overflow_add-reached g c =
    let was = c.loop-batch in
    let more : length was.yielded < vec_len c.args.batches = omega (arith, c.args.batches.ok.0, ap length was.invariant.given, ap length c.in-Some.ensures.steps.0, length-append was.yielded was.batch-iterator.rest.items) in
    omega (arith, more, was.invariant.run.count)

pub loop-batch-init : goal.loop-batch-init
loop-batch-init g c = record {
  given = search rules;
  run =
      let kinds : ℕ × ℕ = (g.K.Encode.kind_number, g.V.Encode.kind_number) in
      run_starts g.K.Ord.cmp g.K.Encode.seen g.V.Encode.seen (record_at g.K.Encode.value_at g.V.Encode.value_at) kinds c.args.store.now.pairs _ c.args.store.now refl refl refl c.requires;
  clean = λ clean. clean;
}

-- a batch was made and is durable
pub loop-batch-preserved-then-settle : goal.loop-batch-preserved-then-settle
loop-batch-preserved-then-settle g c =
    let was = c.loop-batch in
    let batch = c.in-Some.batch in
    let kinds : ℕ × ℕ = (g.K.Encode.kind_number, g.V.Encode.kind_number) in
    record {
      given = append_assoc was.yielded (batch ∷ []) _ ∙ ap (λ xs. was.yielded ++ xs) (sym c.in-Some.ensures.steps.0) ∙ was.invariant.given;
      run =
          run_durable g.K.Ord.cmp g.K.Encode.seen g.V.Encode.seen (record_at g.K.Encode.value_at g.V.Encode.value_at) kinds c.args.store.now.pairs
          was.reached was.yielded was.store was.invariant.run batch c.change_all.new.store c.settle.new.store c.change_all.ensures.saved
          (of_ok c.change_all.result (c.is_err.ensures.negation ∙ ap not c.if-is_err.false) c.change_all.ensures.made) c.settle.ensures.pairs
          _ refl refl (c.settle.ensures.durable c.if-settle.true);
      clean = λ clean. was.invariant.clean (subst (λ (s : Pair g.row.D.Denot). AreClean g.D.Disk.is_clean s.files) c.change_all.ensures.saved (c.settle.ensures.clean clean));
    }

-- or its commit failed
pub loop-batch-preserved : goal.loop-batch-preserved
loop-batch-preserved g c =
    let was = c.loop-batch in
    let batch = c.in-Some.batch in
    let kinds : ℕ × ℕ = (g.K.Encode.kind_number, g.V.Encode.kind_number) in
    record {
      given = append_assoc was.yielded (batch ∷ []) _ ∙ ap (λ xs. was.yielded ++ xs) (sym c.in-Some.ensures.steps.0) ∙ was.invariant.given;
      run =
          run_refused g.K.Ord.cmp g.K.Encode.seen g.V.Encode.seen (record_at g.K.Encode.value_at g.V.Encode.value_at) kinds c.args.store.now.pairs
          was.reached was.yielded was.store was.invariant.run batch c.change_all.new.store c.settle.new.store c.change_all.ensures.saved
          (of_ok c.change_all.result (c.is_err.ensures.negation ∙ ap not c.if-is_err.false) c.change_all.ensures.made) c.settle.ensures.pairs
          _ refl refl c.settle.ensures.clean (λ on. (c.settle.ensures.stopped on).1) c.settle.ensures.crash (c.settle.ensures.refused c.if-settle.false);
      clean = λ clean. was.invariant.clean (subst (λ (s : Pair g.row.D.Denot). AreClean g.D.Disk.is_clean s.files) c.change_all.ensures.saved (c.settle.ensures.clean clean));
    }

-- a change could not be made
pub returns-then-is_err-clause-left : goal.returns-then-is_err-clause-left
returns-then-is_err-clause-left g c clean left may =
    let was = c.loop-batch in
    let same = c.change_all.ensures.saved in
    let kinds : ℕ × ℕ = (g.K.Encode.kind_number, g.V.Encode.kind_number) in
    stand_more g.K.Ord.cmp g.K.Encode.seen g.V.Encode.seen (record_at g.K.Encode.value_at g.V.Encode.value_at) kinds c.args.store.now.pairs
    was.reached was.reached was.yielded c.args.batches.items (λ front is. front_of was.reached front was.yielded _ c.args.batches.items is was.invariant.given) left
    (was.invariant.run.left (subst (λ (s : Pair g.row.D.Denot). AreClean g.D.Disk.is_clean s.files) same clean) left (subst (λ (s : Pair g.row.D.Denot). MayHold g.D.Disk.may_leave s.files left) same may))

pub returns-clause-left : goal.returns-clause-left
returns-clause-left g c clean left may =
    let was = c.loop-batch in
    let kinds : ℕ × ℕ = (g.K.Encode.kind_number, g.V.Encode.kind_number) in
    stand_more g.K.Ord.cmp g.K.Encode.seen g.V.Encode.seen (record_at g.K.Encode.value_at g.V.Encode.value_at) kinds c.args.store.now.pairs
    was.reached was.reached was.yielded c.args.batches.items (λ front is. front_of was.reached front was.yielded _ c.args.batches.items is was.invariant.given) left
    (was.invariant.run.left clean left may)
