use Rattle.std.proofs.Common.{◌≡◌, ℕ, vec_len, ◌<◌, ◌+◌, [], ◌∷◌, ◌++◌, sym, ap, ◌∙◌, refl, length, append_assoc, length-append, arith, rules}
use Rattle.tree_model.specs.declared.commands.Command.{Command}
use Rattle.tree_node.proofs.Common.{fits}
use Rattle.std.proofs.lemmas.List.Elements.{All-rest, All-same}
use Rattle.tree_state.proofs.Schedules.{left, ran_next, ran_start, next_fits, next_has, refused_within, ended}
use Rattle.tree_state.proofs.schedule.run_schedule.Goals as goal

pub loop-worker-init : goal.loop-worker-init
loop-worker-init g c =
    let e : c.into_iter-worker-iterator.result.rest.items ≡ c.args.schedule.items = search rules in
    record {
      rest = e;
      workers = All-same (λ (s : ℕ × Command _ _). s.0 < length c.args.tallies.now) _ _ e c.requires.workers;
      ran = ran_start g.K.Ord.cmp g.K.SameClone.seen g.V.SameClone.seen _ _;
    }

pub apply-requires : goal.apply-requires
apply-requires g c = search fits

pub bounds-tallies-worker : goal.bounds-tallies-worker
bounds-tallies-worker g c =
    omega (arith, c.loop-worker.auto.tallies, next_has (λ (s : ℕ × Command _ _). s.0 < length c.args.tallies.now) (c.in-Some.worker, c.in-Some.command) _ _ c.in-Some.ensures.steps.0 c.loop-worker.invariant.workers)

pub offset_bounds-tallies-worker : goal.offset_bounds-tallies-worker
offset_bounds-tallies-worker g c =
    let within : c.in-Some.worker < length c.loop-worker.tallies = omega (arith, c.loop-worker.auto.tallies, next_has (λ (s : ℕ × Command _ _). s.0 < length c.args.tallies.now) (c.in-Some.worker, c.in-Some.command) _ _ c.in-Some.ensures.steps.0 c.loop-worker.invariant.workers) in
    search rules

pub overflow_add-refused : goal.overflow_add-refused
overflow_add-refused g c =
    let was = c.loop-worker in
    let more : length was.yielded < vec_len c.args.schedule = omega (arith, c.args.schedule.ok.0, ap length was.invariant.rest, ap length c.in-Some.ensures.steps.0, length-append was.yielded was.worker-iterator.rest.items) in
    omega (arith, more, refused_within _ _ _ _ _ _ _ _ _ was.invariant.ran, c.count-refused.ensures.few)

pub count-refused-requires : goal.count-refused-requires
count-refused-requires g c =
    let was = c.loop-worker in
    let w = c.in-Some.worker in
    let within : w < length c.args.tallies.now = next_has (λ (s : ℕ × Command _ _). s.0 < length c.args.tallies.now) (w, c.in-Some.command) _ _ c.in-Some.ensures.steps.0 was.invariant.workers in
    let whole = append_assoc was.yielded ((w, c.in-Some.command) ∷ []) _ ∙ ap (λ xs. was.yielded ++ xs) (sym c.in-Some.ensures.steps.0) ∙ was.invariant.rest in
    next_fits g.K.Ord.cmp g.K.SameClone.seen g.V.SameClone.seen c.args.schedule.items was.yielded _ c.args.state.now was.state _ c.args.tallies.now was.tallies _ w c.in-Some.command c.apply.result c.requires.room whole within was.invariant.ran
    (left g.K.Ord.cmp g.K.SameClone.seen g.V.SameClone.seen was.state _ w c.in-Some.command c.apply.result c.apply.ensures.ok c.apply.ensures.err)

pub loop-worker-preserved : goal.loop-worker-preserved
loop-worker-preserved g c =
    let was = c.loop-worker in
    let w = c.in-Some.worker in
    let within : w < length c.args.tallies.now = next_has (λ (s : ℕ × Command _ _). s.0 < length c.args.tallies.now) (w, c.in-Some.command) _ _ c.in-Some.ensures.steps.0 was.invariant.workers in
    record {
      rest = append_assoc was.yielded ((w, c.in-Some.command) ∷ []) _ ∙ ap (λ xs. was.yielded ++ xs) (sym c.in-Some.ensures.steps.0) ∙ was.invariant.rest;
      workers = All-rest (λ (s : ℕ × Command _ _). s.0 < length c.args.tallies.now) (w, c.in-Some.command) _ _ c.in-Some.ensures.steps.0 was.invariant.workers;
      ran =
          ran_next g.K.Ord.cmp g.K.SameClone.seen g.V.SameClone.seen was.yielded c.args.state.now was.state _ c.args.tallies.now was.tallies _ was.refused _ w c.in-Some.command c.apply.result _
          was.invariant.ran
          (left g.K.Ord.cmp g.K.SameClone.seen g.V.SameClone.seen was.state _ w c.in-Some.command c.apply.result c.apply.ensures.ok c.apply.ensures.err)
          (omega (arith, within, was.auto.tallies))
          c.count-refused.ensures.counted
          refl
          (ap (λ (k : ℕ). was.refused + k) c.count-refused.ensures.refused);
    }

pub returns : goal.returns
returns g c =
    let e : c.loop-worker.yielded ≡ c.args.schedule.items = ended c.loop-worker.yielded c.loop-worker.worker-iterator.rest.items _ c.loop-worker.invariant.rest (omega (arith, c.in-None.ensures.steps.0, c.loop-worker.worker-iterator.rest.ok)) in
    rw (← e) c.loop-worker.invariant.ran
