use Rattle.std.proofs.Common.{◌≡◌, ◌∷◌, ◌++◌, [], append_assoc, append-nil, ap, refl, sym, ◌∙◌, arith, length, rules}
use Rattle.std.proofs.lemmas.Result.{IfOk-weaker}
use Rattle.tree_model.proofs.Common.{nil_from_length}
use Rattle.tree_node.proofs.Sizes.{fits}
use Rattle.tree_root.specs.Trees.{pairs_of}
use Rattle.tree_root.proofs.Runs.{gathers_on, next_ascends, none_gathered}
use Rattle.tree_root.proofs.tree.Tree.append_sorted.Goals as goal

pub new-run-requires : goal.new-run-requires
new-run-requires g c = (search fits, c.requires.len)

pub drop-run-requires : goal.drop-run-requires
drop-run-requires g c = search fits

pub drop-run-requires-2 : goal.drop-run-requires-2
drop-run-requires-2 g c = search fits

pub loop-key-init : goal.loop-key-init
loop-key-init g c = record { given = search rules; gathers = rw c.new-run.ensures (none_gathered c.args.self.now [] c.requires.whole) }

pub gather-requires : goal.gather-requires
gather-requires g c =
    let was = c.loop-key in
    let given = sym was.invariant.given ∙ ap (λ xs. was.yielded ++ xs) c.in-Some.ensures.steps.0 in
    (search fits, (search fits, (c.requires.len, (was.invariant.gathers.whole, next_ascends c.args.self.now [] was.invariant.gathers (c.in-Some.key, c.in-Some.value) c.next.new.self.rest.items (rw (append-nil (pairs_of c.args.self.now), ← given) c.requires.ascending)))))

pub loop-key-preserved : goal.loop-key-preserved
loop-key-preserved g c =
    let was = c.loop-key in
    record {
      given = append_assoc was.yielded ((c.in-Some.key, c.in-Some.value) ∷ []) _ ∙ ap (λ xs. was.yielded ++ xs) (sym c.in-Some.ensures.steps.0) ∙ was.invariant.given;
      gathers = gathers_on c.args.self.now [] was.invariant.gathers c.in_ok-gather.ensures;
    }

pub append_run-requires : goal.append_run-requires
append_run-requires g c =
    let was = c.loop-key in
    let none : was.key-iterator.rest.items ≡ [] = nil_from_length _ (omega (arith, was.key-iterator.rest.ok, c.in-None.ensures.steps.0)) in
    let all : was.yielded ≡ c.args.pairs.items = sym (append-nil was.yielded) ∙ ap (λ xs. was.yielded ++ xs) (sym none) ∙ was.invariant.given in
    (search fits, (search fits, (c.requires.len, (was.invariant.gathers.whole, rw (was.invariant.gathers.pairs, append-nil (pairs_of c.args.self.now), all) c.requires.ascending))))

pub returns : goal.returns
returns g c =
    let was = c.loop-key in
    let none : was.key-iterator.rest.items ≡ [] = nil_from_length _ (omega (arith, was.key-iterator.rest.ok, c.in-None.ensures.steps.0)) in
    let all : was.yielded ++ [] ≡ c.args.pairs.items = ap (λ xs. was.yielded ++ xs) (sym none) ∙ was.invariant.given in
    IfOk-weaker c.append_run.result _ _ (λ done gathers. rw all at (gathers_on c.args.self.now [] {new = c.append_run.new.self} {last = []} {next = []} was.invariant.gathers gathers)) c.append_run.ensures.gathers
