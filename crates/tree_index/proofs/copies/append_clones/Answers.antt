use Rattle.std.proofs.Common.{[], ◌++◌, append-nil, refl, sym, ◌∙◌}
use Rattle.std.proofs.lemmas.Result.{IfOk-weaker}
use Rattle.tree_leaf.proofs.Rests.{count_falls}
use Rattle.tree_model.specs.declared.way.Way.TheVariants.{On}
use Rattle.tree_node.proofs.Common.{fits}
use Rattle.tree_root.specs.Runs.{Gathers}
use Rattle.tree_root.specs.Trees.{pairs_of}
use Rattle.tree_index.proofs.Copied.{ascends_on, copied_all, copies_on, starts}
use Rattle.tree_index.proofs.Indexed.{pairs_ascend}
use Rattle.tree_index.proofs.copies.append_clones.Goals as goal

pub walk_of-requires : goal.walk_of-requires
walk_of-requires g c = (search fits, (search fits, c.requires.other))

pub new-run-requires : goal.new-run-requires
new-run-requires g c = (search fits, c.requires.len)

pub next_or_jump-requires : goal.next_or_jump-requires
next_or_jump-requires g c = search fits

pub drop-run-requires : goal.drop-run-requires
drop-run-requires g c = search fits

pub drop-run-requires-in_err-clone-2 : goal.drop-run-requires-in_err-clone-2
drop-run-requires-in_err-clone-2 g c = search fits

pub drop-run-requires-in_err-gather : goal.drop-run-requires-in_err-gather
drop-run-requires-in_err-gather g c = search (fits, c.requires-raw)

pub drop-run-requires-2 : goal.drop-run-requires-2
drop-run-requires-2 g c = search fits

pub loop-key-init : goal.loop-key-init
loop-key-init g c = record {
  whole = c.requires.whole;
  copying = starts g.met.K.Ord.total _ (pairs_of c.args.other.now) c.in-Some.pairs (pairs_of c.args.tree.now ++ c.new-run.result) (rw (c.requires.empty, c.new-run.ensures) refl) c.in-Some.ensures (pairs_ascend g.met.K.Ord.total c.args.other.now c.requires.other);
}

pub gather-requires : goal.gather-requires
gather-requires g c =
    let was = c.loop-key in
    let same = g.met.K.IndexKey.clone_equal _ _ c.in_ok-clone.ensures.cases in
    (search fits, (search fits, (c.requires.len, (was.invariant.whole, ascends_on g.met.K.Ord.total _ (pairs_of c.args.other.now) was.pairs _ (pairs_of was.tree ++ was.run) was.invariant.copying (c.in-Some-next_or_jump.key, c.in-Some-next_or_jump.value) c.in-Some-next_or_jump.ensures (c.in_ok-clone.field-0, c.in_ok-clone-2.field-0) same))))

pub loop-key-preserved : goal.loop-key-preserved
loop-key-preserved g c =
    let was = c.loop-key in
    let same = g.met.K.IndexKey.clone_equal _ _ c.in_ok-clone.ensures.cases in
    record {
      whole = c.in_ok-gather.ensures.whole;
      copying = copies_on g.met.K.Ord.total _ (pairs_of c.args.other.now) was.pairs _ (pairs_of was.tree ++ was.run) was.invariant.copying (c.in-Some-next_or_jump.key, c.in-Some-next_or_jump.value) c.in-Some-next_or_jump.ensures (c.in_ok-clone.field-0, c.in_ok-clone-2.field-0) same
          (record { key = c.in_ok-clone.ensures.cases; value = c.in_ok-clone-2.ensures.cases }) _ c.in_ok-gather.ensures.pairs;
    }

pub loop-key-smaller : goal.loop-key-smaller
loop-key-smaller g c =
    let left = c.loop-key.invariant.copying.left in
    count_falls On c.loop-key.pairs _ (c.in-Some-next_or_jump.key, c.in-Some-next_or_jump.value) left.front left.back left.chain c.in-Some-next_or_jump.ensures

pub append_run-requires : goal.append_run-requires
append_run-requires g c = (search fits, (search fits, (c.requires.len, (c.loop-key.invariant.whole, c.loop-key.invariant.copying.copied_ascends))))

pub returns-clause-whole : goal.returns-clause-whole
returns-clause-whole g c = IfOk-weaker c.append_run.result _ _ (λ done gathers. gathers.whole) c.append_run.ensures.gathers

pub returns-clause-clones : goal.returns-clause-clones
returns-clause-clones g c = IfOk-weaker c.append_run.result _ _ (λ done (gathers : Gathers g.K.Ord.cmp c.loop-key.tree c.append_run.new.self c.loop-key.run [] []). rw (sym (append-nil (pairs_of c.append_run.new.self)) ∙ gathers.pairs ∙ append-nil (pairs_of c.loop-key.tree ++ c.loop-key.run)) (copied_all g.met.K.Ord.total _ (pairs_of c.args.other.now) c.loop-key.pairs _ (pairs_of c.loop-key.tree ++ c.loop-key.run) c.loop-key.invariant.copying c.in_default-next_or_jump.ensures)) c.append_run.ensures.gathers
