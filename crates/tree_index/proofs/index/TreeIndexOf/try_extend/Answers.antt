use Rattle.std.proofs.Common.{List, refl, sym, ap, ◌∙◌}
use Rattle.tree_model.proofs.Common.{put}
use Rattle.std.proofs.iter.Next.{Yields-more}
use Rattle.tree_index.specs.Collects.{PutsPairs}
use Rattle.tree_index.proofs.Puts.{earlier_ascend, next_behind, puts_push, same_error}
use Rattle.tree_index.proofs.index.TreeIndexOf.try_extend.Goals as goal

pub loop-pair-init : goal.loop-pair-init
loop-pair-init g c = record { put = refl; packed = λ ascending packed. packed }

pub loop-pair-init-derived : goal.loop-pair-init-derived
loop-pair-init-derived g c = c.requires c.into_iter-pairs.result c.into_iter-pairs.ensures.into_iter_gives

pub loop-pair-preserved : goal.loop-pair-preserved
loop-pair-preserved g c =
    let before = c.loop-pair.invariant in
    let stored = c.in_ok-upsert_sync.ensures in
    let old = c.args.self.now in
    record {
      put = stored.pairs ∙ ap (λ (l : List (g.row.K.Denot × g.row.V.Denot)). put g.K.Ord.cmp l c.in-Some.pair.0 c.in-Some.pair.1) before.put ∙ sym (puts_push g.K.Ord.cmp old.pairs c.loop-pair.yielded c.in-Some.pair);
      packed = λ ascending packed.
          let behind = next_behind g.K.Ord.cmp old.pairs c.loop-pair.yielded c.in-Some.pair ascending in
          stored.packed (rw before.put behind) (before.packed (earlier_ascend g.K.Ord.cmp old.pairs c.loop-pair.yielded c.in-Some.pair ascending) packed);
    }

pub returns-in_err-upsert_sync : goal.returns-in_err-upsert_sync
returns-in_err-upsert_sync g c =
    let refused = c.in_err-upsert_sync.ensures in
    same_error (PutsPairs g.K.Ord.cmp g.U.IntoIterator.into_iter_gives g.U.IntoIter.Iterator.next_gives c.args.pairs c.args.self.now c.upsert_sync.new.self) c.from_residual.result c.in_err-upsert_sync.field-0.0 c.from_residual.ensures.1 (record {
      from = c.into_iter-pairs.result;
      became = c.into_iter-pairs.ensures.into_iter_gives;
      pairs = c.loop-pair.yielded;
      all = rw refused.pairs.0 (c.next.new.self, Yields-more g.U.IntoIter.Iterator.next_gives c.into_iter-pairs.result c.loop-pair.yielded c.loop-pair.pairs c.in-Some.pair c.next.new.self c.loop-pair.yielded_by c.in-Some.ensures.steps);
      put = refused.pairs.1 ∙ c.loop-pair.invariant.put;
      packed = tt;
    })

pub returns : goal.returns
returns g c = record {
  from = c.into_iter-pairs.result;
  became = c.into_iter-pairs.ensures.into_iter_gives;
  pairs = c.loop-pair.yielded;
  all = (_, (_, c.loop-pair.yielded_by, c.in_default.ensures.steps));
  put = c.loop-pair.invariant.put;
  packed = c.loop-pair.invariant.packed;
}
