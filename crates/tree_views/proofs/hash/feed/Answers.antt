use Rattle.tree_views.proofs.Common.{◌++◌, ◌∙◌, sym, On, fed_then, fold-append, takes_first}
use Rattle.tree_views.proofs.hash.feed.Goals as goal

pub loop-key-preserved : goal.loop-key-preserved
loop-key-preserved g c =
    let taken = takes_first g.met.K.Ord.total On _ _ _ c.in-Some.ensures.steps c.loop-key.invariant.begun in
    let key = g.K.Hash.hash_input c.in-Some.key.now in
    let value = g.V.Hash.hash_input c.in-Some.value.now in
    let both = fed_then g.H.Hasher.write c.loop-key.state c.hash.new.state c.hash-in-Some.new.state key value c.hash.ensures c.hash-in-Some.ensures in
    record {
      begun = taken.0;
      same = rw both (sym (fold-append g.H.Hasher.write c.loop-key.state (key ++ value) _) ∙ (rw taken.1 at c.loop-key.invariant.same));
    }

pub returns : goal.returns
returns g c =
    let taken = takes_first g.met.K.Ord.total On _ _ _ c.in_default.ensures.steps c.loop-key.invariant.begun in
    rw taken.1.0 at c.loop-key.invariant.same
