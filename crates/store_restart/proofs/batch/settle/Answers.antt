use Rattle.std.proofs.Common.{ℕ, List, sym, ◌∙◌, ap, subst}
use Rattle.store_codec.specs.Records.{record_at}
use Rattle.tree_store.specs.Store.{HasSaved, Leave, Store}
use Rattle.store_restart.proofs.Fronts.{not_ok, of_err, of_ok}
use Rattle.store_restart.proofs.batch.settle.Goals as goal

pub returns-then-compacts-clause-durable : goal.returns-then-compacts-clause-durable
returns-then-compacts-clause-durable g c done =
    let cmp = g.K.Ord.cmp in
    let key = g.K.Encode.seen in
    let value = g.V.Encode.seen in
    let read = record_at g.K.Encode.value_at g.V.Encode.value_at in
    let kinds : ℕ × ℕ = (g.K.Encode.kind_number, g.V.Encode.kind_number) in
    let is_clean = g.D.Disk.is_clean in
    let may_leave = g.D.Disk.may_leave in
    let new = c.compact.new.self in
    let ok = sym c.is_ok.ensures.value ∙ done in
    record {
      runs = of_ok c.compact.result ok c.compact.ensures.runs;
      saved = λ clean. subst (λ (l : List (g.row.K.Denot × g.row.V.Denot)). HasSaved cmp key value read new.saved l) (sym c.compact.ensures.pairs) (of_ok c.compact.result ok c.compact.ensures.saved clean);
      leaves = λ clean. subst (λ (l : List (g.row.K.Denot × g.row.V.Denot)). Leave cmp key value read kinds may_leave new.saved.files l) (sym c.compact.ensures.pairs) (of_ok c.compact.result ok c.compact.ensures.leaves clean);
    }

pub returns-then-compacts-clause-refused : goal.returns-then-compacts-clause-refused
returns-then-compacts-clause-refused g c failed = of_err c.compact.result (sym c.is_ok.ensures.value ∙ failed) c.compact.ensures.refused

pub returns-clause-durable : goal.returns-clause-durable
returns-clause-durable g c done =
    let cmp = g.K.Ord.cmp in
    let key = g.K.Encode.seen in
    let value = g.V.Encode.seen in
    let read = record_at g.K.Encode.value_at g.V.Encode.value_at in
    let kinds : ℕ × ℕ = (g.K.Encode.kind_number, g.V.Encode.kind_number) in
    let is_clean = g.D.Disk.is_clean in
    let may_leave = g.D.Disk.may_leave in
    let new = c.commit.new.self in
    let ok = sym c.is_ok-2.ensures.value ∙ done in
    record {
      runs = of_ok c.commit.result ok c.commit.ensures.runs;
      saved = λ clean. subst (λ (l : List (g.row.K.Denot × g.row.V.Denot)). HasSaved cmp key value read new.saved l) (sym c.commit.ensures.pairs) (of_ok c.commit.result ok c.commit.ensures.saved clean);
      leaves = λ clean. subst (λ (l : List (g.row.K.Denot × g.row.V.Denot)). Leave cmp key value read kinds may_leave new.saved.files l) (sym c.commit.ensures.pairs) (of_ok c.commit.result ok c.commit.ensures.leaves clean);
    }

pub returns-clause-refused : goal.returns-clause-refused
returns-clause-refused g c failed = of_err c.commit.result (sym c.is_ok-2.ensures.value ∙ failed) c.commit.ensures.refused

pub returns-then-compacts-clause-stopped : goal.returns-then-compacts-clause-stopped
returns-then-compacts-clause-stopped g c on =
    let stays = c.compact.ensures.stopped on in
    (c.is_ok.ensures.value ∙ not_ok c.compact.result _ stays.0, ap (λ (s : Store g.row.K.Denot g.row.V.Denot g.row.D.Denot). s.saved) stays.1)

pub returns-clause-stopped : goal.returns-clause-stopped
returns-clause-stopped g c on =
    let stays = c.commit.ensures.stopped on in
    (c.is_ok-2.ensures.value ∙ not_ok c.commit.result _ stays.0, ap (λ (s : Store g.row.K.Denot g.row.V.Denot g.row.D.Denot). s.saved) stays.1)
