use Rattle.std.proofs.Common.{◌∙◌, List, inr, subst, sym}
use Rattle.std.proofs.lemmas.Result.{on_err_weaker, on_ok_weaker}
use Rattle.store_codec.specs.Records.{record_at}
use Rattle.tree_store.specs.Store.{HasSaved, Leave}
use Rattle.usage.proofs.durable.save.Goals as goal

pub returns-clause-stored : goal.returns-clause-stored
returns-clause-stored g c = on_ok_weaker c.commit.result (λ _. c.commit.ensures.pairs ∙ c.in-Ok.ensures.pairs) c.commit.ensures.runs

pub returns-clause-saved : goal.returns-clause-saved
returns-clause-saved g c =
    on_ok_weaker c.commit.result
    (λ saved clean. subst (λ (l : List (g.row.K.Denot × g.row.V.Denot)). HasSaved g.K.Ord.cmp g.K.Encode.seen g.V.Encode.seen (record_at g.K.Encode.value_at g.V.Encode.value_at) c.commit.new.self.saved l) (sym c.commit.ensures.pairs) (saved clean))
    c.commit.ensures.saved

pub returns-clause-left : goal.returns-clause-left
returns-clause-left g c =
    on_ok_weaker c.commit.result
    (λ leaves clean. subst (λ (l : List (g.row.K.Denot × g.row.V.Denot)). Leave g.K.Ord.cmp g.K.Encode.seen g.V.Encode.seen (record_at g.K.Encode.value_at g.V.Encode.value_at) (g.K.Encode.kind_number, g.V.Encode.kind_number) g.D.Disk.may_leave c.commit.new.self.saved.files l) (sym c.commit.ensures.pairs) (leaves clean))
    c.commit.ensures.leaves

pub returns-clause-refused : goal.returns-clause-refused
returns-clause-refused g c = on_err_weaker c.commit.result (λ _. inr (c.commit.ensures.pairs ∙ c.in-Ok.ensures.pairs)) c.commit.ensures.refused
