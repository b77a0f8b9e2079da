use Rattle.std.proofs.Common.{◌≡◌, sym, subst}
use Rattle.store_codec.specs.Records.{record_at}
use Rattle.store_log.specs.Log.{HasTexts}
use Rattle.tree_node.proofs.Common.{fits}
use Rattle.tree_store.proofs.Noted.{just_saved}
use Rattle.tree_store.proofs.Settled.{read_store, still_saved}
use Rattle.tree_store.proofs.store.TreeStore.roll_back.Goals as goal

pub replayed-requires : goal.replayed-requires
replayed-requires g c = search fits

pub drop-self-inside-requires : goal.drop-self-inside-requires
drop-self-inside-requires g c = search fits

pub invariant_of-self : goal.invariant_of-self
invariant_of-self g c = read_store c.self.invariant c.read.new.self c.read.ensures.same c.read.ensures.head c.read.ensures.stopped c.read.ensures.crash c.read.ensures.clean

pub invariant_of-self-in-Err-Memory : goal.invariant_of-self-in-Err-Memory
invariant_of-self-in-Err-Memory g c = read_store c.self.invariant c.read.new.self c.read.ensures.same c.read.ensures.head c.read.ensures.stopped c.read.ensures.crash c.read.ensures.clean

pub invariant_of-self-in-Err-Unreadable : goal.invariant_of-self-in-Err-Unreadable
invariant_of-self-in-Err-Unreadable g c = read_store c.self.invariant c.read.new.self c.read.ensures.same c.read.ensures.head c.read.ensures.stopped c.read.ensures.crash c.read.ensures.clean

pub invariant_of-self-in-Ok-replayed : goal.invariant_of-self-in-Ok-replayed
invariant_of-self-in-Ok-replayed g c =
    let new = c.read.new.self in
    let kept = read_store c.self.invariant c.read.new.self c.read.ensures.same c.read.ensures.head c.read.ensures.stopped c.read.ensures.crash c.read.ensures.clean in
    record {
      are = kept.are;
      leaves = kept.leaves;
      goes_on = λ runs clean.
          let has = subst (HasTexts new.head new.texts) (sym c.deref.ensures.value) (c.in-Ok.ensures.texts clean) in
          just_saved g.K.Ord.cmp g.K.Encode.seen g.V.Encode.seen (record_at g.K.Encode.value_at g.V.Encode.value_at) new.texts c.clear.new.self.items c.in-Ok-replayed.index.pairs (c.in-Ok-replayed.ensures.led new.head new.texts has) c.clear.ensures.items;
    }

pub returns-in-Ok-replayed-clause-rolled : goal.returns-in-Ok-replayed-clause-rolled
returns-in-Ok-replayed-clause-rolled g c clean =
    let new = c.read.new.self in
    c.in-Ok-replayed.ensures.led new.head new.texts (subst (HasTexts new.head new.texts) (sym c.deref.ensures.value) (c.in-Ok.ensures.texts clean))

pub returns-in-Err-clause-saved : goal.returns-in-Err-clause-saved
returns-in-Err-clause-saved g c = rw (← c.self.view_is) (still_saved c.self.invariant c.read.new.self c.read.ensures.same)

pub returns-in-Err-clause-no_more : goal.returns-in-Err-clause-no_more
returns-in-Err-clause-no_more g c = rw (← c.self.view_is) c.read.ensures.crash

pub returns-in-Err-clause-clean : goal.returns-in-Err-clause-clean
returns-in-Err-clause-clean g c = rw (← c.self.view_is) c.read.ensures.clean

pub returns-in-Ok-replayed-clause-saved : goal.returns-in-Ok-replayed-clause-saved
returns-in-Ok-replayed-clause-saved g c = rw (← c.self.view_is) (still_saved c.self.invariant c.read.new.self c.read.ensures.same)

pub returns-in-Ok-replayed-clause-no_more : goal.returns-in-Ok-replayed-clause-no_more
returns-in-Ok-replayed-clause-no_more g c = rw (← c.self.view_is) c.read.ensures.crash

pub returns-in-Err-Memory-clause-saved : goal.returns-in-Err-Memory-clause-saved
returns-in-Err-Memory-clause-saved g c = rw (← c.self.view_is) (still_saved c.self.invariant c.read.new.self c.read.ensures.same)

pub returns-in-Err-Memory-clause-no_more : goal.returns-in-Err-Memory-clause-no_more
returns-in-Err-Memory-clause-no_more g c = rw (← c.self.view_is) c.read.ensures.crash

pub returns-in-Err-Memory-clause-clean : goal.returns-in-Err-Memory-clause-clean
returns-in-Err-Memory-clause-clean g c = rw (← c.self.view_is) c.read.ensures.clean

pub returns-clause-saved : goal.returns-clause-saved
returns-clause-saved g c = rw (← c.self.view_is) (still_saved c.self.invariant c.read.new.self c.read.ensures.same)

pub returns-clause-no_more : goal.returns-clause-no_more
returns-clause-no_more g c = rw (← c.self.view_is) c.read.ensures.crash

pub returns-clause-clean : goal.returns-clause-clean
returns-clause-clean g c = rw (← c.self.view_is) c.read.ensures.clean

pub returns-in-Ok-replayed-clause-clean : goal.returns-in-Ok-replayed-clause-clean
returns-in-Ok-replayed-clause-clean g c = rw (← c.self.view_is) c.read.ensures.clean
