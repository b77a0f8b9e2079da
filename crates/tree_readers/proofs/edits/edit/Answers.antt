use Rattle.tree_model.specs.declared.commands.Reply.TheVariants.{Stored, Duplicate, Done}
use Rattle.std.proofs.Common.{refl, option_map}
use Rattle.tree_model.proofs.Histories.{seen_value}
use Rattle.tree_model.specs.Pairs.{pair_at}
use Rattle.tree_model.specs.declared.commands.Reply.TheVariants.{Removed, Found}
use Rattle.tree_readers.proofs.edits.edit.Goals as goal

pub returns-in-Remove-clause-ok : goal.returns-in-Remove-clause-ok
returns-in-Remove-clause-ok g c = rw c.in-Remove.is (record { reply = Removed c.remove_sync.result; answered = tt; step = (c.remove_sync.ensures.answer, c.remove_sync.ensures.left) })

-- a look-up changes nothing
pub returns-clause-ok : goal.returns-clause-ok
returns-clause-ok g c =
    let found = pair_at g.K.Ord.cmp c.args.index.now.pairs c.in-Peek.field-0 in
    rw c.in-Peek.is (record { reply = Found (option_map (λ pair. pair.1) found); answered = tt; step = (seen_value g.V.SameClone.seen found, refl) })

pub returns-in-Err-Duplicate-clause-ok : goal.returns-in-Err-Duplicate-clause-ok
returns-in-Err-Duplicate-clause-ok g c =
    let back = rw c.in-Err-Duplicate.field-0-is at c.in-Err-Duplicate.ensures.pairs in
    rw c.in-Insert.is (record { reply = Duplicate; answered = tt; step = (back.0, back.3) })

pub returns-in-Ok-upsert_sync-clause-ok : goal.returns-in-Ok-upsert_sync-clause-ok
returns-in-Ok-upsert_sync-clause-ok g c = rw c.in-Upsert.is (record { reply = Stored; answered = tt; step = c.in-Ok-upsert_sync.ensures.pairs })

pub returns-in-RemoveRange-clause-ok : goal.returns-in-RemoveRange-clause-ok
returns-in-RemoveRange-clause-ok g c = rw c.in-RemoveRange.is (record { reply = Done; answered = tt; step = rw (c.as_ref.ensures, c.as_ref-in-RemoveRange.ensures) at c.remove_range_sync.ensures })

pub returns-in-Clear-clause-ok : goal.returns-in-Clear-clause-ok
returns-in-Clear-clause-ok g c = rw c.in-Clear.is (record { reply = Done; answered = tt; step = c.clear.ensures.pairs })
