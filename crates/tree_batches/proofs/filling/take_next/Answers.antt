use Rattle.std.proofs.Common.{◌≤◌, length, refl, arith}
use Rattle.std.proofs.lemmas.List.{drop_all}
use Rattle.tree_batches.specs.Batches.{answer_for}
use Rattle.tree_batches.proofs.Places.{first_answered, kept_on}
use Rattle.tree_batches.proofs.filling.take_next.Goals as goal

pub returns-then-not-has_next-clause-first : goal.returns-then-not-has_next-clause-first
returns-then-not-has_next-clause-first g c =
    let past : length c.args.keys.now ≤ c.has_next.new.batch.answered = omega (arith, c.if-not-has_next.ensures.more) in
    let same : length c.args.keys.now ≤ c.args.batch.now.answered = omega (arith, past, c.has_next.ensures.same) in
    (rw (drop_all c.args.batch.now.answered c.args.keys.now same) refl, rw (drop_all c.has_next.new.batch.answered c.args.keys.now past) refl)

pub returns-clause-first : goal.returns-clause-first
returns-clause-first g c =
    let answer = answer_for g.W.Answers.shown g.Q.Lent.key g.K.Ord.cmp (g.A.Batched.pairs c.args.arenas.now c.args.root.now) in
    rw (← c.has_next.ensures.same, c.take_first.ensures.next.answered)
    (first_answered g.W.Answers.seen answer c.args.keys.now c.has_next.new.batch c.has_next.ensures.kept c.if-not-has_next.ensures.more c.take_first.result c.take_first.ensures.found)

pub returns-clause-kept : goal.returns-clause-kept
returns-clause-kept g c =
    let answer = answer_for g.W.Answers.shown g.Q.Lent.key g.K.Ord.cmp (g.A.Batched.pairs c.args.arenas.now c.args.root.now) in
    kept_on g.W.Answers.seen answer c.args.keys.now c.has_next.new.batch c.take_first.new.self c.has_next.ensures.kept c.if-not-has_next.ensures.more c.take_first.ensures.next
