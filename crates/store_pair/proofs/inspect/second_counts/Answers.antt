use Rattle.std.proofs.Common.{◌≡◌, inl, inr, true}
use Rattle.store_pair.proofs.Pairs.{counts_counted}
use Rattle.store_pair.proofs.inspect.second_counts.Goals as goal

pub returns-then-is_blank-2-clause-blank : goal.returns-then-is_blank-2-clause-blank
returns-then-is_blank-2-clause-blank c is = (c.is_blank.ensures.0 c.if-is_blank.true, c.is_blank-then-is_blank.ensures.0 c.if-is_blank-2.true)

pub returns-clause-refused : goal.returns-clause-refused
returns-clause-refused c head texts has = elim has [
  | inl counts ↦
      let yes : c.is_counted.result ≡ true = c.is_counted.ensures.1 (counts_counted head texts c.args.first.now c.args.second.now counts) in
      cc (yes, c.if-is_counted.false)
  | inr counts ↦
      let yes : c.is_counted-2.result ≡ true = c.is_counted-2.ensures.1 (counts_counted head texts c.args.second.now c.args.first.now counts) in
      cc (yes, c.if-is_counted-2.false)
]
