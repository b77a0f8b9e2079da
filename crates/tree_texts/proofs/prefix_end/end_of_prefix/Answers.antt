use Rattle.std.proofs.Common.{◌-◌, sym, arith}
use Rattle.tree_texts.proofs.Prefixes.{end_none, end_raised}
use Rattle.tree_texts.proofs.prefix_end.end_of_prefix.Goals as goal

pub returns-then-kept-eq0 : goal.returns-then-kept-eq0
returns-then-kept-eq0 c = sym (end_none c.args.prefix.now (λ i lt. c.up_to_last_below_255-kept.ensures.after i (omega arith) lt))

pub returns : goal.returns
returns c =
    rw (c.in_ok-push.ensures.items, c.in_ok-end.ensures.items)
    (sym (end_raised (c.up_to_last_below_255-kept.result - 1) c.args.prefix.now (omega arith) (c.up_to_last_below_255-kept.ensures.last (omega arith)) (λ i gt lt. c.up_to_last_below_255-kept.ensures.after i (omega arith) lt)))
