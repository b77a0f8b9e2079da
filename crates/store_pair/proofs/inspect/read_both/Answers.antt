use Rattle.std.proofs.Common.{sym}
use Rattle.store_pair.proofs.Pairs.{held_same}
use Rattle.store_pair.proofs.inspect.read_both.Goals as goal

pub returns-clause-bytes : goal.returns-clause-bytes
returns-clause-bytes g c clean = held_same _ _ _ _ (sym (c.in_ok-first.ensures.bytes clean.0)) (sym (c.in_ok-second.ensures.bytes clean.1))
