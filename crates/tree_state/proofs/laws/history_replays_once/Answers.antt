use Rattle.std.proofs.Common.{[]}
use Rattle.tree_model.proofs.Histories.{one_replay}
use Rattle.tree_state.proofs.laws.history_replays_once.Goals as goal

pub returns : goal.returns
returns g c = one_replay g.K.Ord.cmp g.V.SameClone.seen []
