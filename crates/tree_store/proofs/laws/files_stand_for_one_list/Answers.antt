use Rattle.std.proofs.Common.{refl}
use Rattle.store_codec.specs.Records.{record_at}
use Rattle.tree_store.proofs.Alike.{stand_once}
use Rattle.tree_store.proofs.laws.files_stand_for_one_list.Goals as goal

pub returns : goal.returns
returns g c = stand_once g.met.K.Ord.total g.K.Encode.seen g.V.Encode.seen g.met.K.StoreKey.seen_equal (record_at g.K.Encode.value_at g.V.Encode.value_at) refl
