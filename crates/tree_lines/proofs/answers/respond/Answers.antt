use Rattle.std.proofs.Common.{◌≡◌, ℕ, List, Option, Some, ap, refl}
use Rattle.tree_model.proofs.Common.{Unbounded}
use Rattle.tree_lines.specs.declared.requests.Request.{Request}
use Rattle.tree_lines.specs.declared.requests.Request.TheVariants.{Iter}
use Rattle.tree_lines.specs.Lines.{inside, pairs_text}
use Rattle.tree_lines.specs.Progress.{Responds}
use Rattle.tree_lines.proofs.Pieces.{within_open}
use Rattle.tree_node.proofs.Common.{fits}
use Rattle.tree_lines.proofs.answers.respond.Goals as goal

-- all pairs are within open bounds
responds_all : (LEN : ℕ) (old : List (ℕ × ℕ)) (asked : Option Request) (request : Request) → asked ≡ Some request → request ≡ Iter → Responds LEN old asked (pairs_text (inside Unbounded Unbounded old)) old
responds_all LEN old asked request is same = rw (is, same) (ap pairs_text (within_open old), refl)

pub returns-in-Some-Iter-clause-responds : goal.returns-in-Some-Iter-clause-responds
returns-in-Some-Iter-clause-responds g c = responds_all g.row.LEN c.args.index.now.pairs c.args.request c.in-Some-Iter.field-0 c.in-Some-Iter.is (rw c.in-Some-Iter.is at c.in-Some-Iter.field-0-is)

pub insert_sync-requires : goal.insert_sync-requires
insert_sync-requires g c = search fits

pub upsert_sync-requires : goal.upsert_sync-requires
upsert_sync-requires g c = search fits

pub remove_sync-requires : goal.remove_sync-requires
remove_sync-requires g c = search fits

pub remove_value-requires : goal.remove_value-requires
remove_value-requires g c = search fits

pub remove_range_sync-requires : goal.remove_range_sync-requires
remove_range_sync-requires g c = search fits

pub clear-requires : goal.clear-requires
clear-requires g c = search fits

pub contains-requires : goal.contains-requires
contains-requires g c = search fits

pub len-requires : goal.len-requires
len-requires g c = search fits

pub depth-requires : goal.depth-requires
depth-requires g c = search fits

pub spare-requires : goal.spare-requires
spare-requires g c = search fits

pub from-requires : goal.from-requires
from-requires g c = search fits

pub peek-requires : goal.peek-requires
peek-requires g c = search fits
