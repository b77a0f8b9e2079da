use Rattle.tree_node.proofs.Common.{fits}
use Rattle.std.proofs.Common.{refl}
use Rattle.tree_index.proofs.index.TreeIndexOf.peek_with.Goals as goal

pub reader-requires : goal.reader-requires
reader-requires g c = c.requires (c.in_ok-key.key.now, c.in_ok-key.value.now) c.in_ok-key.ensures.found c.in_ok-key.key c.in_ok-key.value refl refl

pub returns : goal.returns
returns g c = rw c.in_ok-key.ensures.found (record {
  key = c.in_ok-key.key;
  value = c.in_ok-key.value;
  same_key = refl;
  same_value = refl;
  returned = c.reader.ensures;
})

pub peek_entry-requires : goal.peek_entry-requires
peek_entry-requires g c = search fits
