-- What a pointer owns: nothing where it is null, else the store behind it and the right to free its block.
use base.Fml.{Fml, ftrue}
use denote.RawPtr.{Ptr}
use Rattle.std.specs.Prelude.{Option, None, Some}
use Rattle.std.specs.Coded.{Coded, coded_option}
use Rattle.std.specs.Box.Ownership.{box_owns}
use Rattle.std.specs.Global.{Global}
use Rattle.std_heap.specs.contracts.GlobalAllocator.TheImpl.{ghosts}
use Rattle.tree_index_c.specs.contracts.store.Store.{the_row}

abbrev pub owns_behind : Global → Ptr → Option the_row.Denot → Fml
owns_behind heap at None = ftrue
owns_behind heap at (Some store) = box_owns (ghosts.dealloc_token heap) the_row at store

abbrev pub behind_coded : Coded (Option the_row.Denot)
behind_coded = coded_option the_row.coded
