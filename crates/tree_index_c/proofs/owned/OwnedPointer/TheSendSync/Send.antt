-- A pointer may go to another thread: the store behind it may, and any thread may free its block.
use Rattle.std.proofs.Common.{Option, None, Some, Global}
use base.Shift.{Keyless}
use mir.Raw.{raw}
use denote.Memory.{lone}
use denote.RawPtr.{Ptr}
use denote.Struct.Struct.{exits_of}
use denote.Struct.Owning.{shape, fields, to}
use denote.Param.Send.{IsSend, AllSend, owning_send, struct_send, sendable}
use Rattle.std.proofs.Crossing.{frees}
use Rattle.std_alloc.proofs.SendSync.{quiet, lies}
use Rattle.std_heap.proofs.Global.TheSendSync.{the_field_send}
use Rattle.tree_index_c.specs.Owned.{owns_behind}
use Rattle.tree_index_c.specs.contracts.owned.OwnedPointer.{the_row, the_type}
use Rattle.tree_index_c.specs.contracts.store.Store as Store
use Rattle.tree_index_c.proofs.store.Store.TheSendSync as store

-- what lies behind the pointer is bound to no thread
crosses : (heap : Global) (at : Ptr) (behind : Option Store.the_row.Denot) → Keyless (owns_behind heap at behind)
crosses heap at None = tt
crosses heap at (Some x) = (lies Store.the_row store.the_send at x, frees.frees heap (raw (lone Store.the_row.mir)) at)

pub send : IsSend the_row
send =
    let both : AllSend (fields the_type) = (search sendable, (the_field_send, tt)) in
    owning_send the_type both (λ pointer. crosses pointer.heap pointer.at pointer.behind)
    (λ κs. quiet (to the_type) (exits_of κs (fields the_type)) ((struct_send (shape the_type) both).leaving κs))
