-- The box of a store, and the structs of this crate that own what it owns.
use Rattle.std.proofs.Common.{◌≡◌, refl, sym, subst, List, [], T, Option, None, Some, IsSome, Global}
use seplogic.Ra.Ura.{Ura}
use mir.Syntax.{impl, tnil, dnil}
use mir.Val.{Val}
use base.Logic.{ent, id⊢}
use types.Logic.{Logic, sem}
use denote.RawPtr.{Ptr}
use denote.Signature.{Slot, plain}
use Rattle.std_alloc.proofs.BoxSteps.Form.{Bx, B}
use Rattle.std_heap.specs.contracts.GlobalAllocator.TheImpl.{ghosts, dict}
use Rattle.std_heap.specs.contracts.Global as Heap
use Rattle.std_heap.proofs.Global.TheLaws as heap
use Rattle.tree_index_c.specs.contracts.store.Store as Store
use Rattle.tree_index_c.proofs.store.Store.TheLaws as store
use Rattle.tree_index_c.specs.contracts.detached.Detached as Detached
use Rattle.tree_index_c.specs.contracts.owned.OwnedPointer as Owned

-- No destructor of the allocator is called on the way, so any stands here.
abbrev pub E : Bx
E = record { row = Store.the_row; laws = store.the_row_laws; al = record { row = Heap.the_row; laws = heap.the_row_laws; g = ghosts; d = dict; drops = impl [] tnil dnil } }

abbrev pub FromDetached : Slot 0
FromDetached = plain (λ _. Detached.the_row Store.the_row Heap.the_row ghosts)

abbrev pub FromOwned : Slot 0
FromOwned = plain (λ _. Owned.the_row)

-- A pointer that isn't null owns what a box of the store behind it owns.
module _ {M : Type 1} {𝓤 : Ura M} (𝓛 : Logic 𝓤) (at : Ptr) (heap : Global) (vs : List Val) where
  pub as_box : (behind : Option Store.the_row.Denot) → IsSome behind
      → (x : Store.the_row.Denot) × (behind ≡ Some x) × ent 𝓤 (sem 𝓛 (Owned.the_row.own_val (record { at = at; heap = heap; behind = behind }) vs)) (sem 𝓛 ((B E).own_val (record { ptr = at; alloc = heap; value = x }) vs))
  as_box None some = absurd (subst T (sym some) tt)
  as_box (Some x) some = (x, refl, id⊢ 𝓤 _)
