-- `null` makes a pointer of the null word and the allocator that it is given.
use Rattle.std.proofs.Common.{◌≡◌, refl, sym, subst, List, [], ◌∷◌, ◌++◌, lit<, None}
use mir.Val.{Val, vstruct, vcons, vnil, has_ty}
use base.Fml.{ftrue, fsep}
use base.Logic.{SProp, emp, ent, id⊢}
use prog.Wp.{WpFn}
use contract.Monad.{fact, fact_i}
use contract.Running.{tables}
use types.Kit.{‵, raw, ◌⊛◌, ◌$◌, ◌∵◌, !, qed, by, move, keep, use0, use1, split, fsplit, fjoin, feq_i, fpack, suffices}
use types.ByLocal.{alloc_all, pass_all, free_all, look_at, get, sets}
use types.Part.{agg}
use types.Run.{enter, lit, and_then, no_more, returns}
use denote.Exit.{yes}
use denote.RattleType.{Valss}
use denote.RawPtr.{RawPtr, null_ptr, ptr_val}
use denote.Signature.{Slot, plain}
use denote.Steps.{nothing}
use denote.Struct.Struct.{within}
use denote.Struct.Owning.{shape, to}
use denote.Triple.Walked.{Stays, stay_dropped, walk_of, Goes-dropped}
use Rattle.std.proofs.alloc.Calls.{α, handle_tells}
use Rattle.std.proofs.raw_atomic.Walks.{proved_at, leaves}
use Rattle.std_alloc.proofs.ResultValues.{and_tt}
use Rattle.tree_index_c.proofs.Boxed.{E}
use Rattle.tree_index_c.specs.contracts.owned.OwnedPointer.{the_row as To, the_type}
use Rattle.tree_index_c.proofs.owned.OwnedPointer.null.Statement.{statement}
use Rattle.std_heap.specs.contracts.Global as Heap
use Rattle.tree_index_c.specs.contracts.owned.OwnedPointer.null as this
use Rattle.tree_index_c.proofs.owned.OwnedPointer.null.Code as code

abbrev From : Slot 0
From = plain (λ _. Heap.the_row)

pub null_spec : {M : Type 1} → statement M
null_spec 𝓤 𝓛 𝓜 𝓡 wired =
    let 𝓣 = tables 𝓤 𝓛.H 𝓜 𝓡 𝓡.env in let c = this.clauses 𝓛 𝓜.mem 𝓡.returns in
    let stays : Stays (this.ended).signature.params (this.ended).kept = (stay_dropped From yes, tt) in
    proved_at 𝓛 this.ended stays c 𝓜 𝓡 (Goes-dropped 𝓛 0 From yes (λ κs x f. refl), tt) this.Key.name code.function (code.unfolded 𝓤 𝓛.H 𝓜 𝓡 wired) (λ z are.
    let heap = z.0.3.0 in let pointer : To.Denot = record { at = null_ptr; heap = heap; behind = None } in
    let runs : List Val → SProp 𝓤 = λ vs. WpFn 𝓤 𝓛.H 𝓣.C 𝓣.Λ code.function vs ((walk_of 𝓛 this.ended stays c).post z) in
    qed 𝓛 ((‵ ftrue ⊛ ‵ (fsep (Heap.the_row.own_val heap z.0.4.0) ftrue)) ∷ raw (emp 𝓤) ∷ []) ∵ split ! $ move ! (1 ∷ []) $ fsplit ! $
    handle_tells E.al ! heap z.0.4.0 (λ hv words fits. let w = vstruct (vcons (ptr_val null_ptr) (vcons hv vnil)) in
    suffices ! (runs (hv ∷ [])) (subst (λ (vs : List Val). ent 𝓤 (runs (hv ∷ [])) (runs (vs ++ []))) (sym words) (id⊢ 𝓤 (runs (hv ∷ [])))) $
    enter ! 𝓣.C 𝓣.Λ code.function (hv ∷ []) _ $ alloc_all ! (λ locals. pass_all ! refl (fits, tt) $
    sets ! (agg ! (and_then ! (lit ! tt) (and_then ! (get ! refl) (no_more !)))) refl (and_tt (has_ty (α E.al) hv) fits.0, (record { fits = lit< tt }, (fits.1, tt))) $
    returns ! (look_at ! 0 refl) $ free_all ! refl $
    -- [the allocator; nothing; the tokens; nothing]
    fjoin ! $ feq_i ! (List Val) (ptr_val null_ptr ∷ []) (ptr_val null_ptr ∷ []) refl $ fjoin ! $ feq_i ! (List Val) (w ∷ []) (w ∷ []) refl $ fjoin ! $
    fpack ! (Valss (RawPtr ∷ Heap.the_row ∷ [])) (within (shape the_type) (to the_type pointer) (w ∷ [])) (ptr_val null_ptr ∷ [], (hv ∷ [], tt)) $
    nothing ! $ move ! (1 ∷ 0 ∷ []) $ fjoin ! $ use1 𝓛 (‵ (To.own_val pointer (w ∷ []))) (id⊢ 𝓤 _) $
    use0 𝓛 (raw (fact 𝓤 (pointer.behind ≡ None))) (fact_i 𝓤 (pointer.behind ≡ None) (emp 𝓤) refl) $ nothing ! $ nothing ! $ fjoin ! $
    keep ! (3 ∷ 0 ∷ 2 ∷ 1 ∷ []) $ by ! (leaves 𝓛 this.ended stays c z w pointer (tt, tt) (tt, tt)))))
