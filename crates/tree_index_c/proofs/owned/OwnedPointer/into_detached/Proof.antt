-- `into_detached` moves two words. They own what the pointer owned, since it isn't null.
use Rattle.std.proofs.Common.{◌≡◌, refl, sym, subst, List, [], ◌∷◌, ◌++◌, Some, IsSome}
use mir.Val.{Val}
use base.Fml.{ftrue, fsep}
use base.Logic.{SProp, emp, ent, id⊢}
use prog.Wp.{WpFn}
use contract.Monad.{fact, fact_i}
use contract.Running.{tables}
use types.Kit.{‵, raw, ◌⊛◌, ◌$◌, ◌∵◌, !, qed, by, move, keep, use0, use1, split, fsplit, fjoin, suffices}
use types.ByLocal.{alloc_all, pass_all, free_all, look_at, get, get_in, sets}
use types.Part.{agg, sub, whole}
use types.Run.{enter, of_opd, fld, stop, and_then, no_more, returns}
use denote.Exit.{yes}
use denote.RattleType.{RattleType}
use denote.Steps.{heard, nothing}
use denote.Triple.Walked.{Stays, stay_dropped, walk_of, Goes-dropped}
use Rattle.std.proofs.raw_atomic.Walks.{proved_at, leaves}
use Rattle.std_alloc.proofs.BoxSteps.Form.{D, B, word, box_typed}
use Rattle.std_alloc.proofs.BoxSteps.Steps.{box_out, box_in}
use Rattle.tree_index_c.proofs.Boxed.{E, FromOwned as From, as_box}
use Rattle.tree_index_c.specs.contracts.owned.OwnedPointer.{the_row as Pointer}
use Rattle.tree_index_c.specs.contracts.store.Store.{the_row}
use Rattle.std_heap.specs.contracts.GlobalAllocator.TheImpl.{ghosts}
use Rattle.tree_index_c.proofs.owned.OwnedPointer.into_detached.Statement.{statement}
use Rattle.tree_index_c.specs.contracts.detached.Detached
use Rattle.std_heap.specs.contracts.Global as Heap
use Rattle.tree_index_c.specs.contracts.owned.OwnedPointer.into_detached as this
use Rattle.tree_index_c.proofs.owned.OwnedPointer.into_detached.Code as code

pub into_detached_spec : {M : Type 1} → statement M
into_detached_spec 𝓤 𝓛 𝓜 𝓡 wired =
    let 𝓣 = tables 𝓤 𝓛.H 𝓜 𝓡 𝓡.env in let c = this.clauses 𝓛 𝓜.mem 𝓡.returns in
    let stays : Stays (this.ended).signature.params (this.ended).kept = (stay_dropped From yes, tt) in
    proved_at 𝓛 this.ended stays c 𝓜 𝓡 (Goes-dropped 𝓛 0 From yes (λ κs x f. refl), tt) this.Key.name code.function (code.unfolded 𝓤 𝓛.H 𝓜 𝓡 wired) (λ z are.
    let To : RattleType = Detached.the_row the_row Heap.the_row ghosts in
    let pointer = z.0.3.0 in
    let runs : List Val → SProp 𝓤 = λ vs. WpFn 𝓤 𝓛.H 𝓣.C 𝓣.Λ code.function vs ((walk_of 𝓛 this.ended stays c).post z) in
    qed 𝓛 ((‵ ftrue ⊛ ‵ (fsep (Pointer.own_val pointer z.0.4.0) ftrue)) ∷ raw (fact 𝓤 (IsSome pointer.behind)) ∷ []) ∵ move ! (1 ∷ []) $ heard ! (IsSome pointer.behind) (λ some. split ! $ move ! (1 ∷ []) $ fsplit ! $
    let behind = as_box 𝓛 pointer.at pointer.heap z.0.4.0 pointer.behind some in let box : D E = record { ptr = pointer.at; alloc = pointer.heap; value = behind.0 } in
    use1 𝓛 (‵ ((B E).own_val box z.0.4.0)) behind.2 $
    box_out E ! box z.0.4.0 (λ b o hv at words fits. let w = word E hv b o in
    suffices ! (runs (w ∷ [])) (subst (λ (vs : List Val). ent 𝓤 (runs (w ∷ [])) (runs (vs ++ []))) (sym words) (id⊢ 𝓤 (runs (w ∷ [])))) $
    enter ! 𝓣.C 𝓣.Λ code.function (w ∷ []) _ $ alloc_all ! (λ locals. pass_all ! refl (box_typed E hv b o fits, tt) $
    sets ! (of_opd ! (get_in ! (fld ! refl (stop !)) (sub ! 0 refl (whole !)))) refl (tt, tt) $
    sets ! (of_opd ! (get_in ! (fld ! refl (stop !)) (sub ! 1 refl (whole !)))) refl fits $
    sets ! (of_opd ! (get ! refl)) refl (tt, tt) $
    sets ! (agg ! (and_then ! (get ! refl) (and_then ! (get ! refl) (no_more !)))) refl (box_typed E hv b o fits) $
    returns ! (look_at ! 0 refl) $ free_all ! refl $
    -- [the store; the right to free its block; the allocator; nothing; the tokens]
    let store : To.Denot = record { at = pointer.at; heap = pointer.heap; value = behind.0 } in
    box_in E ! box b o store.value at refl $ use1 𝓛 (‵ (To.own_val store (w ∷ []))) (id⊢ 𝓤 _) $
    use0 𝓛 (raw (fact 𝓤 (pointer.behind ≡ Some store.value))) (fact_i 𝓤 (pointer.behind ≡ Some store.value) (emp 𝓤) behind.1) $ nothing ! $ nothing ! $ fjoin ! $
    keep ! (4 ∷ 0 ∷ 2 ∷ 1 ∷ []) $ by ! (leaves 𝓛 this.ended stays c z w store (tt, tt) (tt, tt))))))
