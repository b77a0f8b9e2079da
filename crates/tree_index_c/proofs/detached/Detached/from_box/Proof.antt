-- `from_box` takes a box apart into its two words, and makes the struct of them. What lies behind the pointer stays where it is.
use Rattle.std.proofs.Common.{◌≡◌, refl, sym, subst, List, [], ◌∷◌, ◌++◌}
use mir.MapTy.{inst_fn}
use mir.Syntax.{Args, Fn, a_type, dcons, dnil}
use mir.Val.{Val}
use base.Fml.{ftrue, fsep, flft}
use base.Logic.{SProp, emp, ent, id⊢}
use prog.Wp.{WpFn}
use contract.BorrowLft.{◌⊑◌}
use contract.Monad.{fact, fact_i}
use contract.Running.{tables}
use types.Kit.{Item, ‵, raw, ◌⊛◌, some, later, ◌$◌, ◌∵◌, !, qed, by, move, keep, drop, use0, use1, split, join, fsplit, fjoin, pick, await, suffices}
use types.ByLocal.{alloc_all, pass_all, free_all, look_at, get, get_in, sets, lands_as}
use types.Part.{agg, sub, whole}
use types.Run.{enter, of_opd, fld, stop, and_then, no_more, returns}
use denote.Exit.{no}
use denote.Param.{bounded}
use denote.RawPtr.{Ptr, RawPtr, block_ptr}
use denote.Signature.{plain}
use denote.Steps.{nothing}
use denote.Struct.Tuple.{Tuple}
use denote.Triple.Call.{calls_at}
use denote.Triple.Spec.{triple_of}
use denote.Triple.Walked.{Stays, stay_dropped, walk_of}
use Rattle.std.proofs.alloc.Calls.{token, Goes-blank}
use denote.Triple.Table.{framed}
use Rattle.std.proofs.raw_atomic.Walks.{proved_at, leaves}
use Rattle.std_alloc.specs.Box.Ownership.{box_owns}
use Rattle.std_alloc.proofs.BoxSteps.Form.{Bx, R, P, B, word, box_typed}
use Rattle.std_alloc.proofs.BoxSteps.Steps.{box_out, box_in}
use Rattle.tree_index_c.proofs.Words.{pair_out}
use Rattle.tree_index_c.proofs.detached.Detached.from_box.Statement.{statement}
use Rattle.std_alloc.specs.contracts.boxed.Box.into_raw_with_allocator as opened
use Rattle.std_alloc.proofs.boxed.Box.into_raw_with_allocator.Met as opened_met
use Rattle.tree_index_c.specs.contracts.detached.Detached as made
use Rattle.tree_index_c.specs.contracts.detached.Detached.from_box as this
use Rattle.tree_index_c.proofs.detached.Detached.from_box.Code as code

pub from_box_spec : {M : Type 1} → statement M
from_box_spec 𝓤 𝓛 𝓜 𝓡 wired X Z LX LZ g d dd dx allocator spent glue =
    let E : Bx = record { row = X; laws = LX; al = record { row = Z; laws = LZ; g = g; d = d; drops = dd } } in
    let 𝓣 = tables 𝓤 𝓛.H 𝓜 𝓡 𝓡.env in
    let at : Args = bounded (a_type ∷ a_type ∷ []) (X, (Z, tt)) (dcons d (dcons dd (dcons dx dnil))) in
    let fn : Fn = inst_fn at code.function in
    let T = this.ended X Z g d dd dx in let c = this.clauses X Z g d dd dx 𝓛 𝓜.mem 𝓡.returns in
    let stays : Stays T.signature.params T.kept = (stay_dropped (plain (λ _. B E)) no, tt) in
    let Opens = triple_of 𝓛 (opened.signature X Z g d dd dx) (opened.spec X Z g d dd dx 𝓛 𝓜.mem 𝓡.returns) in
    proved_at 𝓛 T stays c 𝓜 𝓡 (Goes-blank 𝓛 2 (plain (λ _. B E)) no (λ κs x f. tt), tt) (this.Key.name at) fn (code.unfolded 𝓤 𝓛.H 𝓜 𝓡 wired (X, (Z, tt)) d dd dx) (λ z are.
    let κs = z.0.0 in let qs = z.0.1 in let box = z.0.3.0 in let heap = box.alloc in
    let W = walk_of 𝓛 T stays c in
    let runs : List Val → SProp 𝓤 = λ vs. WpFn 𝓤 𝓛.H 𝓣.C 𝓣.Λ fn vs (W.post z) in
    let tokens : Item 𝓤 = ‵ (flft κs.0 qs.0) ⊛ ‵ (flft κs.1.0 qs.1.0) ⊛ ‵ ftrue in
    let lives : Item 𝓤 = raw (fact 𝓤 (κs.0 ⊑ X.lives)) ⊛ raw (fact 𝓤 (κs.1.0 ⊑ Z.lives)) ⊛ ‵ ftrue in
    qed 𝓛 ((tokens ⊛ ‵ (fsep ((B E).own_val box z.0.4.0) ftrue)) ∷ lives ∷ []) ∵ split ! $ move ! (1 ∷ []) $ fsplit ! $
    box_out E ! box z.0.4.0 (λ b o hv e words fits. box_in E ! box b o box.value e refl $
    let w = word E hv b o in let y : Opens.Ghost = ((κs, qs, tt, (box, tt), (w ∷ [], tt)), tt) in
    suffices ! (runs (w ∷ [])) (subst (λ (vs : List Val). ent 𝓤 (runs (w ∷ [])) (runs (vs ++ []))) (sym words) (id⊢ 𝓤 (runs (w ∷ [])))) $
    enter ! 𝓣.C 𝓣.Λ fn (w ∷ []) _ $ alloc_all ! (λ locals. pass_all ! refl (box_typed E hv b o fits, tt) $
    sets ! (of_opd ! (get ! refl)) refl (box_typed E hv b o fits) $
    -- [the box; nothing; the tokens; what they outlive]
    fjoin ! $ move ! (1 ∷ 0 ∷ []) $ join ! $ join ! $ use1 𝓛 (raw (Opens.pre y)) (id⊢ 𝓤 _) $
    calls_at ! (framed 𝓤 𝓛.H 𝓜 𝓣) Opens (opened_met.met 𝓤 𝓛 𝓜 𝓡 (code.calls-std_alloc::boxed::Box::into_raw_with_allocator 𝓡.env wired) X Z LX LZ g d dd dx allocator spent glue) y (and_then ! (get ! refl) (no_more !)) (λ u.
    use1 𝓛 (later (some (λ (pair : Ptr × Z.Denot). (tokens ⊛ ‵ ((Tuple (RawPtr ∷ P E ∷ [])).own_val pair (u ∷ []))) ⊛ some (λ (_ : (Unit {0} × (Unit {0} × Unit {0})) × Unit {0}).
    ‵ (fsep (fsep ftrue (fsep ftrue ftrue)) ftrue) ⊛ (raw (fact 𝓤 (pair.1 ≡ heap)) ⊛ ‵ (box_owns (token E.al heap) (R E) pair.0 box.value)))))) (id⊢ 𝓤 _) $
    await ! tt $ pick ! (λ pair. split ! $ split ! $ move ! (2 ∷ []) $ pick ! (λ _. split ! $ drop ! $ move ! (2 ∷ 0 ∷ []) $
    -- [the pair; what it owns; the tokens]
    pair_out E ! pair heap box.value u (λ b' o' hw is fits'. let w' = word E hw b' o' in
    lands_as ! is refl (box_typed E hw b' o' fits') $
    sets ! (of_opd ! (get_in ! (fld ! refl (stop !)) (sub ! 0 refl (whole !)))) refl (tt, tt) $
    sets ! (of_opd ! (get_in ! (fld ! refl (stop !)) (sub ! 1 refl (whole !)))) refl fits' $
    sets ! (of_opd ! (get ! refl)) refl fits' $
    sets ! (agg ! (and_then ! (get ! refl) (and_then ! (get ! refl) (no_more !)))) refl (box_typed E hw b' o' fits') $
    returns ! (look_at ! 0 refl) $ free_all ! refl $
    -- [the value; the right to free its block; the allocator; the tokens]
    box_in E ! (record { ptr = block_ptr b' o'; alloc = heap; value = box.value }) b' o' box.value refl refl $
    let result : (made.the_row (R E) (P E) g).Denot = record { at = block_ptr b' o'; heap = heap; value = box.value } in
    use1 𝓛 (‵ ((made.the_row (R E) (P E) g).own_val result (w' ∷ []))) (id⊢ 𝓤 _) $
    use0 𝓛 (raw (fact 𝓤 (box.value ≡ box.value))) (fact_i 𝓤 (box.value ≡ box.value) (emp 𝓤) refl) $ nothing ! $ nothing ! $ fjoin ! $
    keep ! (3 ∷ 0 ∷ 2 ∷ 1 ∷ []) $ by ! (leaves 𝓛 T stays c z w' result ((tt, (tt, tt)), tt) (tt, tt)))))))))
