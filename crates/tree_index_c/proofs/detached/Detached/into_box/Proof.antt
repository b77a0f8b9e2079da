-- `into_box` hands its two words to a box, with what lies behind the pointer.
use Rattle.std.proofs.Common.{◌≡◌, refl, sym, subst, ap, List, [], ◌∷◌, ◌++◌, T}
use mir.MapTy.{inst_fn}
use mir.Syntax.{Fn}
use mir.Val.{Val, WT, has_ty, vptr}
use base.Fml.{ftrue, fsep, flft}
use base.Logic.{SProp, ent, id⊢}
use prog.Wp.{WpFn}
use contract.BorrowLft.{◌⊑◌}
use contract.Monad.{fact}
use contract.Running.{tables}
use types.Kit.{Item, at_ret, ‵, raw, ◌⊛◌, some, later, ◌$◌, ◌∵◌, !, qed, by, move, keep, drop, use1, split, join, fsplit, fjoin, feq_i, pick, await, rewrite, suffices}
use types.ByLocal.{alloc_all, pass_all, free_all, look_at, get, get_in, sets, lands_last, env}
use types.Part.{sub, whole}
use types.Run.{enter, of_opd, fld, stop, and_then, no_more, first, blocks, exec, returns}
use denote.Exit.{no}
use denote.RattleType.{RattleType}
use denote.RawPtr.{block_ptr}
use denote.Signature.{plain}
use denote.Steps.{nothing, only}
use denote.Triple.Call.{calls_at_last}
use denote.Triple.Spec.{triple_of}
use denote.Triple.Table.{framed}
use denote.Triple.Walked.{Stays, stay_dropped, walk_of}
use Rattle.std.proofs.alloc.Calls.{token, Goes-blank}
use Rattle.std.proofs.raw_atomic.Walks.{proved_at, leaves}
use Rattle.std.proofs.VecSteps.Shapes.{after}
use Rattle.std_alloc.specs.Box.Ownership.{box_owns}
use Rattle.std_alloc.proofs.BoxSteps.Form.{Bx, D, R, P, B, args, box_ty, word, box_typed}
use Rattle.std_alloc.proofs.BoxSteps.Steps.{box_out, box_in}
use Rattle.tree_index_c.proofs.detached.Detached.into_box.Statement.{statement}
use Rattle.std_alloc.specs.contracts.boxed.Box.from_raw as closed
use Rattle.std_alloc.proofs.boxed.Box.from_raw.Met as closed_met
use Rattle.tree_index_c.specs.contracts.detached.Detached as given
use Rattle.tree_index_c.specs.contracts.detached.Detached.into_box as this
use Rattle.tree_index_c.proofs.detached.Detached.into_box.Code as code

pub into_box_spec : {M : Type 1} → statement M
into_box_spec 𝓤 𝓛 𝓜 𝓡 wired X Z LX LZ g d dd allocator spent =
    let E : Bx = record { row = X; laws = LX; al = record { row = Z; laws = LZ; g = g; d = d; drops = dd } } in
    let 𝓣 = tables 𝓤 𝓛.H 𝓜 𝓡 𝓡.env in
    let fn : Fn = inst_fn (args E) code.function in
    let From : RattleType = given.the_row (R E) (P E) g in
    let ends = this.ended X Z g d dd in let c = this.clauses X Z g d dd 𝓛 𝓜.mem 𝓡.returns in
    let stays : Stays ends.signature.params ends.kept = (stay_dropped (plain (λ _. From)) no, tt) in
    let Closes = triple_of 𝓛 (closed.signature X Z g d dd) (closed.spec X Z g d dd 𝓛 𝓜.mem 𝓡.returns) in
    proved_at 𝓛 ends stays c 𝓜 𝓡 (Goes-blank 𝓛 2 (plain (λ _. From)) no (λ κs x f. tt), tt) (this.Key.name (args E)) fn (code.unfolded 𝓤 𝓛.H 𝓜 𝓡 wired (X, (Z, tt)) d dd) (λ z are.
    let κs = z.0.0 in let qs = z.0.1 in let heap = z.0.3.0.heap in let x = z.0.3.0.value in
    let box : D E = record { ptr = z.0.3.0.at; alloc = heap; value = x } in
    let W = walk_of 𝓛 ends stays c in
    let runs : List Val → SProp 𝓤 = λ vs. WpFn 𝓤 𝓛.H 𝓣.C 𝓣.Λ fn vs (W.post z) in
    let tokens : Item 𝓤 = ‵ (flft κs.0 qs.0) ⊛ ‵ (flft κs.1.0 qs.1.0) ⊛ ‵ ftrue in
    let X-lives : Item 𝓤 = raw (fact 𝓤 (κs.0 ⊑ X.lives)) in let Z-lives : Item 𝓤 = raw (fact 𝓤 (κs.1.0 ⊑ Z.lives)) in
    qed 𝓛 ((tokens ⊛ ‵ (fsep ((B E).own_val box z.0.4.0) ftrue)) ∷ (X-lives ⊛ Z-lives ⊛ ‵ ftrue) ∷ []) ∵ split ! $ move ! (1 ∷ []) $ fsplit ! $
    box_out E ! box z.0.4.0 (λ b o hv e words fits.
    let w = word E hv b o in let y : Closes.Ghost = ((κs, qs, tt, (heap, (block_ptr b o, tt)), (hv ∷ [], (vptr b o ∷ [], tt))), x) in
    suffices ! (runs (w ∷ [])) (subst (λ (vs : List Val). ent 𝓤 (runs (w ∷ [])) (runs (vs ++ []))) (sym words) (id⊢ 𝓤 (runs (w ∷ [])))) $
    -- [the value; the right to free its block; the allocator; nothing; the tokens; what they outlive]
    fjoin ! $ move ! (4 ∷ []) $ split ! $ move ! (1 ∷ []) $ split ! $ move ! (1 ∷ []) $ drop ! $
    -- [Z's; X's; the block; the allocator; nothing; the tokens]
    move ! (2 ∷ []) $ use1 𝓛 (‵ (box_owns (token E.al heap) (R E) (block_ptr b o) x)) (id⊢ 𝓤 _) $ move ! (1 ∷ []) $ join ! $ move ! (1 ∷ []) $ join ! $
    move ! (2 ∷ []) $ feq_i ! (List Val) (vptr b o ∷ []) (vptr b o ∷ []) refl $ fjoin ! $ move ! (2 ∷ 0 ∷ []) $ fjoin ! $ move ! (2 ∷ 0 ∷ []) $ join ! $ join ! $ use1 𝓛 (raw (Closes.pre y)) (id⊢ 𝓤 _) $
    enter ! 𝓣.C 𝓣.Λ fn (w ∷ []) _ $ alloc_all ! (λ locals. pass_all ! refl (box_typed E hv b o fits, tt) $
    sets ! (of_opd ! (get_in ! (fld ! refl (stop !)) (sub ! 0 refl (whole !)))) refl (tt, tt) $
    sets ! (of_opd ! (get_in ! (fld ! refl (stop !)) (sub ! 1 refl (whole !)))) refl fits $
    first ! $ blocks ! $ sets ! (of_opd ! (get ! refl)) refl fits $
    calls_at_last ! (framed 𝓤 𝓛.H 𝓜 𝓣) Closes (closed_met.met 𝓤 𝓛 𝓜 𝓡 (code.calls-std_alloc::boxed::Box::from_raw 𝓡.env wired) X Z LX LZ g d dd allocator spent) y (and_then ! (get ! refl) (and_then ! (get ! refl) (no_more !))) (λ u.
    use1 𝓛 (later (some (λ (r : D E). (tokens ⊛ ‵ ((B E).own_val r (u ∷ []))) ⊛ some (λ (_ : Unit {0} × (Unit {0} × Unit {0})).
    ‵ (fsep ftrue (fsep ftrue ftrue)) ⊛ (raw (fact 𝓤 (r.value ≡ x)) ⊛ raw (fact 𝓤 (r.alloc ≡ heap))))))) (id⊢ 𝓤 _) $
    await ! tt $ pick ! (λ r. split ! $ split ! $ move ! (2 ∷ []) $ pick ! (λ _. split ! $ drop ! $ split ! $ move ! (1 ∷ []) $ drop ! $ move ! (2 ∷ []) $
    -- [the box; its value is x; the tokens]
    box_out E ! r (u ∷ []) (λ b' o' hw at' words' fits'. box_in E ! r b' o' r.value at' refl $ rewrite ! 0 (λ (us : List Val). ‵ ((B E).own_val r us)) (sym words') refl $
    let typed : T (has_ty (box_ty E) u) × WT u = subst (λ (v : Val). T (has_ty (box_ty E) v) × WT v) (sym (ap only words')) (box_typed E hw b' o' fits') in
    lands_last ! refl typed $ exec ! 𝓣.C 𝓣.Λ (env fn.locals locals) (after 3 fn.body) (at_ret (env fn.locals locals) (W.post z)) $
    sets ! (of_opd ! (get ! refl)) refl typed $ returns ! (look_at ! 0 refl) $ free_all ! refl $
    nothing ! $ nothing ! $ fjoin ! $ keep ! (3 ∷ 0 ∷ 1 ∷ 2 ∷ []) $ by ! (leaves 𝓛 ends stays c z u r ((tt, (tt, tt)), tt) (tt, tt)))))))))
