-- `full` lays the value in a slot.
use Rattle.tree_slots.proofs.Common.{ !, Goes-dropped, List, RattleType, SProp, Some, Stays, T, Typed, Val, Valss, WT, WpFn, [], a_type, agg, alive, alloc_all, and_then, and_tt, by, emp, ent}
use Rattle.tree_slots.proofs.Common.{enter, fact, fact_i, feq_i, fjoin, fpack, free_all, fsplit, ftrue, get, has_ty, id⊢, inst_fn, keep, layout, layouts, leaves, look_at, move, no, no_more}
use Rattle.tree_slots.proofs.Common.{nothing, of_opd, owns, param, param_laws, pass_all, plain, proved_at, qed, raw, refl, returns, rewrite, sets, split, stay_dropped, subst, suffices, sym}
use Rattle.tree_slots.proofs.Common.{tables, true, types_at, use0, vcons, vnil, vstruct, walk_of, within, ‵, ◌$◌, ◌&&◌, ◌++◌, ◌∵◌, ◌∷◌, ◌≡◌, ◌⊛◌}
use Rattle.tree_slots.proofs.Slots.{alone}
use Rattle.tree_slots.specs.contracts.slot.Slot.full.{ended, clauses}
use Rattle.tree_slots.specs.contracts.slot.Slot.full.Key.{name as #self}
use Rattle.tree_slots.proofs.slot.Slot.full.Statement.{statement}
use Rattle.tree_slots.specs.contracts.slot.Slot.TheInside as inside
use Rattle.tree_slots.proofs.slot.Slot.full.Code as code

pub full_spec : {M : Type 1} → statement M
full_spec 𝓤 𝓛 𝓜 𝓡 wired X L =
    let H = 𝓛.H in let 𝓣 = tables 𝓤 H 𝓜 𝓡 𝓡.env in let R : RattleType = param 0 X in let En = ended X in let c = clauses X 𝓛 𝓜.mem 𝓡.returns in
    let inst = layouts (a_type ∷ []) (X, tt) in let fn = inst_fn inst code.function in let closed = code.unfolded 𝓤 H 𝓜 𝓡 wired (X, tt) in
    let item = plain (λ _. R) in let hs : Stays En.signature.params En.kept = (stay_dropped item no, tt) in let F : RattleType = inside.the_row R in let D = denote.Struct.Declared.shape (inside.the_type R) in
    proved_at 𝓛 En hs c 𝓜 𝓡 (Goes-dropped 𝓛 1 item no (λ κs x f. refl), tt) (#self inst) fn closed (λ z are.
    let x : X.Denot = z.0.3.0 in let got = alone (layout X) z.0.4.0 (((param_laws 0 X L).lawful 𝓛).typed x z.0.4.0 are.0) in let vy : Val = got.0 in let fy = got.2 in let v : Val = vstruct (vcons vy vnil) in
    let Post : Val → SProp 𝓤 = (walk_of 𝓛 En hs c).post z in let Run : List Val → SProp 𝓤 = λ ws. WpFn 𝓤 H 𝓣.C 𝓣.Λ fn ws Post in
    let typed : T (has_ty (layout X) vy && true) × WT v = (and_tt (has_ty (layout X) vy) fy.0, (fy.1, tt)) in
    qed 𝓛 ((raw (alive 𝓛 En.signature z.0.0 z.0.1) ⊛ ‵ (owns (types_at En.signature.params z.0.0) z.0.3 z.0.4)) ∷ raw ((c z.0.0 z.0.3).requires z.1) ∷ []) ∵
    keep ! (0 ∷ []) $ split ! $ move ! (1 ∷ []) $ fsplit ! $
    rewrite ! 0 (λ (ws : List Val). ‵ (R.own_val x ws)) got.1 refl $ fjoin ! $
    feq_i ! (List Val) (v ∷ []) (v ∷ []) refl $ fjoin ! $ fpack ! (Valss (R ∷ [])) (within D (x, tt) (v ∷ [])) (vy ∷ [], tt) $
    nothing ! $ fpack ! (Typed F.mir (v ∷ [])) (λ _. ftrue) (typed, tt) $ fjoin ! $
    suffices ! (Run (vy ∷ [])) (subst (λ (ws : List Val). ent 𝓤 (Run (vy ∷ [])) (Run ws)) (sym (λ i. got.1 i ++ [])) (id⊢ 𝓤 (Run (vy ∷ [])))) $
    enter ! 𝓣.C 𝓣.Λ fn (vy ∷ []) Post $ alloc_all ! (λ l. pass_all ! refl (fy, tt) $ sets ! (of_opd ! (get ! refl)) refl fy $
    sets ! (agg ! (and_then ! (get ! refl) (no_more !))) refl typed $
    use0 𝓛 (raw (fact 𝓤 (Some x ≡ Some x))) (fact_i 𝓤 (Some x ≡ Some x) (emp 𝓤) refl) $ nothing ! $ nothing ! $ fjoin ! $
    returns ! (look_at ! 0 refl) $ free_all ! refl $ keep ! (3 ∷ 0 ∷ 2 ∷ 1 ∷ []) $ by ! (leaves 𝓛 En hs c z v (Some x) (tt, tt) (tt, tt))))
