-- `into_inner` takes the field out.
use Rattle.tree_slots.proofs.Common.{ !, Goes-dropped, Is, IsSome, List, Option, RattleType, SProp, Some, Stays, Val, WpFn, [], a_type, alive, alloc_all, and_tt, by, drop, emp, ent, enter, fact}
use Rattle.tree_slots.proofs.Common.{fact_i, feq_l, fjoin, fld, fpick, free_all, fsep, fsplit, ftrue, get, get_in, has_ty, heard, id⊢, inst_fn, keep, layout, layouts, leaves, look_at, move, no}
use Rattle.tree_slots.proofs.Common.{nothing, of_list, of_opd, param, param_laws, pass_all, peeks, plain, proved_at, qed, raw, refl, returns, rewrite, sets, shows, split, stay_dropped, stop, sub}
use Rattle.tree_slots.proofs.Common.{subst, suffices, sym, tables, use0, vcons, vnil, vstruct, walk_of, whole, ‵, ◌$◌, ◌++◌, ◌∙◌, ◌∵◌, ◌∷◌, ◌≡◌, ◌⊛◌}
use Rattle.tree_slots.proofs.Slots.{alone, some_of}
use Rattle.tree_slots.specs.contracts.slot.Slot.into_inner.{ended, clauses}
use Rattle.tree_slots.specs.contracts.slot.Slot.into_inner.Key.{name as #self}
use Rattle.tree_slots.proofs.slot.Slot.into_inner.Statement.{statement}
use Rattle.tree_slots.specs.contracts.slot.Slot as slot
use Rattle.tree_slots.proofs.slot.Slot.into_inner.Code as code

pub into_inner_spec : {M : Type 1} → statement M
into_inner_spec 𝓤 𝓛 𝓜 𝓡 wired X L =
    let H = 𝓛.H in let 𝓣 = tables 𝓤 H 𝓜 𝓡 𝓡.env in let R : RattleType = param 0 X in let En = ended X in let c = clauses X 𝓛 𝓜.mem 𝓡.returns in
    let inst = layouts (a_type ∷ []) (X, tt) in let fn = inst_fn inst code.function in let closed = code.unfolded 𝓤 H 𝓜 𝓡 wired (X, tt) in let Row : RattleType = slot.the_row R in
    let self = plain (λ _. Row) in let hs : Stays En.signature.params En.kept = (stay_dropped self no, tt) in
    proved_at 𝓛 En hs c 𝓜 𝓡 (Goes-dropped 𝓛 1 self no (λ κs x f. refl), tt) (#self inst) fn closed (λ z are.
    let s : Option X.Denot = z.0.3.0 in let vs : List Val = z.0.4.0 in let Post : Val → SProp 𝓤 = (walk_of 𝓛 En hs c).post z in let Run : List Val → SProp 𝓤 = λ ws. WpFn 𝓤 H 𝓣.C 𝓣.Λ fn ws Post in
    qed 𝓛 ((raw (alive 𝓛 En.signature z.0.0 z.0.1) ⊛ ‵ (fsep (Row.own_val s vs) ftrue)) ∷ raw (fact 𝓤 _) ∷ raw (fact 𝓤 (IsSome s)) ∷ []) ∵
    keep ! (2 ∷ 0 ∷ []) $ heard ! (IsSome s) (λ has. let x : X.Denot = (some_of s has).0 in let is_x : s ≡ Some x = (some_of s has).1 in
    split ! $ move ! (1 ∷ []) $ fsplit ! $ rewrite ! 0 (λ (t : Option X.Denot). ‵ (Row.own_val t vs)) is_x refl $ keep ! (0 ∷ 2 ∷ []) $
    fsplit ! $ fpick ! (λ typed. drop ! $ fpick ! (λ vss. fsplit ! $ feq_l ! (λ ev. fsplit ! $ peeks ! R (Is R) (shows 𝓛 R) x vss.0 (λ is_so.
    let got = alone (layout X) vss.0 (((param_laws 0 X L).lawful 𝓛).typed x vss.0 is_so) in let vy : Val = got.0 in let fy = got.2 in let v : Val = vstruct (vcons vy vnil) in
    let whole_is : vs ≡ v ∷ [] = ev ∙ (λ i. vstruct (of_list (got.1 i ++ [])) ∷ []) in
    rewrite ! 0 (λ (ws : List Val). ‵ (R.own_val x ws)) got.1 refl $ keep ! (0 ∷ 2 ∷ []) $
    suffices ! (Run (v ∷ [])) (subst (λ (ws : List Val). ent 𝓤 (Run (v ∷ [])) (Run ws)) (sym (λ i. whole_is i ++ [])) (id⊢ 𝓤 (Run (v ∷ [])))) $
    enter ! 𝓣.C 𝓣.Λ fn (v ∷ []) Post $ alloc_all ! (λ l. pass_all ! refl ((and_tt (has_ty (layout X) vy) fy.0, (fy.1, tt)), tt) $
    sets ! (of_opd ! (get_in ! (fld ! refl (stop !)) (sub ! 0 refl (whole !)))) refl fy $ sets ! (of_opd ! (get ! refl)) refl fy $
    use0 𝓛 (raw (fact 𝓤 (s ≡ Some x))) (fact_i 𝓤 (s ≡ Some x) (emp 𝓤) is_x) $ nothing ! $ nothing ! $ fjoin ! $
    returns ! (look_at ! 0 refl) $ free_all ! refl $ keep ! (3 ∷ 0 ∷ 2 ∷ 1 ∷ []) $ by ! (leaves 𝓛 En hs c z vy x (tt, tt) (tt, tt)))))))))
