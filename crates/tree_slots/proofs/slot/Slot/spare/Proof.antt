-- `spare` reads the bytes of a slot, and leaves what it owns.
use Rattle.tree_slots.proofs.Common.{ !, Fml, Goes-ref, List, None, Option, RattleType, SProp, Stays, Typed, Val, [], a_type, addr, alloc_all, at_ret, blocks, by, cell_at, closes, drop, emp, enter}
use Rattle.tree_slots.proofs.Common.{env, exec, fact, fact_i, feq_i, first, fjoin, fjoin3, flft, fpack, fpick, free_all, fsep, fsplit, fsplit3, ftrue, full_share, get, inst_fn, join, keep, layout}
use Rattle.tree_slots.proofs.Common.{layouts, leaves, load, look_at, look_raw, move, mut_Tells, mut_vals, named, nothing, of_opd, opens, owns, param, pass_all, plain, proved, qed, raw, refl}
use Rattle.tree_slots.proofs.Common.{returns, rewrite, sets, sets_last, split, stay_ref, stop, sym, tables, through, types_at, use0, vptr, walk_of, ‵, ◌$◌, ◌∵◌, ◌∷◌, ◌≡◌, ◌⊛◌}
use Rattle.std.proofs.VecSteps.Shapes.{after}
use Rattle.tree_slots.proofs.Slots.{alone}
use Rattle.tree_slots.specs.contracts.slot.Slot.spare.{ended, clauses}
use Rattle.tree_slots.specs.contracts.slot.Slot.spare.Key.{name as #self}
use Rattle.tree_slots.proofs.slot.Slot.spare.Statement.{statement}
use Rattle.tree_slots.specs.contracts.slot.Slot as slot
use Rattle.tree_slots.proofs.slot.Slot.spare.Code as code

pub spare_spec : {M : Type 1} → statement M
spare_spec 𝓤 𝓛 𝓜 𝓡 wired X L =
    let H = 𝓛.H in let 𝓣 = tables 𝓤 H 𝓜 𝓡 𝓡.env in let R : RattleType = param 0 X in let En = ended X in let c = clauses X 𝓛 𝓜.mem 𝓡.returns in
    let inst = layouts (a_type ∷ []) (X, tt) in let fn = inst_fn inst code.function in let closed = code.unfolded 𝓤 H 𝓜 𝓡 wired (X, tt) in let Row : RattleType = slot.the_row R in
    let hs : Stays En.signature.params En.kept = (stay_ref (0 ∷ []) tt (plain (λ _. Row)), tt) in
    proved 𝓛 En hs c 𝓜 𝓡 (Goes-ref 𝓛 2 0 tt (plain (λ _. Row)), tt) (#self inst) fn closed
    (λ κs. (mut_vals, tt)) (λ κs. (mut_Tells (named 0) κs.0 Row, tt)) (λ κs qs bounds a gh are.
    let b = a.0.ref_ptr.0 in let o = a.0.ref_ptr.1 in let s : Option X.Denot = a.0.now in let others : Fml = fsep (flft κs.1.0 qs.1.0) ftrue in
    let y : (walk_of 𝓛 En hs c).Ghost = ((κs, qs, bounds, a, (vptr b o ∷ [], tt)), gh) in let Post : Val → SProp 𝓤 = (walk_of 𝓛 En hs c).post y in let no : Option X.Denot = None in
    qed 𝓛 (((‵ (flft κs.0 qs.0) ⊛ ‵ others) ⊛ ‵ (owns (types_at En.signature.params κs) a y.0.4)) ∷ raw ((c κs a).requires gh) ∷ []) ∵
    keep ! (0 ∷ []) $ split ! $ split ! $ move ! (2 ∷ []) $ fsplit ! $ fsplit3 ! $ keep ! (1 ∷ 2 ∷ 4 ∷ 5 ∷ []) $
    -- [the name; the borrow; its token; the other token]
    enter ! 𝓣.C 𝓣.Λ fn (vptr b o ∷ []) Post $ alloc_all ! (λ l. pass_all ! refl ((tt, tt), tt) $ let Ev = env fn.locals l in
    opens ! tt Row {h = s} b o (λ us. move ! (1 ∷ []) $ fsplit ! $ fpick ! (λ typed. drop ! $
    let got = alone (layout Row) us typed in let v : Val = got.0 in
    rewrite ! 1 (λ (ws : List Val). ‵ (cell_at full_share Row.mir ws b o)) got.1 refl $ move ! (1 ∷ []) $
    -- [the cell; what is owned; the open borrow, in three; the other token]
    sets ! (addr ! (through ! refl (stop !))) refl (tt, tt) $ first ! $ blocks ! $
    sets_last ! (of_opd ! (load ! (through ! refl (stop !)) (look_raw ! 0 refl))) refl got.2 $ exec ! 𝓣.C 𝓣.Λ Ev (after 2 fn.body) (at_ret Ev Post) $ sets ! (of_opd ! (get ! refl)) refl got.2 $
    rewrite ! 0 (λ (ws : List Val). ‵ (cell_at full_share Row.mir ws b o)) (sym got.1) refl $
    nothing ! $ fpack ! (Typed Row.mir us) (λ _. ftrue) typed $ move ! (0 ∷ 2 ∷ []) $ fjoin ! $ move ! (1 ∷ 0 ∷ []) $ closes ! tt Row s us b o $
    -- [the name; the borrow; its token; the other token]
    returns ! (look_at ! 0 refl) $ free_all ! refl $ keep ! (0 ∷ 1 ∷ 2 ∷ 3 ∷ []) $
    feq_i ! (List Val) (vptr b o ∷ []) (vptr b o ∷ []) refl $ fjoin3 ! $ nothing ! $ move ! (1 ∷ 0 ∷ []) $ fjoin ! $ move ! (1 ∷ 2 ∷ []) $ join ! $
    nothing ! $ fpack ! (Typed Row.mir (v ∷ [])) (λ _. ftrue) (got.2, tt) $ nothing ! $ move ! (1 ∷ 0 ∷ []) $ fjoin ! $
    use0 𝓛 (raw (fact 𝓤 (s ≡ s))) (fact_i 𝓤 (s ≡ s) (emp 𝓤) refl) $ use0 𝓛 (raw (fact 𝓤 (no ≡ no))) (fact_i 𝓤 (no ≡ no) (emp 𝓤) refl) $ join ! $
    move ! (2 ∷ 3 ∷ 1 ∷ 0 ∷ []) $ by ! (leaves 𝓛 En hs c y v None (s, tt) (tt, tt))))))
