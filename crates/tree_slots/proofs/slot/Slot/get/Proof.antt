-- `get` shows the value for as long as the slot is borrowed.
use Rattle.tree_slots.proofs.Common.{ !, Goes-dropped, IsSome, Lft, List, Option, RattleType, SProp, Some, Stays, Val, [], a_type, addr, alloc_all, by, emp, enter, fact, fact_i, feq_i, fjoin, fld}
use Rattle.tree_slots.proofs.Common.{free_all, fsplit, heard, hidden_shr, id⊢, inst_fn, keep, layouts, leaves, look_at, move, named, nothing, offset, owns, param, pass_all, plain, proved, qed}
use Rattle.tree_slots.proofs.Common.{raw, refl, returns, rewrite, sets, shr_Tells, shr_vals, split, stay_dropped, stop, tables, through, types_at, use0, use1, vptr, walk_of, yes, ‵, ℕ, ◌$◌, ◌+◌}
use Rattle.tree_slots.proofs.Common.{◌∵◌, ◌∷◌, ◌≡◌, ◌⊛◌}
use denote.Builtin.{RefOf}
use Rattle.tree_slots.proofs.Slots.{some_of}
use Rattle.tree_slots.specs.contracts.slot.Slot.get.{ended, clauses}
use Rattle.tree_slots.specs.contracts.slot.Slot.get.Key.{name as #self}
use Rattle.tree_slots.proofs.slot.Slot.get.Statement.{statement}
use Rattle.tree_slots.specs.contracts.slot.Slot as slot
use Rattle.tree_slots.proofs.slot.Slot.get.Code as code

pub get_spec : {M : Type 1} → statement M
get_spec 𝓤 𝓛 𝓜 𝓡 wired X L =
    let H = 𝓛.H in let 𝓣 = tables 𝓤 H 𝓜 𝓡 𝓡.env in let R : RattleType = param 0 X in let En = ended X in let c = clauses X 𝓛 𝓜.mem 𝓡.returns in
    let inst = layouts (a_type ∷ []) (X, tt) in let fn = inst_fn inst code.function in let closed = code.unfolded 𝓤 H 𝓜 𝓡 wired (X, tt) in let Row : RattleType = slot.the_row R in
    let self = RefOf (0 ∷ []) tt (plain (λ _. Row)) (λ _. tt) in let hs : Stays En.signature.params En.kept = (stay_dropped self yes, tt) in
    proved 𝓛 En hs c 𝓜 𝓡 (Goes-dropped 𝓛 2 self yes (λ κs x f. refl), tt) (#self inst) fn closed
    (λ κs. (shr_vals, tt)) (λ κs. (shr_Tells (named 0) κs.0 Row, tt)) (λ κs qs bounds a gh are.
    let b : ℕ = a.0.ref_ptr.0 in let o : ℕ = a.0.ref_ptr.1 in let κ : Lft = κs.0 in let s : Option X.Denot = a.0.now in let e : ℕ = o + offset R in
    let y : (walk_of 𝓛 En hs c).Ghost = ((κs, qs, bounds, a, (vptr b o ∷ [], tt)), gh) in let Post : Val → SProp 𝓤 = (walk_of 𝓛 En hs c).post y in
    qed 𝓛 ((raw (denote.Triple.Entry.alive 𝓛 En.signature κs qs) ⊛ ‵ (owns (types_at En.signature.params κs) a y.0.4)) ∷ raw (fact 𝓤 _) ∷ raw (fact 𝓤 (IsSome s)) ∷ []) ∵
    keep ! (2 ∷ 0 ∷ []) $ heard ! (IsSome s) (λ has. let x : X.Denot = (some_of s has).0 in let is_x : s ≡ Some x = (some_of s has).1 in
    split ! $ move ! (1 ∷ []) $ fsplit ! $ fsplit ! $ keep ! (1 ∷ 3 ∷ []) $ rewrite ! 0 (λ (t : Option X.Denot). ‵ (hidden_shr Row κ t b o)) is_x refl $
    use1 𝓛 (‵ (hidden_shr R κ x b e)) (id⊢ 𝓤 _) $
    enter ! 𝓣.C 𝓣.Λ fn (vptr b o ∷ []) Post $ alloc_all ! (λ l. pass_all ! refl ((tt, tt), tt) $
    sets ! (addr ! (through ! refl (fld ! refl (stop !)))) refl (tt, tt) $ feq_i ! (List Val) (vptr b e ∷ []) (vptr b e ∷ []) refl $ fjoin ! $
    use0 𝓛 (raw (fact 𝓤 (s ≡ Some x))) (fact_i 𝓤 (s ≡ Some x) (emp 𝓤) is_x) $ nothing ! $ nothing ! $ fjoin ! $
    returns ! (look_at ! 0 refl) $ free_all ! refl $ keep ! (3 ∷ 0 ∷ 2 ∷ 1 ∷ []) $ by ! (leaves 𝓛 En hs c y (vptr b e) (record { ref_ptr = (b, e); now = x }) (tt, tt) (tt, tt)))))
