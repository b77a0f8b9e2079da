-- A block and its allocator, however the code holds them: a box, the pair that a box is taken apart into, or a struct of this crate.
--     boxed                 the box of a value, by the laws of its type and of its allocator
--     pair_out              a pair of a pointer and an allocator, with the value behind the pointer, is one word of the machine and the value in memory
use Rattle.std.proofs.Common.{◌≡◌, refl, ap, ◌∙◌, ℕ, List, [], ◌∷◌, ◌++◌}
use seplogic.Ra.Ura.{Ura}
use base.Fraction.{full_share}
use base.Logic.{fst∗, never}
use mir.Raw.{raw as bare}
use mir.Val.{Val, vstruct, of_list}
use types.Logic.{Logic, sem}
use types.Kit.{Goal, Seq, Item, ‵, raw, ◌⊛◌, ◌$◌, move, drop, split, rewrite, fsplit, fpick, feq_l}
use contract.Monad.{fact}
use denote.Memory.{part_at}
use denote.RawPtr.{Ptr, RawPtr, block_ptr, null_ptr, ptr_val, in_a_block}
use denote.Steps.{heard, only}
use denote.Struct.Tuple.{Tuple}
use Rattle.std.proofs.alloc.Calls.{token, Fits, handle_tells}
use Rattle.std_alloc.specs.Box.Ownership.{box_owns}
use Rattle.std_alloc.proofs.BoxSteps.Form.{Bx, X, τ, R, P, word, handle}

module _ (E : Bx) {M : Type 1} {𝓤 : Ura M} {𝓛 : Logic 𝓤} {K : Type 0} {Γ : List (Item 𝓤)} {G : Goal 𝓤 𝓛.H} where
  pub pair_out : K → (pair : Ptr × E.al.row.Denot) (heap : E.al.row.Denot) (x : X E) (u : Val)
      → ((b o : ℕ) (hv : Val) → u ≡ word E hv b o → Fits E.al hv
      → Seq K 𝓛 (‵ (part_at (R E) full_share x b o) ∷ ‵ (token E.al heap (bare (τ E)) (block_ptr b o)) ∷ ‵ (handle E heap hv) ∷ Γ) G)
      → Seq K 𝓛 (‵ ((Tuple (RawPtr ∷ P E ∷ [])).own_val pair (u ∷ [])) ∷ (raw (fact 𝓤 (pair.1 ≡ heap)) ⊛ ‵ (box_owns (token E.al heap) (R E) pair.0 x)) ∷ Γ) G
  pair_out t pair heap x u next =
      fpick t (λ vss. fsplit t $ feq_l t (λ whole. fsplit t $ feq_l t (λ first. fsplit t $ move t (2 ∷ []) $ split t $ heard t (pair.1 ≡ heap) (λ same.
      in_a_block t pair.0 (λ p. box_owns (token E.al heap) (R E) p x) (fst∗ 𝓤 (never 𝓤) (sem 𝓛 (token E.al heap (bare (τ E)) null_ptr))) (λ b o at. fsplit t $
      move t (2 ∷ []) $ rewrite t 0 (λ (s : E.al.row.Denot). ‵ (E.al.row.own_val s vss.1.0)) same refl $ handle_tells E.al t heap vss.1.0 (λ hv second fits. move t (3 ∷ []) $ drop t $ move t (1 ∷ 2 ∷ []) $
      next b o hv (ap only (whole ∙ (λ i. vstruct (of_list ((first ∙ ap (λ (p : Ptr). ptr_val p ∷ []) at) i ++ (second i ++ []))) ∷ []))) fits))))))
