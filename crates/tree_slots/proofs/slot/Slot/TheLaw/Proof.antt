-- A `&` to a slot is made of a borrow of it: a `&` to its value, where it has one. Assumes `Logic`.
use Rattle.tree_slots.proofs.Common.{ !, Denots, Fml, Incl, Incl-trans, Lawful, Laws, Lft, List, Logic, Member, None, Option, PartsBack, RattleType, SProp, Some, Struct, Struct-parts, Ty, Ura, []}
use Rattle.tree_slots.proofs.Common.{all_e, apply∗, await, by, done, drop, emp, ent, fbor, fjoin, fsep, fsplit, ftrue, full_share, id⊢, keep, later, layout, lent, lent_at, lfts, move, now, offset}
use Rattle.tree_slots.proofs.Common.{part_at, part_of, parts_at, qed, raw, row_of, rows_of, sem, sep, shape_of, shared_of, split, subst, sym, updating, use0, use1, use2, wand, zero, ‵, ℕ, ◌$◌}
use Rattle.tree_slots.proofs.Common.{◌++◌, ◌+◌, ◌∵◌, ◌∷◌, ◌≡◌, ◌⊛◌}
use contract.BorrowLft.{meet_⊑_left}
use ghost.Rules.{Toks, span}
use denote.RawPtr.{block_ptr}
use denote.Shares.{Shares, bor-Cut}
use denote.Sharing.{ShrLaws}
use denote.SharingLaws.{nothing_shr_laws}
use denote.Struct.Lending.{Law, Lends-nothing}
use Rattle.tree_slots.proofs.slot.Slot.TheLaw.Statement.{statement}
use Rattle.tree_slots.specs.contracts.slot.Slot as C

module _ {M : Type 1} {𝓤 : Ura M} (𝓛 : Logic 𝓤) (m : Member) (L : Lawful 𝓛 (row_of m)) (x : m.row.Denot) (b o : ℕ) where
  open 𝓛 use {H, A}

  abbrev P : Fml
  P = part_at (C.the_written (row_of m)) full_share (Some x) b o

  abbrev Fields : Fml
  Fields = part_at (Struct (shape_of [] (m ∷ []))) full_share (x, tt) b o

  abbrev At : Fml
  At = part_at (row_of m) full_share x b (o + offset (row_of m))

  abbrev Back : SProp 𝓤
  Back = PartsBack 𝓛 full_share [] (m ∷ []) b o

  whole : ent 𝓤 (sem 𝓛 Fields) (sem 𝓛 P)
  unfolding part_of
  whole = id⊢ 𝓤 _

  opened : ent 𝓤 (sem 𝓛 P) (sem 𝓛 Fields)
  unfolding part_of
  opened = id⊢ 𝓤 _

  apart : ent 𝓤 (sem 𝓛 P) (sep 𝓤 (sem 𝓛 At) Back)
  apart = qed 𝓛 (‵ P ∷ []) ∵ use1 𝓛 (‵ Fields) opened $ use1 𝓛 (‵ (fsep At ftrue) ⊛ raw Back) (Struct-parts 𝓛 full_share [] (m ∷ []) (L, tt) (x, tt) b o) $ split ! $ fsplit ! $ keep ! (0 ∷ 2 ∷ []) $ done !

  joined : ent 𝓤 (sep 𝓤 (sem 𝓛 At) Back) (sem 𝓛 P)
  joined = let F : SProp 𝓤 = sem 𝓛 (parts_at full_share (m ∷ []) zero (x, tt) b o) in
      qed 𝓛 (‵ At ∷ raw Back ∷ []) ∵ use0 𝓛 (‵ ftrue) (id⊢ 𝓤 (emp 𝓤)) $ move ! (1 ∷ 0 ∷ []) $ fjoin ! $ move ! (1 ∷ []) $
      use1 𝓛 (raw (wand 𝓤 F (sem 𝓛 Fields)))
      (all_e 𝓤 (λ (a : Denots (rows_of (m ∷ []))). wand 𝓤 (sem 𝓛 (parts_at full_share (m ∷ []) zero a b o)) (sem 𝓛 (part_at (Struct (shape_of [] (m ∷ []))) full_share a b o))) (x, tt)) $
      move ! (1 ∷ 0 ∷ []) $ use2 𝓛 (‵ Fields) (apply∗ 𝓤 F (sem 𝓛 Fields)) $ by ! whole

  made : (l : Lft) → Shares 𝓛 (row_of m) l → (κ : Lft) (ts : Toks) → Incl (span ts) l → Incl (span ts) κ
      → ent 𝓤 (sep 𝓤 (A.bor κ P) (lfts 𝓛 ts)) (H.⇛ (sep 𝓤 (sem 𝓛 (lent (row_of m) (Some x) (block_ptr b o) κ)) (lfts 𝓛 ts)))
  made l shares κ ts inc sp = qed 𝓛 (‵ (fbor κ P) ∷ raw (lfts 𝓛 ts) ∷ []) ∵ updating ! $
      use2 𝓛 (later (‵ (fbor κ At) ⊛ (‵ (fbor κ ftrue) ⊛ raw (lfts 𝓛 ts)))) (bor-Cut 𝓛 κ ts sp P At ftrue Back
      (qed 𝓛 (‵ At ∷ ‵ ftrue ∷ raw Back ∷ []) ∵ keep ! (0 ∷ 2 ∷ []) $ by ! joined)
      (qed 𝓛 (‵ P ∷ []) ∵ use1 𝓛 (‵ At ⊛ raw Back) apart $ split ! $ use0 𝓛 (‵ ftrue) (id⊢ 𝓤 (emp 𝓤)) $ move ! (1 ∷ 0 ∷ 2 ∷ []) $ done !)) $
      await ! tt $ split ! $ move ! (1 ∷ []) $ split ! $ drop ! $ move ! (1 ∷ 0 ∷ []) $
      use2 𝓛 (later (‵ (shared_of (row_of m) x b (o + offset (row_of m)) κ) ⊛ raw (lfts 𝓛 ts))) (shares x κ ts b (o + offset (row_of m)) inc sp) $ await ! tt $ split ! $ now ! $ done !

lent_laws : (m : Member) → ((x : m.row.Denot) (b o : ℕ) → ShrLaws (m.row.shr_at x b o)) → (s : Option m.row.Denot) (b o : ℕ) → ShrLaws (lent_at (row_of m) s b o)
lent_laws m laws None b o = nothing_shr_laws
lent_laws m laws (Some x) b o = laws x b (o + offset (row_of m))

any_made : {M : Type 1} {𝓤 : Ura M} (𝓛 : Logic 𝓤) (m : Member) (L : Lawful 𝓛 (row_of m)) → Shares 𝓛 (row_of m) m.row.lives → Shares 𝓛 (C.the_written (row_of m)) (C.the_written (row_of m)).lives
any_made 𝓛 m L shares None κ ts b o inc sp = Lends-nothing 𝓛 (part_at (C.the_written (row_of m)) full_share None b o) (C.the_written (row_of m)).lives κ ts inc sp
any_made 𝓛 m L shares (Some x) κ ts b o inc sp = made 𝓛 m L x b o m.row.lives shares κ ts (Incl-trans inc (Incl-trans (meet_⊑_left (m.row.lives ++ []) _) (meet_⊑_left m.row.lives []))) sp

pub shares : (T : RattleType) (L : Laws T) → statement T L
shares T L = let m : Member = record { row = T; ty = layout T } in
    let same : T ≡ row_of m = λ i. record { Denot = T.Denot; mir = L.one i; written = T.written; reaches = T.reaches; lives = T.lives; own_val = T.own_val; exit = T.exit; coded = T.coded; shr_at = T.shr_at } in
    subst (λ (τ : List Ty). Law (C.the_written (record T { mir = τ }))) (sym L.one) (record {
      shr_laws = lent_laws m L.shr_laws;
      shares = λ M 𝓤 𝓛. any_made 𝓛 m (subst (Lawful 𝓛) same (L.lawful 𝓛)) (subst (λ (R : RattleType). Shares 𝓛 R T.lives) same (L.shares 𝓛));
    })
