-- Pairs that are loaded from lines.
use Rattle.std.proofs.Common.{◌≡◌, ◌⊎◌, ℕ, Bool, List, [], ◌∷◌, ◌++◌, Option, None, Result, Ok, Err, OnOk, OnErr, refl, sym, ap, ◌∙◌, subst, append-nil, nat_cmp}
use Rattle.tree_model.specs.Pairs.{put}
use Rattle.tree_model.proofs.Common.{Appends}
use Rattle.tree_lines.specs.Spelling.{clip}
use Rattle.store_pair.specs.Pair.{AreClean, Held, MayHold}
use Rattle.tree_store.specs.Store.{Store}
use Rattle.storetool.specs.Durable.{IsDurable, Stands}
use Rattle.storetool.specs.Loads.{IsPairLine, Loads}
use Rattle.storetool.specs.Session.{Steps}
use Rattle.storetool.proofs.Commits.{broke_before}
use Rattle.storetool.proofs.Sessions.{AreRuns, Commits, Fails, Goes, step_commit, step_quits, step_stops, step_then}

Loads-append : (old mid new : List (ℕ × ℕ)) (lines answers more replies : List (List ℕ)) → Loads old lines answers mid → Loads mid more replies new → Loads old (lines ++ more) (answers ++ replies) new
Loads-append old mid new [] [] more replies h k = subst (λ l. Loads l more replies new) h k
Loads-append old mid new (l ∷ lines) [] more [] h k = (h.0, h.1, Loads-append (put nat_cmp old h.0.0 h.0.1) mid new lines [] more [] h.2 k)
Loads-append old mid new lines [] [] (r ∷ replies) h k = absurd k
Loads-append old mid new lines [] (m ∷ more) (r ∷ replies) h k = absurd k
Loads-append old mid new [] (a ∷ answers) more replies h k = absurd h
Loads-append old mid new (l ∷ lines) (a ∷ answers) more replies h k = absurd h

pub loads : AreRuns Loads
loads = record { none = λ old. refl; more = Loads-append }

pub loads_one : (old new : List (ℕ × ℕ)) (line : List ℕ) (pair : ℕ × ℕ) → IsPairLine line pair → new ≡ put nat_cmp old pair.0 pair.1 → Loads old (line ∷ []) [] new
loads_one old new line pair is stored = (pair, is, stored)

nothing_written : {T E : Type 0} (result : Result T E) → OnOk result (Appends None None [])
nothing_written (Ok t) = tt
nothing_written (Err e) = tt

in_any : {T E : Type 0} (P : Type 0) (result : Result T E) → P → OnErr result P
in_any P (Ok t) h = tt
in_any P (Err e) h = h

module _ {D : Type 0} (is_clean : D → Bool) (may_leave : D → List ℕ → Type 0) where
  -- a commit without an answer
  pub commits : {T E : Type 0} (store store' : Store ℕ ℕ D) (result : Result T E) → OnOk result (IsDurable is_clean may_leave store'.saved store.pairs) → store'.pairs ≡ store.pairs → ((durable : List (ℕ × ℕ)) → IsDurable is_clean may_leave store.saved durable → AreClean is_clean store'.saved.files → (left : Held) → MayHold may_leave store'.saved.files left → Stands left durable ⊎ Stands left store.pairs) → Commits loads is_clean may_leave [] store store' None None result
  commits store store' result safe same crash = record {
    safe = safe;
    wrote = nothing_written result;
    same = same;
    broke_off = in_any _ result (λ durable h. broke_before is_clean may_leave durable store.pairs store'.saved.files [] None (crash durable h));
  }

  pub commits_well : (store store' : Store ℕ ℕ D) → IsDurable is_clean may_leave store'.saved store.pairs → store'.pairs ≡ store.pairs → ((durable : List (ℕ × ℕ)) → IsDurable is_clean may_leave store.saved durable → AreClean is_clean store'.saved.files → (left : Held) → MayHold may_leave store'.saved.files left → Stands left durable ⊎ Stands left store.pairs) → Commits loads is_clean may_leave [] store store' None None {T = Unit {0}} {E = Unit {0}} (Ok tt)
  commits_well store store' safe same crash = commits store store' (Ok tt) safe same crash

  pub commits_not : (store store' : Store ℕ ℕ D) → store'.pairs ≡ store.pairs → ((durable : List (ℕ × ℕ)) → IsDurable is_clean may_leave store.saved durable → AreClean is_clean store'.saved.files → (left : Held) → MayHold may_leave store'.saved.files left → Stands left durable ⊎ Stands left store.pairs) → Commits loads is_clean may_leave [] store store' None None {T = Unit {0}} {E = Unit {0}} (Err tt)
  commits_not store store' same crash = commits store store' (Err tt) tt same crash

  module _ (bytes taken left : List ℕ) (line line' : Option (List ℕ)) (store now store' : Store ℕ ℕ D) (parts : bytes ≡ taken ++ left) where
    -- the lines were taken, and the commit failed
    pub load_fails : Goes loads is_clean may_leave taken [] line store [] line' now None None → Commits loads is_clean may_leave [] now store' None None {T = Unit {0}} {E = Unit {0}} (Err tt) → Fails loads is_clean may_leave bytes [] line store [] line' store' None None
    load_fails h c =
        let all : Fails loads is_clean may_leave (taken ++ []) [] line store [] line' store' None None = step_then loads is_clean may_leave {T = Unit {0}} {E = Unit {0}} taken [] [] [] [] line line' line' store now store' None None None (Err tt) h (step_commit loads is_clean may_leave [] now store' None None {T = Unit {0}} {E = Unit {0}} line' [] (Err tt) tt c) in
        rw (parts, ← append-nil taken) (step_stops loads is_clean may_leave (taken ++ []) left [] [] [] line line' line' store store' None None all)

    load_result : {T E : Type 0} (result : Result T E) → OnOk result (left ≡ []) → Goes loads is_clean may_leave taken [] line store [] line' store' None None → Steps Loads is_clean may_leave bytes [] line store [] line' store' None None result
    load_result (Ok t) none all = rw (parts, none, append-nil taken) all
    load_result (Err e) none all = rw parts (step_stops loads is_clean may_leave taken left [] [] [] line line' line' store store' None None (step_quits loads is_clean may_leave taken [] [] line line' store store' None None all))

    -- they were taken and committed, and perhaps a later line is no pair
    pub load_ends : {T E : Type 0} (result : Result T E) → OnOk result (left ≡ []) → Goes loads is_clean may_leave taken [] line store [] line' now None None → Commits loads is_clean may_leave [] now store' None None {T = Unit {0}} {E = Unit {0}} (Ok tt) → Steps Loads is_clean may_leave bytes [] line store [] line' store' None None result
    load_ends result none h c =
        let all : Goes loads is_clean may_leave (taken ++ []) [] line store [] line' store' None None = step_then loads is_clean may_leave {T = Unit {0}} {E = Unit {0}} taken [] [] [] [] line line' line' store now store' None None None (Ok tt) h (step_commit loads is_clean may_leave [] now store' None None {T = Unit {0}} {E = Unit {0}} line' [] (Ok tt) refl c) in
        load_result result none (rw append-nil at all)
