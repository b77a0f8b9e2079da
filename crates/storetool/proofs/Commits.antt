-- Commits that broke off.
use Rattle.std.proofs.Common.{◌≡◌, ◌⊎◌, ℕ, Bool, List, [], ◌++◌, Option, inl, inr, refl}
use Rattle.tree_model.proofs.Common.{Appends}
use Rattle.std.proofs.KnownBytes.{Appends-nil}
use Rattle.store_pair.specs.Pair.{AreClean, Held, MayHold}
use Rattle.store_pair.specs.Pair.{Pair}
use Rattle.store_pair.specs.declared.files.Files.{Files}
use Rattle.storetool.specs.Durable.{BreaksOff, IsDurable, Stands}

left_alone : (durable now : List (ℕ × ℕ)) (left : Held) (part : List ℕ) → part ≡ [] → Stands left durable ⊎ Stands left now → (Stands left durable × (part ≡ [])) ⊎ Stands left now
left_alone durable now left part none (inl h) = inl (h, none)
left_alone durable now left part none (inr h) = inr h

module _ {D : Type 0} (is_clean : D → Bool) (may_leave : D → List ℕ → Type 0) (durable now : List (ℕ × ℕ)) where
  -- the commit failed, and no answer was written
  pub broke_before : (files : Files D) (answers : List ℕ) (x : Option (List ℕ)) → (AreClean is_clean files → (left : Held) → MayHold may_leave files left → Stands left durable ⊎ Stands left now) → BreaksOff is_clean may_leave durable now files answers x x
  broke_before files answers x h = record {
    part = [];
    rest = answers;
    wrote = Appends-nil x;
    is = refl;
    leaves = λ clean left holds. left_alone durable now left [] refl (h clean left holds);
  }

  -- the pairs are committed, and some of the answers were written
  pub broke_after : (saved : Pair D) (answers part rest : List ℕ) (x y : Option (List ℕ)) → IsDurable is_clean may_leave saved now → Appends x y part → answers ≡ part ++ rest → BreaksOff is_clean may_leave durable now saved.files answers x y
  broke_after saved answers part rest x y h out is = record {
    part = part;
    rest = rest;
    wrote = out;
    is = is;
    leaves = λ clean left holds. inr (h.leaves clean left holds);
  }
