-- What stands at a key, where it was present and where its pair was stored.
use Rattle.std.proofs.Common.{◌≡◌, ◌↔◌, ℕ, IsTrue, true, false, Option, Some, None, refl, ◌∙◌, IsSome, Result, Err, is_some, Ordering, Equal}
use Rattle.tree_model.proofs.Common.{IsTotalOrder, IsAbsent, pair_at, put}
use Rattle.tree_model.specs.declared.commands.InsertError.{InsertError}
use Rattle.tree_model.specs.declared.commands.InsertError.TheVariants.{Duplicate, OutOfMemory}
use Rattle.tree_model.specs.Edits.{Inserts}
use Rattle.tree_model.proofs.LookUps.{pair_at-put}
use Rattle.tree_index.specs.Index.{Index, IsWritten, SpendsInsert, StaysPacked}
use Rattle.tree_index.specs.Present.{IsRefusedAt, StandsAt}

-- what a test for a key tells
pub absent_told : {X : Type 0} (found : Option X) → IsTrue false ↔ IsSome found → found ≡ None
absent_told None told = refl
absent_told (Some x) told = absurd (let wrong : false ≡ true = told.1 refl in cc)

pub present_told : {X : Type 0} (found : Option X) → IsTrue true ↔ IsSome found → (x : X) × (found ≡ Some x)
present_told None told = absurd (let wrong : false ≡ true = told.0 refl in cc)
present_told (Some x) told = (x, refl)

module _ {K V : Type 0} {cmp : K → K → Ordering} (o : IsTotalOrder cmp) (LEN : ℕ) (old new : Index K V) (key : K) (value : V) where
  pub stands_there : (pair : K × V) → pair_at cmp old.pairs key ≡ Some pair → StandsAt cmp LEN old key value pair.1 old
  stands_there pair is = rw is (refl, refl)

  pub stands_stored : IsAbsent cmp old.pairs key → new.pairs ≡ put cmp old.pairs key value → IsWritten LEN old new → StaysPacked cmp old new key → StandsAt cmp LEN old key value value new
  stands_stored absent is written packed = rw absent (refl, is, written, packed)

  -- an equal key finds the pair that was stored
  pub finds_stored : (same : K) → cmp key same ≡ Equal → new.pairs ≡ put cmp old.pairs key value → pair_at cmp new.pairs same ≡ Some (key, value)
  finds_stored same equal is = rw is (pair_at-put o same old.pairs key value ∙ rw equal refl)

-- the answer of an insert that stored nothing
abbrev failed : {K V : Type 0} → InsertError K V → Result (Unit {0}) (InsertError K V)
failed error = Err error

-- an insert of an absent key that stored nothing was refused memory
pub refused_absent : {K V : Type 0} (cmp : K → K → Ordering) (IsInfallible : K → Type 0) (LEN : ℕ) (old new : Index K V) (key : K) (value : V) (error : InsertError K V) → IsAbsent cmp old.pairs key → Inserts cmp old.pairs key value (failed error) new.pairs → SpendsInsert LEN old new (failed error) → IsRefusedAt cmp IsInfallible old key new
refused_absent cmp IsInfallible LEN old new key value (Duplicate k v) absent inserts spends =
    let present : is_some (pair_at cmp old.pairs key) ≡ true = inserts.0 in
    absurd (let wrong : false ≡ true = rw absent at present in cc)
refused_absent cmp IsInfallible LEN old new key value (OutOfMemory k v) absent inserts spends = record { absent = absent; kept = inserts.3; spent = λ sure. spends }
