-- A run of inserts in ascending order, by what each of them did to the index.
use Rattle.std.proofs.Common.{◌≡◌, ◌≢◌, ℕ, suc, ◌+◌, true, List, [], ◌∷◌, ◌++◌, map, length, length-append, refl, ap, ◌∙◌, arith, inl, Ordering, Less}
use Rattle.tree_model.proofs.Common.{AllByRecursion, IsTotalOrder, AllLarger, IsAscending}
use Rattle.tree_model.specs.declared.commands.Command.{Command}
use Rattle.tree_model.specs.declared.commands.Command.TheVariants.{Insert}
use Rattle.tree_model.specs.declared.commands.Reply.{Reply}
use Rattle.tree_model.specs.declared.commands.Reply.TheVariants.{Stored, Duplicate, Removed, Done, Found}
use Rattle.tree_model.specs.declared.commands.Reply.TheVariants.{Refused}
use Rattle.tree_model.specs.Runs.{Step}
use Rattle.tree_model.proofs.Lists.{all_map, all-append}
use Rattle.tree_model.proofs.LookUps.{absent_beyond, put_beyond}
use Rattle.tree_state.specs.Climbs.{PacksBy}
use Rattle.tree_index.specs.Index.{Index, IsShallow}

module _ {K V S : Type 0} (cmp : K → K → Ordering) (seen : V → S) (LEN : ℕ) where
  -- from one state of the index to the next by each command
  abbrev pub Leads : Index K V → List (Command K V) → List (Reply V) → Index K V → Type 0
  Leads old [] [] new = new ≡ old
  Leads old (command ∷ commands) (reply ∷ replies) new =
      (mid : Index K V) × (Step cmp seen old.pairs command reply mid.pairs × PacksBy cmp LEN command old mid reply) × Leads mid commands replies new
  Leads old [] (reply ∷ replies) new = ⊥
  Leads old (command ∷ commands) [] new = ⊥

module _ {K V S : Type 0} {cmp : K → K → Ordering} (o : IsTotalOrder cmp) (seen : V → S) (LEN : ℕ) where
  -- each pair with a larger key keeps a packed index so, which isn't deep
  climb : (rest : List (K × V)) (old new : Index K V) (replies : List (Reply V)) → IsAscending cmp rest → AllByRecursion (λ p. AllLarger cmp p.0 rest) old.pairs → old.packed ≡ true → IsShallow LEN (length old.pairs) old.depth
      → Leads cmp seen LEN old (map (λ p. Insert p.0 p.1) rest) replies new → AllByRecursion (λ reply. reply ≢ Refused) replies → IsShallow LEN (length old.pairs + length rest) new.depth
  climb [] old new [] ascending smaller packed shallow leads taken =
      let same : length old.pairs + 0 ≡ length old.pairs = omega arith in
      rw (same, leads) shallow
  climb [] old new (reply ∷ replies) ascending smaller packed shallow leads taken = absurd leads
  climb (p ∷ rest) old new [] ascending smaller packed shallow leads taken = absurd leads
  climb (p ∷ rest) old new (Stored ∷ replies) ascending smaller packed shallow leads taken =
      let less : AllByRecursion (λ q. cmp q.0 p.0 ≡ Less) old.pairs = all_map (λ q larger. larger.0) old.pairs smaller in
      let pairs_are : leads.0.pairs ≡ old.pairs ++ (p.0, p.1) ∷ [] = leads.1.0.1 ∙ put_beyond cmp old.pairs p.0 p.1 less in
      let still = leads.1.1.1 less packed in
      let later : AllByRecursion (λ q. AllLarger cmp q.0 rest) leads.0.pairs = rw pairs_are (all-append _ old.pairs ((p.0, p.1) ∷ []) (all_map (λ q larger. larger.1) old.pairs smaller) (ascending.0, tt)) in
      let deep = climb rest leads.0 new replies ascending.1 later still (leads.1.1.0.shallow still) leads.2 taken.1 in
      let same : length leads.0.pairs + length rest ≡ length old.pairs + suc (length rest) = omega (arith, ap length pairs_are, length-append old.pairs ((p.0, p.1) ∷ [])) in
      rw same at deep
  climb (p ∷ rest) old new (Duplicate ∷ replies) ascending smaller packed shallow leads taken =
      absurd (let there = leads.1.0.0 in let none = absent_beyond cmp old.pairs p.0 (all_map (λ q larger. larger.0) old.pairs smaller) in let bad = rw none at there in cc)
  climb (p ∷ rest) old new (Refused ∷ replies) ascending smaller packed shallow leads taken = absurd (taken.0 refl)
  climb (p ∷ rest) old new (Removed was ∷ replies) ascending smaller packed shallow leads taken = absurd leads.1.0
  climb (p ∷ rest) old new (Done ∷ replies) ascending smaller packed shallow leads taken = absurd leads.1.0
  climb (p ∷ rest) old new (Found found ∷ replies) ascending smaller packed shallow leads taken = absurd leads.1.0

  -- so from an index without a level the depth stays small
  pub climbs : (pairs : List (K × V)) (old new : Index K V) (replies : List (Reply V)) → IsAscending cmp pairs → Leads cmp seen LEN old (map (λ p. Insert p.0 p.1) pairs) replies new → AllByRecursion (λ reply. reply ≢ Refused) replies → old.depth ≡ 0
      → IsShallow LEN (length pairs) new.depth
  climbs [] old new [] ascending leads taken none = inl (omega (arith, none, ap (λ (index : Index K V). index.depth) leads))
  climbs [] old new (reply ∷ replies) ascending leads taken none = absurd leads
  climbs (p ∷ rest) old new [] ascending leads taken none = absurd leads
  climbs (p ∷ rest) old new (Stored ∷ replies) ascending leads taken none =
      let first = leads.1.1.0.first none in
      let pairs_are : leads.0.pairs ≡ (p.0, p.1) ∷ [] = rw first.3 at leads.1.0.1 in
      let deep = climb rest leads.0 new replies ascending.1 (rw pairs_are (ascending.0, tt)) first.2 (leads.1.1.0.shallow first.2) leads.2 taken.1 in
      let same : length leads.0.pairs + length rest ≡ suc (length rest) = omega (arith, ap length pairs_are) in
      rw same at deep
  climbs (p ∷ rest) old new (Duplicate ∷ replies) ascending leads taken none = absurd (omega (arith, none, leads.1.1))
  climbs (p ∷ rest) old new (Refused ∷ replies) ascending leads taken none = absurd (taken.0 refl)
  climbs (p ∷ rest) old new (Removed was ∷ replies) ascending leads taken none = absurd leads.1.0
  climbs (p ∷ rest) old new (Done ∷ replies) ascending leads taken none = absurd leads.1.0
  climbs (p ∷ rest) old new (Found found ∷ replies) ascending leads taken none = absurd leads.1.0
