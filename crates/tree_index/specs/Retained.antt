-- What is left of a list of pairs of which a test was asked. A test is a closure, which each call may change.
use Rattle.std.specs.Prelude.{◌≡◌, Bool, true, false, List, [], ◌∷◌, ◌++◌, if◌then◌else◌, Option, None, Some}
use Rattle.std.specs.Borrow.{Bor}
use Rattle.std.specs.declared.ops.Bound.{Bound}
use Rattle.std.specs.declared.ops.Bound.TheVariants.{Excluded, Unbounded}
use Rattle.std.specs.Fn.{Called, Mut}
use Rattle.std.specs.List.{FoldsTo}

-- the bound behind a pair, if there is one
abbrev pub low_behind : {K V : Type 0} → Option (K × V) → Bound K
low_behind None = Unbounded
low_behind (Some pair) = Excluded pair.0

module _ {F K V : Type 0} (calls : Mut F (Bor K × (Bor V × Unit {0})) Bool) where
  -- a call of the test at the pair may return this, and leave f'
  pub record AnswersAt (f : F) (pair : K × V) (said : Bool) (f' : F) : Type 0 where
    pub key : Bor K
    pub value : Bor V
    pub same_key : key.now ≡ pair.0
    pub same_value : value.now ≡ pair.1
    pub called : Called calls f (key, (value, tt)) said f'

  -- the test was asked of each pair once, in turn, and those are left of which it said yes
  abbrev pub Retains : F → List (K × V) → List (K × V) → Type 0
  Retains f [] left = left ≡ []
  Retains f (pair ∷ pairs) left = (said : Bool) × (f' : F) × (rest : List (K × V)) × AnswersAt f pair said f' × Retains f' pairs rest × (left ≡ (if said then pair ∷ rest else rest))

  -- it said yes of each of these pairs, in turn
  abbrev pub Passes : F → List (K × V) → F → Type 0
  Passes f pairs f' = FoldsTo (λ g pair g'. AnswersAt g pair true g') f pairs f'

  -- it said yes of each pair before this one, and no of this one
  pub record Refuses (f : F) (pairs : List (K × V)) (pair : K × V) (f' : F) : Type 0 where
    pub front : List (K × V)
    pub back : List (K × V)
    pub split : pairs ≡ front ++ pair ∷ back
    pub between : F
    pub passed : Passes f front between
    pub refused : AnswersAt between pair false f'
