-- What a reader is passed, and what it returns. A reader is called at most once, at a key and a value.
use Rattle.std.specs.Prelude.{◌≡◌, Option, Some, None, ⊤}
use Rattle.std.specs.Borrow.{Bor}
use Rattle.std.specs.Fn.{FnOnceReturns, Once}

module _ {K V R F : Type 0} (calls : Once F (Bor K × (Bor V × Unit {0})) R) (reader : F) where
  -- the reader may be called at the pair
  abbrev pub TakesPair : K × V → Type 0
  TakesPair pair = (key : Bor K) (value : Bor V) → key.now ≡ pair.0 → value.now ≡ pair.1 → calls.pre reader (key, (value, tt))

  -- r is a result of the reader at the pair
  pub record ReturnsAtPair (pair : K × V) (r : R) : Type 0 where
    pub key : Bor K
    pub value : Bor V
    pub same_key : key.now ≡ pair.0
    pub same_value : value.now ≡ pair.1
    pub returned : FnOnceReturns calls reader (key, (value, tt)) r

  -- The answer is the reader's result at the pair that was found, or none if none was.
  abbrev pub Reads : Option (K × V) → Option R → Type 0
  Reads (Some pair) (Some r) = ReturnsAtPair pair r
  Reads None None = ⊤
  Reads _ _ = ⊥
