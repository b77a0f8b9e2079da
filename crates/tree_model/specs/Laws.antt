-- Laws of the definitions that a reader would expect.
use Rattle.std.specs.Prelude.{◌≡◌, List, Some, None, [], if◌then◌else◌}
use Rattle.std.specs.declared.cmp.Ordering.{Ordering}
use Rattle.std.specs.declared.cmp.Ordering.TheVariants.{Equal}
use Rattle.std.specs.declared.ops.Bound.{Bound}
use Rattle.std.specs.Ordering.{is_eq}
use Rattle.tree_model.specs.declared.commands.Record.{Record}
use Rattle.tree_model.specs.Pairs.{IsAscending, pair_at, put, without, within, cut}
use Rattle.tree_model.specs.History.{Replays}

module _ (K V : Type 0) (cmp : K → K → Ordering) where
  -- an edit leaves an ascending list ascending
  pub record EditsKeepOrder : Type 0 where
    pub put : (l : List (K × V)) (k : K) (v : V) → IsAscending cmp l → IsAscending cmp (put cmp l k v)
    pub without : (l : List (K × V)) (k : K) → IsAscending cmp l → IsAscending cmp (without cmp l k)
    pub cut : (l : List (K × V)) (low high : Bound K) → IsAscending cmp l → IsAscending cmp (cut cmp l low high)

  -- what a look-up of `key` finds after an edit: at the edited key the edit's own answer, at any other key what it found before
  pub record EditsAreFound : Type 0 where
    pub put : (l : List (K × V)) (k : K) (v : V) (key : K) → pair_at cmp (put cmp l k v) key ≡ (if is_eq (cmp k key) then Some (k, v) else pair_at cmp l key)
    pub without : (l : List (K × V)) (k key : K) → pair_at cmp (without cmp l k) key ≡ (if is_eq (cmp k key) then None else pair_at cmp l key)
    pub cut : (l : List (K × V)) (low high : Bound K) (key : K) → pair_at cmp (cut cmp l low high) key ≡ (if within cmp low high key then None else pair_at cmp l key)

  -- an ascending list is known by its look-ups
  abbrev pub LookUpsTellLists : Type 0
  LookUpsTellLists = (l m : List (K × V)) → IsAscending cmp l → IsAscending cmp m → ((key : K) → pair_at cmp l key ≡ pair_at cmp m key) → l ≡ m

  -- of two pairs put at equal keys the later stays
  abbrev pub LaterPutStays : Type 0
  LaterPutStays = (l : List (K × V)) (j k : K) (u v : V) → IsAscending cmp l → cmp j k ≡ Equal → put cmp (put cmp l j u) k v ≡ put cmp l k v

  -- a history replays to one list at most
  abbrev pub ReplaysOnce : {S : Type 0} → (V → S) → Type 0
  ReplaysOnce seen = (history : List (Record K V)) (l m : List (K × V)) → Replays cmp seen [] history l → Replays cmp seen [] history m → l ≡ m
