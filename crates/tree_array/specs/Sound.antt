-- What every array keeps.
use Rattle.std.specs.Prelude.{◌≡◌, ℕ, ◌≤◌, true, [], Some, map, length}
use Rattle.std.specs.declared.cmp.Ordering.{Ordering}
use Rattle.std.specs.declared.cmp.Ordering.TheVariants.{Equal}
use Rattle.tree_model.specs.Pairs.{IsAscending}
use Rattle.tree_array.specs.Arrivals.{Arrivals, arrival, reachable, sorted, slots_in_order}
use Rattle.tree_array.specs.Length.{IsLen}

pub record IsSound {K V : Type 0} (cmp : K → K → Ordering) (len : ℕ) (array : Arrivals K V) : Type 0 where
  -- there are 7 slots or 15, and no more arrivals than slots
  pub is_len : IsLen len
  pub few : length array.arrivals ≤ len
  -- no two reachable arrivals have equal keys
  pub distinct : (p q : ℕ) (e f : K × V) → arrival array.arrivals p ≡ Some e → arrival array.arrivals q ≡ Some f → cmp e.0 f.0 ≡ Equal → p ≡ q
  -- the entries are the reachable pairs in strictly ascending order, and `slots_in_order` are their slots
  pub sorted_arrivals : array.entries ≡ sorted cmp (reachable array.arrivals)
  pub ascending : IsAscending cmp array.entries
  pub slots : map (arrival array.arrivals) (slots_in_order cmp array) ≡ map Some array.entries
  -- there are as many entries as reachable arrivals
  pub count : length array.entries ≡ length (reachable array.arrivals)
  pub entries_few : length array.entries ≤ length array.arrivals
  -- a retired array has no entry
  pub none_retired : array.retired ≡ true → array.entries ≡ []
