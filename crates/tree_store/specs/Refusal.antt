-- What an error of an opening says.
use Rattle.store_log.specs.Refusal.{IsRefusal}
use Rattle.tree_store.specs.declared.error.OpenError.{OpenError}
use Rattle.tree_store.specs.declared.error.OpenError.TheVariants.{Log, Memory, Unreadable}

-- it refuses what the files hold
abbrev pub Refuses : OpenError → Type 0
Refuses (Log error) = IsRefusal error
Refuses Memory = ⊥
Refuses Unreadable = Unit {0}

-- it does so before anything was changed
abbrev pub RefusesAtOnce : OpenError → Type 0
RefusesAtOnce (Log error) = IsRefusal error
RefusesAtOnce Memory = ⊥
RefusesAtOnce Unreadable = ⊥
