-- What an error of an opening says.
use Rattle.store_log.specs.declared.error.OpenError.{OpenError}
use Rattle.store_log.specs.declared.error.OpenError.TheVariants.{Log, Blank, NoHead, OtherKinds, Damaged, Lost, Occupied}

-- it refuses what is in the file
abbrev pub IsRefusal : OpenError → Type 0
IsRefusal (Log error) = ⊥
IsRefusal Blank = Unit {0}
IsRefusal NoHead = Unit {0}
IsRefusal OtherKinds = Unit {0}
IsRefusal (Damaged at) = Unit {0}
IsRefusal (Lost at) = Unit {0}
IsRefusal Occupied = Unit {0}
