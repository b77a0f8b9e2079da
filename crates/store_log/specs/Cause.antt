-- What caused an error.
use Rattle.store_log.specs.declared.error.LogError.{LogError}
use Rattle.store_log.specs.declared.error.LogError.TheVariants.{Io, Memory, TooLong, Stopped}

-- the disk failed
abbrev pub IsIo : LogError → Type 0
IsIo (Io error) = Unit {0}
IsIo Memory = ⊥
IsIo TooLong = ⊥
IsIo Stopped = ⊥

-- the disk failed, and then this is so; after any other error that is
abbrev pub CausedBy : LogError → Type 0 → Type 0 → Type 0
CausedBy (Io error) fault same = fault
CausedBy Memory fault same = same
CausedBy TooLong fault same = same
CausedBy Stopped fault same = same
