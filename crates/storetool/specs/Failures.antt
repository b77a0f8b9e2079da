-- The exit status of a failure.
use Rattle.std.specs.Prelude.{ℕ}
use Rattle.storetool.specs.declared.failure.Failure.{Failure}
use Rattle.storetool.specs.declared.failure.Failure.TheVariants.{Input, Output, BadLine, Commit, Memory, NoMemory, Busy, NoFile, Open, IsFolder, NotPlain, Store}
use Rattle.tree_store.specs.declared.error.OpenError.TheVariants.{Log as InLog, Memory as NoRoom}
use Rattle.store_log.specs.declared.error.OpenError.TheVariants.{Log as Failed}

-- 2 for streams, 3 for a commit, 4 for files that can't be opened, 5 for damage or files of something else
abbrev pub status_of : Failure → ℕ
status_of Input = 2
status_of Output = 2
status_of (BadLine line) = 2
status_of (Commit error) = 3
status_of Memory = 3
status_of NoMemory = 4
status_of Busy = 4
status_of NoFile = 4
status_of (Open error) = 4
status_of IsFolder = 4
status_of NotPlain = 4
status_of (Store NoRoom) = 4
status_of (Store (InLog (Failed error))) = 4
status_of failure = 5
