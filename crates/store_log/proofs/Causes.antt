-- What failed calls say of the counts of faults.
use Rattle.std.proofs.Common.{◌≤◌, ℕ, arith}
use Rattle.std.specs.Prelude.{Result, Ok, Err, IfErr}
use Rattle.sqlite_disk.specs.Disk.{CountsFault, MoreFaults}
use Rattle.store_log.specs.Cause.{CausedBy, IsIo}
use Rattle.store_log.specs.declared.error.LogError.{LogError}
use Rattle.store_log.specs.declared.error.LogError.TheVariants.{Io, Memory, TooLong, Stopped}

pub no_less : {T E : Type 0} (r : Result T E) (old new : ℕ) → CountsFault r old new → old ≤ new
no_less (Ok x) old new same = omega (arith, same)
no_less (Err e) old new more = more.1

pub faults_on : (old mid new : ℕ) → old ≤ mid → MoreFaults mid new → MoreFaults old new
faults_on old mid new le more = omega (arith, more)

-- the same of what follows when nothing changed
pub caused_then : {T S S' : Type 0} (F : Type 0) (r : Result T LogError) → (S → S') → IfErr r (λ e. CausedBy e F S) → IfErr r (λ e. CausedBy e F S')
caused_then F (Ok x) f caused = search
caused_then F (Err (Io e)) f caused = caused
caused_then F (Err Memory) f caused = f caused
caused_then F (Err TooLong) f caused = f caused
caused_then F (Err Stopped) f caused = f caused

pub io_caused : {T F F' : Type 0} (S : Type 0) (r : Result T LogError) → IfErr r (λ e. IsIo e × F) → (F → F') → IfErr r (λ e. CausedBy e F' S)
io_caused S (Ok x) failed f = search
io_caused S (Err (Io e)) failed f = f failed.1
io_caused S (Err Memory) failed f = absurd failed.0
io_caused S (Err TooLong) failed f = absurd failed.0
io_caused S (Err Stopped) failed f = absurd failed.0

-- a failed disk says no more
pub disk_caused : (S : Type 0) (e : LogError) → IsIo e → CausedBy e (Unit {0}) S
disk_caused S (Io error) is = tt
disk_caused S Memory is = absurd is
disk_caused S TooLong is = absurd is
disk_caused S Stopped is = absurd is
