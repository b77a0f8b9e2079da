-- Events before a time.
use Rattle.std.specs.Prelude.{ℕ, List, filter, nat_lt}
use Rattle.usage.specs.declared.events.Stamp.{Stamp}

-- the events whose times are smaller
abbrev pub earlier : ℕ → List Stamp → List Stamp
earlier time events = filter (λ event. nat_lt event.time time) events
