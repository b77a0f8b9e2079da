-- Room for one more, after it was asked for and not refused.
use Rattle.std.proofs.Common.{◌≡◌, ℕ, ◌+◌, ◌<◌, ◌≤◌, false, Result, Ok, Err, arith, OnOk, is_err}

pub room_left : {T E : Type 0} (result : Result T E) (len capacity : ℕ) → OnOk result (len + 1 ≤ capacity) → is_err result ≡ false → len < capacity
room_left (Ok x) len capacity room granted = omega (arith, room)
room_left (Err e) len capacity room granted = absurd (cc)
