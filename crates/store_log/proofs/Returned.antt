-- Facts that hold whatever a call returned.
use Rattle.std.proofs.Common.{◌≡◌, ◌⊎◌, inl, inr, ℕ, ◌<◌, arith}
use Rattle.std.specs.Prelude.{Result, Ok, Err, IfErr, IfOk, OnOk, OnErr, Option, Some, None, IfSome, IfNone}

pub given_err : {T E P : Type 0} (r : Result T E) → P → OnErr r P
given_err (Ok x) p = search
given_err (Err e) p = p

pub given_ok : {T E P : Type 0} (r : Result T E) → P → OnOk r P
given_ok (Ok x) p = p
given_ok (Err e) p = search

pub if_ok_then : {T E : Type 0} {P Q : T → Type 0} (r : Result T E) → IfOk r P → ((x : T) → P x → Q x) → IfOk r Q
if_ok_then (Ok x) p f = f x p
if_ok_then (Err e) p f = search

pub ok_after : {T E P Q : Type 0} (r : Result T E) → OnOk r P → (P → Q) → OnOk r Q
ok_after (Ok x) p f = f p
ok_after (Err e) p f = search

-- a failed call stops the log, or leaves room
pub err_after : {T E P S Q : Type 0} (r : Result T E) (room : ℕ) → OnErr r ((room ≡ 0) ⊎ P) → (room ≡ 0 → S) → (P → Q) → OnErr r (S ⊎ Q)
err_after (Ok x) room p f h = search
err_after (Err e) room (inl z) f h = inl (f z)
err_after (Err e) room (inr p) f h = inr (h p)

-- what holds after both outcomes, where there is room
pub with_room : {T E P R Q : Type 0} (r : Result T E) (room : ℕ) → 0 < room → OnOk r P → OnErr r ((room ≡ 0) ⊎ R) → (P → Q) → (R → Q) → Q
with_room (Ok x) room some ok err f h = f ok
with_room (Err e) room some ok (inl z) f h = absurd (omega (arith, some, z))
with_room (Err e) room some ok (inr p) f h = h p

pub if_some_then : {A : Type 0} {P Q : A → Type 0} (o : Option A) → IfSome o P → ((x : A) → P x → Q x) → IfSome o Q
if_some_then (Some x) p f = f x p
if_some_then None p f = search

pub if_none_then : {A P Q : Type 0} (o : Option A) → IfNone o P → (P → Q) → IfNone o Q
if_none_then (Some x) p f = search
if_none_then None p f = f p

pub if_err_then : {T E : Type 0} {P Q : E → Type 0} (r : Result T E) → IfErr r P → ((e : E) → P e → Q e) → IfErr r Q
if_err_then (Ok x) p f = search
if_err_then (Err e) p f = f e p
