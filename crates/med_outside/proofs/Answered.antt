-- What is known of a call by its answer, whose refusal may have been changed by `map_err`.
use Rattle.std.proofs.Common.{◌≡◌, true, false, is_ok, Result, Ok, Err, IfOk, OnOk, OnErr, ◌≤◌, arith}
use Rattle.med_outside.specs.Snapshot.{SnapState, StaysOpen}

-- what holds holds after a refusal
pub on_err : {T E : Type 0} {P : Type 0} (r : Result T E) → P → OnErr r P
on_err (Ok x) h = tt
on_err (Err e) h = h

-- the call was a good one
pub from_ok : {T E P : Type 0} (r : Result T E) → true ≡ is_ok r → OnOk r P → P
from_ok (Ok x) e h = h
from_ok (Err x) e h = absurd (cc e)

-- the call was refused
pub from_err : {T E P : Type 0} (r : Result T E) → false ≡ is_ok r → OnErr r P → P
from_err (Ok x) e h = absurd (cc e)
from_err (Err x) e h = h

-- some value of a good call
pub some_value : {T E : Type 0} (P : T → Type 0) (r : Result T E) → true ≡ is_ok r → IfOk r P
    → (x : T) × P x
some_value P (Ok y) e h = (y, h)
some_value P (Err y) e h = absurd (cc e)

-- what holds after a refusal gives another thing then
pub err_with : {T E P Q : Type 0} → (P → Q) → (r : Result T E) → OnErr r P → OnErr r Q
err_with so (Ok x) h = tt
err_with so (Err x) h = so h
