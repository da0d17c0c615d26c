-- Refused puts of the entries of a backup that starts: fewer were recorded than there are.
use Rattle.std.proofs.Common.{◌≡◌, ◌≤◌, ◌+◌, ℕ, Bool, true, false, length, Result, OnErr, arith}
use Rattle.std.specs.Prelude.{if◌then◌else◌}
use Rattle.med_outside.specs.Makes.{IsShort}
use Rattle.med_outside.specs.declared.trace.Trace.{Trace}
use Rattle.med_outside.proofs.Answered.{err_with}
use Rattle.med_outside.proofs.Making.{short_behind}

-- how many entries there are
abbrev size : Bool → ℕ
size is_differential = if is_differential then 3 else 2

two_at_least : (d : Bool) → 2 ≤ size d
two_at_least true = omega arith
two_at_least false = omega arith

-- two, and the mark of a differential backup
with_mark : (d : Bool) → 2 + (if d then 1 else 0) ≤ size d
with_mark true = omega arith
with_mark false = omega arith

-- the first put was refused
pub refused_first : (d : Bool) (t0 t1 : Trace) → IsShort 1 t0 t1 → IsShort (size d) t0 t1
refused_first d t0 t1 short =
    short_behind (size d) t0 t0 t1 0 1 (omega arith) (omega (arith, two_at_least d)) short

-- the second one was, behind the first
pub refused_second : (d : Bool) (t0 t1 t2 : Trace)
    → length t1.changes.items ≡ length t0.changes.items + 1 → IsShort 1 t1 t2
    → IsShort (size d) t0 t2
refused_second d t0 t1 t2 gain short =
    short_behind (size d) t0 t1 t2 1 1 gain (two_at_least d) short

-- the mark was, or wasn't, behind both
pub refused_mark : (d : Bool) (t0 t1 t2 t3 : Trace)
    → length t1.changes.items ≡ length t0.changes.items + 1
    → length t2.changes.items ≡ length t1.changes.items + 1 → {T E : Type 0} (r : Result T E)
    → OnErr r (IsShort (if d then 1 else 0) t2 t3) → OnErr r (IsShort (size d) t0 t3)
refused_mark d t0 t1 t2 t3 one two r =
    err_with (short_behind (size d) t0 t2 t3 2 (if d then 1 else 0) (omega (arith, one, two))
    (with_mark d)) r
