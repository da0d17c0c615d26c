-- A fault has a cause: a count that the caller can't raise.
use Rattle.std.specs.Prelude.{ℕ, ◌+◌, ◌-◌, ◌^◌, ◌≤◌, min, Result, IsErrOf}
use Rattle.med_outside.specs.declared.denied.Denied.{Denied}
use Rattle.med_outside.specs.declared.denied.Denied.TheVariants.{Failed}

-- one more, up to the last value of a 64-bit counter
abbrev pub one_more : ℕ → ℕ
one_more n = min (n + 1) (2 ^ 64 - 1)

-- the count rose, or stands at the last value of a 64-bit counter
abbrev pub RoseOrFull : ℕ → ℕ → Type 0
RoseOrFull before now = one_more before ≤ now

-- the count doesn't fall, and a failure is told only where it rose
pub record HasCause {T : Type 0} (before now : ℕ) (result : Result T Denied) : Type 0 where
  pub later : before ≤ now
  pub failed : IsErrOf result Failed → RoseOrFull before now
