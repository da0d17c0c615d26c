-- Which calls of an object in memory fail, and how many failed.
use Rattle.std.specs.Prelude.{◌≡◌, ◌↔◌, ◌==◌, ◌+◌, ◌-◌, ◌^◌, ℕ, min, Bool, true, List, [], ◌∷◌, ◌++◌, Result, IsErrOf, if◌then◌else◌}
use Rattle.std.specs.List.{list_any}
use Rattle.med_outside.specs.Causes.{one_more}
use Rattle.med_outside.specs.declared.denied.Denied.{Denied}
use Rattle.med_outside.specs.declared.denied.Denied.TheVariants.{Failed}

-- what a contract sees of the calls of an object that can answer a fault
pub record Failing : Type 0 where
  -- the numbers of those that fail, counted from 1
  pub steps : List ℕ
  -- how many were made, held at the last value of a 64-bit counter
  pub calls : ℕ
  -- how many failed, held there too
  pub faults : ℕ

-- these calls fail, and none was made yet
abbrev pub unmade : List ℕ → Failing
unmade steps = record { steps = steps; calls = 0; faults = 0 }

-- one call more fails
abbrev pub with_step : ℕ → Failing → Failing
with_step step f = record { steps = f.steps ++ step ∷ []; calls = f.calls; faults = f.faults }

-- the next call fails; behind the last value of a 64-bit counter a call has no number, and doesn't
abbrev pub fails : Failing → Bool
fails f = list_any (λ (k : ℕ). k == f.calls + 1) f.steps

-- a call was made that didn't fail
abbrev pub after_success : Failing → Failing
after_success f = record { steps = f.steps; calls = one_more f.calls; faults = f.faults }

-- a call was made and failed
abbrev pub after_failure : Failing → Failing
after_failure f = record {
  steps = f.steps;
  calls = one_more f.calls;
  faults = one_more f.faults;
}

-- a call was made, and failed if it was to fail
abbrev pub after_call : Failing → Failing
after_call f = if fails f then after_failure f else after_success f

-- no call was made, but so many faults are counted more
abbrev pub with_faults : ℕ → Failing → Failing
with_faults more f = record {
  steps = f.steps;
  calls = f.calls;
  faults = min (f.faults + more) (2 ^ 64 - 1);
}

-- a call failed exactly if it was to fail
abbrev pub FailsAsTold : {T : Type 0} → Failing → Result T Denied → Type 0
FailsAsTold f result = IsErrOf result Failed ↔ (fails f ≡ true)
