-- Which calls of a store in memory are set to fail.
use Rattle.std.specs.Prelude.{◌≡◌, ◌<◌, ◌+◌, ◌-◌, ◌^◌, ◌==◌, ◌||◌, ◌++◌, ℕ, Bool, true, false, List, [], ◌∷◌, Option, Some, None, Result, Ok, Err, option_map, bytes_eq, take, drop, length, if◌then◌else◌}
use Rattle.med_outside.specs.declared.denied.Denied.{Denied}
use Rattle.med_outside.specs.declared.denied.Denied.TheVariants.{Failed}
use Rattle.med_mem.specs.declared.faults.MemWhen.{MemWhen}
use Rattle.med_mem.specs.declared.faults.MemWhen.TheVariants.{Step, PutOf}
use Rattle.med_mem.specs.declared.faults.MemFault.{MemFault}

-- it is the call of that number
abbrev pub is_step : ℕ → MemWhen → Bool
is_step step (Step k) = k == step
is_step step (PutOf path) = false

-- it is a put of that path
abbrev pub is_put : List ℕ → MemWhen → Bool
is_put path (Step k) = false
is_put path (PutOf other) = bytes_eq other path

-- whether the first of these that passes a test takes effect, where there is one
abbrev pub first_lands : (MemWhen → Bool) → List MemFault → Option Bool
first_lands test [] = None
first_lands test (f ∷ fs) = if test f.when then Some f.lands else first_lands test fs

-- What is set for a call that comes after so many: none, or that it fails, and whether it takes
-- effect. Where no call more can be counted it fails, and takes none.
abbrev pub due : (calls : ℕ) → (MemWhen → Bool) → List MemFault → Option Bool
due calls test faults = if calls == 2 ^ 64 - 1 then Some false else first_lands test faults

-- the same of a call that puts nothing
abbrev pub due_other : ℕ → List MemFault → Option Bool
due_other calls = due calls (is_step (calls + 1))

-- the same of a put of a path
abbrev pub due_put : ℕ → List ℕ → List MemFault → Option Bool
due_put calls path = due calls (λ when. is_step (calls + 1) when || is_put path when)

-- the same of a call that changes nothing, whether or not it is set to take effect
abbrev pub due_look : ℕ → List MemFault → Option Bool
due_look calls faults = option_map (λ (lands : Bool). false) (due_other calls faults)

-- what is set once a put of the path was called: the first that was set for a put of it is dropped
abbrev pub after_put : List ℕ → List MemFault → List MemFault
after_put path [] = []
after_put path (f ∷ fs) = if is_put path f.when then fs else f ∷ after_put path fs

-- ---- for this crate's own clauses

-- how a call begins for which this is set: whether it fails later, or that it fails at once
abbrev pub begun : Option Bool → Result Bool Denied
begun None = Ok false
begun (Some true) = Ok true
begun (Some false) = Err Failed

-- the first that is set for a put of the path stands at that place, or none is
abbrev pub IsPlaceOfPut : List ℕ → List MemFault → Option ℕ → Type 0
IsPlaceOfPut path fs None = after_put path fs ≡ fs
IsPlaceOfPut path fs (Some i) = (i < length fs) × (after_put path fs ≡ take i fs ++ drop (i + 1) fs)
