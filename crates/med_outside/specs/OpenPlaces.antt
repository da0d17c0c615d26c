-- Where a snapshot stands among those that are open.
use Rattle.std.specs.Prelude.{◌≡◌, ◌<◌, ◌++◌, ◌+◌, ℕ, List, Option, Some, None, take, drop, length}
use Rattle.med_outside.specs.Counts.{Tagged, without_first}

-- the first that is this one stands at that place, or none is
abbrev pub IsPlaceOf : Tagged → List Tagged → Option ℕ → Type 0
IsPlaceOf of ts None = without_first of ts ≡ ts
IsPlaceOf of ts (Some i) =
    (i < length ts) × (without_first of ts ≡ take i ts ++ drop (i + 1) ts)
