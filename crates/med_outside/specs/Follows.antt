-- The seconds that changes of a storage have.
use Rattle.std.specs.Prelude.{◌≡◌, ◌≤◌, ℕ, Bool, List, [], ◌∷◌, Option, Some, None, IsTrue}
use Rattle.med_base.specs.Effects.{Effect, Stores, Removes}

-- what is told of the second after them: each put has the second that was told, and the next one is
-- no lower where the second never falls; what isn't told stays so
abbrev pub Follows : (never_falls : Bool) → Option ℕ → List Effect → Option ℕ → Type 0
Follows never_falls told [] now = now ≡ told
Follows never_falls None (x ∷ xs) now = now ≡ None
Follows never_falls (Some second) (Stores path bytes at ∷ xs) now =
    (at ≡ second) × ((next : ℕ) × (IsTrue never_falls → second ≤ next)
    × Follows never_falls (Some next) xs now)
Follows never_falls (Some second) (Removes path ∷ xs) now =
    Follows never_falls (Some second) xs now
