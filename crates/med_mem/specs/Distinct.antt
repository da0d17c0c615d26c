-- A list with its repeats dropped: each element once, in the order of first occurrence.
use Rattle.std.specs.Prelude.{Bool, not, List, [], ◌∷◌}
use Rattle.std.specs.List.{filter}

-- those that the test holds different from one
abbrev pub without : {K : Type 0} → (K → K → Bool) → K → List K → List K
without is_same x xs = filter (λ y. not (is_same x y)) xs

-- the first element, and the others without it
abbrev pub distinct : {K : Type 0} → (K → K → Bool) → List K → List K
distinct is_same [] = []
distinct is_same (x ∷ xs) = x ∷ without is_same x (distinct is_same xs)
