-- The paths of a content that are of some kinds, in byte order.
use Rattle.std.specs.Prelude.{ℕ, Bool, List, [], ◌∷◌, map, if◌then◌else◌}
use Rattle.std.specs.FinMap.{keys, retain_keys, contains_key}
use Rattle.med_base.specs.Classify.{kind_of}
use Rattle.med_base.specs.Content.{Content}
use Rattle.med_base.specs.Effects.{Effect, Removes}
use Rattle.med_base.specs.Kinds.{Kind}

-- the paths under which an object stands and whose kind passes a test
abbrev pub paths_of : List ℕ → Content → (Kind → Bool) → List (List ℕ)
paths_of before c test = keys (retain_keys c (λ path. test (kind_of before path)))

-- the path, if an object stands under it
abbrev pub if_stands : Content → List ℕ → List (List ℕ)
if_stands c path = if contains_key c path then path ∷ [] else []

-- the object under the path is removed, if there is one
abbrev pub remove_if_stands : Content → List ℕ → List Effect
remove_if_stands c path = if contains_key c path then Removes path ∷ [] else []

-- each of these is removed
abbrev pub removes : List (List ℕ) → List Effect
removes paths = map (λ path. Removes path) paths
