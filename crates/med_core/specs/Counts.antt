-- How many data objects of a node, and how many bytes of them, a list of changes removes.
use Rattle.std.specs.Prelude.{◌≡◌, ℕ, ◌+◌, Bool, false, List, [], ◌∷◌, length, Option, Some, None, if◌then◌else◌, bytes_eq}
use Rattle.std.specs.FinMap.{get, entries}
use Rattle.med_base.specs.Classify.{kind_of}
use Rattle.med_base.specs.Content.{Content, Object}
use Rattle.med_base.specs.Effects.{Effect, Stores, Removes, applied, made}
use Rattle.med_base.specs.Kinds.{Kind, Shared, Own}

-- a number for each object of a content
abbrev pub Weight : Type 0
Weight = List ℕ → Object → ℕ

-- the sum over these objects
abbrev pub total : Weight → List (List ℕ × Object) → ℕ
total weight [] = 0
total weight (e ∷ es) = weight e.0 e.1 + total weight es

-- the sum over all objects
abbrev pub weighed : Weight → Content → ℕ
weighed weight c = total weight (entries c)

-- the number of the object, or 0 where none stands
abbrev pub weight_in : Weight → List ℕ → Option Object → ℕ
weight_in weight path None = 0
weight_in weight path (Some o) = weight path o

-- the number of the object that the change takes
abbrev pub lost : Weight → Content → Effect → ℕ
lost weight c (Stores path bytes second) = 0
lost weight c (Removes path) = weight_in weight path (get c path)

-- the sum over the objects that the removals among these changes take
abbrev pub lost_all : Weight → Content → List Effect → ℕ
lost_all weight c [] = 0
lost_all weight c (x ∷ xs) = lost weight c x + lost_all weight (made x c) xs

-- what the changes take and what they leave make the sum over what stood
abbrev pub CountsWhatGoes : Weight → Content → List Effect → Type 0
CountsWhatGoes weight c xs =
    weighed weight (applied xs c) + lost_all weight c xs ≡ weighed weight c

-- a file of a backup of the node, its own or a shared one
abbrev pub is_data_of : List ℕ → Kind → Bool
is_data_of f (Shared g key) = bytes_eq g f
is_data_of f (Own g n key) = bytes_eq g f
is_data_of f _ = false

-- each data object of the node counts 1
abbrev pub as_file : List ℕ → List ℕ → Weight
as_file before f path o = if is_data_of f (kind_of before path) then 1 else 0

-- each data object of the node counts its bytes
abbrev pub as_bytes : List ℕ → List ℕ → Weight
as_bytes before f path o = if is_data_of f (kind_of before path) then length o.bytes else 0

-- how many data objects of the node these changes remove
abbrev pub removed_files : List ℕ → List ℕ → Content → List Effect → ℕ
removed_files before f c xs = lost_all (as_file before f) c xs

-- how many bytes they have
abbrev pub removed_bytes : List ℕ → List ℕ → Content → List Effect → ℕ
removed_bytes before f c xs = lost_all (as_bytes before f) c xs
