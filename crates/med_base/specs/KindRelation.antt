-- What it means that a path is of a kind, without a word on how the kind is found.
-- Each path is of exactly one kind; the law `builders_and_kinds` says so of `kind_of`.
use Rattle.std.specs.Prelude.{◌≡◌, ◌↔◌, ◌++◌, ℕ, List, Option, Some, None, codes}
use Rattle.med_base.specs.Kinds.{Kind, Shared, Own, Meta, Entry, Latest, Stray, Other, IsFqdn, IsBackupName, IsBuilt}
use Rattle.med_base.specs.Classify.{kind_of}
use Rattle.med_base.specs.Layout.{node_folder}

-- no builder gives this path for any values
abbrev pub IsUnbuilt : List ℕ → List ℕ → Type 0
IsUnbuilt before path = (k : Kind) → IsBuilt before path k → ⊥

-- the backup in whose folder this lies, told by the text behind the folder of its node: there is
-- one exactly where the text begins with a name of a backup and a slash
abbrev pub IsInBackup : List ℕ → Option (List ℕ) → Type 0
IsInBackup rest (Some n) = IsBackupName n × ((more : List ℕ) × (rest ≡ n ++ (codes "/" ++ more)))
IsInBackup rest None = (n more : List ℕ) → IsBackupName n → rest ≡ n ++ (codes "/" ++ more) → ⊥

-- a path in the folder of a node that no builder gives
pub record IsStray (before path f : List ℕ) (n : Option (List ℕ)) : Type 0 where
  pub node : IsFqdn f
  pub rest : List ℕ
  pub under : path ≡ node_folder before f ++ rest
  pub backup : IsInBackup rest n
  pub unbuilt : IsUnbuilt before path

-- a path in the folder of no node that no builder gives
pub record IsOther (before path : List ℕ) : Type 0 where
  pub outside : (f rest : List ℕ) → IsFqdn f → path ≡ node_folder before f ++ rest → ⊥
  pub unbuilt : IsUnbuilt before path

-- the path is of the kind, with its values
abbrev pub IsOfKind : List ℕ → List ℕ → Kind → Type 0
IsOfKind before path (Stray f n) = IsStray before path f n
IsOfKind before path Other = IsOther before path
IsOfKind before path (Shared f key) = IsBuilt before path (Shared f key)
IsOfKind before path (Own f n key) = IsBuilt before path (Own f n key)
IsOfKind before path (Meta f n kind) = IsBuilt before path (Meta f n kind)
IsOfKind before path (Entry f n kind) = IsBuilt before path (Entry f n kind)
IsOfKind before path (Latest f kind) = IsBuilt before path (Latest f kind)

-- a path is of this kind exactly where `kind_of` says so
abbrev pub KindsAreTold : Type 0
KindsAreTold = (before path : List ℕ) (k : Kind)
    → (kind_of before path ≡ k) ↔ IsOfKind before path k

-- whatever a builder gives has the kind and the values that it was built from
abbrev pub BuiltIsTold : Type 0
BuiltIsTold = (before path : List ℕ) (k : Kind) → IsBuilt before path k → kind_of before path ≡ k

-- two builders, or two values, never give one path
abbrev pub PathsAreApart : Type 0
PathsAreApart = (before path : List ℕ) (j k : Kind) → IsBuilt before path j → IsBuilt before path k
    → j ≡ k
