-- The entries that an index has of a backup, as far as a listing was walked.
use Rattle.std.specs.Prelude.{◌≡◌, ◌++◌, ℕ, Bool, true, List, [], ◌∷◌, if◌then◌else◌}
use Rattle.std.specs.List.{AllByRecursion}
use Rattle.med_base.specs.Classify.{kind_of}
use Rattle.med_base.specs.Content.{Content}
use Rattle.med_base.specs.Kinds.{Kind}
use Rattle.med_manifest.specs.Listed.{paths_of}
use Rattle.med_manifest.specs.Rebuild.{is_entry_of}
use Rattle.med_outside.specs.declared.storage.Entry.{Entry}

-- ---- for this crate's own clauses

-- the path is that of an entry that the index has of the backup
abbrev pub IsEntryOfBackup : List ℕ → List ℕ → List ℕ → List ℕ → Type 0
IsEntryOfBackup before f n path = is_entry_of f n (kind_of before path) ≡ true

-- the paths of a listing whose kind passes a test
abbrev pub wanted : List ℕ → (Kind → Bool) → List Entry → List (List ℕ)
wanted before test [] = []
wanted before test (e ∷ es) =
    if test (kind_of before e.path) then e.path ∷ wanted before test es else wanted before test es

-- the paths that were kept, and those of the rest, are all that the index has of the backup
abbrev pub AreKept : List ℕ → List ℕ → List (List ℕ) → List ℕ → Content → List Entry → Type 0
AreKept f n kept before c rest =
    kept ++ wanted before (is_entry_of f n) rest ≡ paths_of before c (is_entry_of f n)

-- the paths were kept for this backup, and each is that of an entry of it
pub record IsKeeping (before f n node name : List ℕ) (kept : List (List ℕ)) : Type 0 where
  pub node_is : node ≡ f
  pub name_is : name ≡ n
  pub paths : AllByRecursion (IsEntryOfBackup before f n) kept
