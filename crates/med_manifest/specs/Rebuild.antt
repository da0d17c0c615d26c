-- The changes that make the index of a node just what its backups give.
use Rattle.std.specs.Prelude.{◌≡◌, ℕ, Bool, false, not, ◌&&◌, List, [], ◌∷◌, ◌++◌, filter, Option, Some, None, bytes_eq}
use Rattle.std.specs.FinMap.{get, keys, contains_key}
use Rattle.med_base.specs.Content.{Content}
use Rattle.med_base.specs.Effects.{Effect}
use Rattle.med_base.specs.Kinds.{Kind, Entry}
use Rattle.med_manifest.specs.Index.{Entries, IsGiven}
use Rattle.med_manifest.specs.Listed.{paths_of, removes}
use Rattle.med_manifest.specs.Mend.{put_unless, changes_of_mend}
use Rattle.med_manifest.specs.Reads.{DoAllRead}

-- an entry that the index has of the node
abbrev pub is_entry_of_node : List ℕ → Kind → Bool
is_entry_of_node f (Entry g n kind) = bytes_eq g f
is_entry_of_node f _ = false

-- an entry that the index has of the backup
abbrev pub is_entry_of : List ℕ → List ℕ → Kind → Bool
is_entry_of f n (Entry g m kind) = bytes_eq g f && bytes_eq m n
is_entry_of f n _ = false

-- the paths of the entries that stand and aren't given
abbrev pub not_given : List ℕ → Content → List ℕ → Entries → List (List ℕ)
not_given before c f entries =
    filter (λ path. not (contains_key entries path)) (paths_of before c (is_entry_of_node f))

-- one entry is put, where it is given and doesn't stand with the same bytes
abbrev pub put_entry : Content → List ℕ → Option (List ℕ) → ℕ → List Effect
put_entry c path None second = []
put_entry c path (Some bytes) second = put_unless c path bytes second

-- so are the entries under these paths; `seconds` are those of the puts
abbrev pub put_entries : Content → Entries → List (List ℕ) → (List ℕ → ℕ) → List Effect
put_entries c entries [] seconds = []
put_entries c entries (path ∷ paths) seconds =
    put_entry c path (get entries path) (seconds path) ++ put_entries c entries paths seconds

-- the latest entry is mended, entries that aren't given are removed, and those that are given are
-- put, both in byte order of their paths
abbrev pub changes_of_rebuild : List ℕ → Content → List ℕ → Entries → (ℕ → ℕ) → (List ℕ → ℕ)
    → List Effect
changes_of_rebuild before c f entries of_mend of_entries =
    changes_of_mend before c f [] of_mend
    ++ (removes (not_given before c f entries) ++ put_entries c entries (keys entries) of_entries)

-- the changes are the list that makes the index of the node just what its backups give
pub record IsListOfRebuild (before : List ℕ) (c : Content) (f : List ℕ) (xs : List Effect) : Type 0
  where
    pub entries : Entries
    pub given : IsGiven before c f entries
    pub of_mend : ℕ → ℕ
    pub of_entries : List ℕ → ℕ
    pub list : xs ≡ changes_of_rebuild before c f entries of_mend of_entries

-- the manifests of the node read, and the changes are that list
pub record IsRebuildOf (before : List ℕ) (c : Content) (f : List ℕ) (xs : List Effect) : Type 0
  where
    pub read : DoAllRead before c f []
    pub made : IsListOfRebuild before c f xs
